-- The parts of the decision, put together. Assumes nothing.
use Prim.Native.Nat.{ℕ, ◌*◌, ◌/◌, ◌%◌, ◌<◌}
use mathlib.Core.Path.{◌≡◌, refl, sym, ap, ◌∙◌}
use mathlib.Core.Bool.{Bool, true, false, not, ◌&&◌, ◌||◌}
use mathlib.Core.List.{List, [], ◌∷◌}
use native.Mathlib.Omega.{arith}
use lib.Dec.{eqb}
use lib.ListN.{length, drop, length-drop}
use Rattle.rules.specs.declared.Form.{Form}
use Rattle.rules.specs.declared.Rest.{Rest}
use Rattle.rules.specs.Words.{one_of}
use Rattle.rules.specs.Blocks.{write_locked}
use Rattle.rules.specs.Frames.{listed, length_right, address, security_address}
use Rattle.rules.specs.Programs.{reaches, reaches_first}
use Rattle.rules.specs.Numbers.{not_listed_lem, wrong_length_lem, while_busy, no_enable, no_ioc, no_such_burst, suspension, closed, locked_target, first, command_tests}
use Rattle.rules.proofs.Bools.{or_none}
use Rattle.named.proofs.Lists.{not_among}
use Rattle.judging.specs.Judging.{Judgeable, change_tests}

-- ---- 10 and 11

pub no_data : (sent : List ℕ) → length sent < 4 → false ≡ reaches_first sent
unfolding reaches_first reaches
no_data sent h = go (drop 3 sent) (let e = length-drop 3 sent in omega arith)
  where
    a : ℕ
    a = security_address sent

    go : (ds : List ℕ) → length ds ≡ 0 → false ≡ reaches (a / 256 * 256) (a % 256) ds
    go [] e = refl
    go (d ∷ ds) e = absurd (omega arith)

pub closed_other : (r : Rest) (o : ℕ) (sent : List ℕ) → eqb o 0xA5 ≡ false
    → (one_of o (0x42 ∷ 0x98 ∷ []) && r.flags.wpld || one_of o (0xA5 ∷ 0x85 ∷ []) && r.flags.sec) ≡ closed r o sent
closed_other r o sent e = rw e (sym (or_none _))

pub locked_block_lem : (r : Rest) (o : ℕ) (sent : List ℕ) → eqb o 0xC7 ≡ false → one_of o (0x20 ∷ 0xD8 ∷ 0x02 ∷ 0x32 ∷ []) ≡ true
    → write_locked r.locks.protection (address sent) ≡ locked_target r o sent
locked_block_lem r o sent e t = rw (t, e) (sym (or_none _))

pub locked_none : (r : Rest) (o : ℕ) (sent : List ℕ) → eqb o 0xC7 ≡ false → one_of o (0x20 ∷ 0xD8 ∷ 0x02 ∷ 0x32 ∷ []) ≡ false → false ≡ locked_target r o sent
locked_none r o sent e t = rw (t, e)

-- ---- 9 to 11 in their order

module _ (r : Rest) (o : ℕ) (sent : List ℕ) where
  abbrev needing : List ℕ
  needing = 0x20 ∷ 0xD8 ∷ 0xC7 ∷ 0x02 ∷ 0x32 ∷ 0xA5 ∷ 0x85 ∷ 0x01 ∷ 0xE8 ∷ 0x42 ∷ 0x8D ∷ 0x98 ∷ []

  pub is_no_change : one_of o needing ≡ false → 0 ≡ first (change_tests r o sent)
  is_no_change f =
      rw (f, not_among needing (0x42 ∷ 0x98 ∷ []) o refl f, not_among needing (0xA5 ∷ 0x85 ∷ []) o refl f, not_among needing (0xA5 ∷ []) o refl f, not_among needing (0x20 ∷ 0xD8 ∷ 0x02 ∷ 0x32 ∷ []) o refl f, not_among needing (0xC7 ∷ []) o refl f)

  module _ (t : one_of o needing ≡ true) where
    pub is_9 : r.flags.wel ≡ false → 9 ≡ first (change_tests r o sent)
    is_9 w = rw (t, w)

    module _ (w : r.flags.wel ≡ true) where
      pub is_10 : closed r o sent ≡ true → 10 ≡ first (change_tests r o sent)
      is_10 c = rw (t, w, c)

      module _ (f : closed r o sent ≡ false) where
        pub is_11 : locked_target r o sent ≡ true → 11 ≡ first (change_tests r o sent)
        is_11 l = rw (t, w, f, l)

        pub is_0 : locked_target r o sent ≡ false → 0 ≡ first (change_tests r o sent)
        is_0 l = rw (t, w, f, l)

-- ---- the first that applies

module _ {r : Rest} {o : ℕ} {f : Form} {sent : List ℕ} (j : Judgeable r o f sent) where
  pub not_listed : {b x : Bool} → b ≡ not (listed r.flags.sqi f) → b ≡ x → not_listed_lem r o ≡ x
  not_listed e t = ap (λ (f : Form). not (listed r.flags.sqi f)) (sym j.its_form) ∙ sym e ∙ t

  pub wrong_length : {b x : Bool} → b ≡ not (length_right r.flags.sqi f (length sent)) → b ≡ x → wrong_length_lem r o sent ≡ x
  wrong_length e t = ap (λ (f : Form). not (length_right r.flags.sqi f (length sent))) (sym j.its_form) ∙ sym e ∙ t

  module _ (t₃ : not_listed_lem r o ≡ true) where
    pub is_3 : 3 ≡ first (command_tests r sent)
    unfolding command_tests
    is_3 = rw (sym j.first_byte, t₃)

  module _ (f₃ : not_listed_lem r o ≡ false) where
    pub is_4 : wrong_length_lem r o sent ≡ true → 4 ≡ first (command_tests r sent)
    unfolding command_tests
    is_4 t = rw (sym j.first_byte, f₃, t)

    module _ (f₄ : wrong_length_lem r o sent ≡ false) where
      pub is_5 : while_busy r o ≡ true → 5 ≡ first (command_tests r sent)
      unfolding command_tests
      is_5 t = rw (sym j.first_byte, f₃, f₄, t)

      module _ (f₅ : while_busy r o ≡ false) where
        pub is_6 : no_enable r o ≡ true → 6 ≡ first (command_tests r sent)
        unfolding command_tests
        is_6 t = rw (sym j.first_byte, f₃, f₄, f₅, t)

        module _ (f₆ : no_enable r o ≡ false) where
          pub is_7 : no_ioc r o ≡ true → 7 ≡ first (command_tests r sent)
          unfolding command_tests
          is_7 t = rw (sym j.first_byte, f₃, f₄, f₅, f₆, t)

          module _ (f₇ : no_ioc r o ≡ false) where
            pub is_13 : no_such_burst o sent ≡ true → 13 ≡ first (command_tests r sent)
            unfolding command_tests
            is_13 t = rw (sym j.first_byte, f₃, f₄, f₅, f₆, f₇, t)

            module _ (f₁₃ : no_such_burst o sent ≡ false) where
              pub is_8 : suspension r o sent ≡ true → 8 ≡ first (command_tests r sent)
              unfolding command_tests
              is_8 t = rw (sym j.first_byte, f₃, f₄, f₅, f₆, f₇, f₁₃, t)

              module _ (f₈ : suspension r o sent ≡ false) where
                pub is_later : {n : ℕ} → n ≡ first (change_tests r o sent) → n ≡ first (command_tests r sent)
                unfolding command_tests
                is_later e = rw (sym j.first_byte, f₃, f₄, f₅, f₆, f₇, f₁₃, f₈) e
