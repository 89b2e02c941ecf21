-- What a right record and right lengths say, and an outcome from its parts: for each event where the page buffer lies with the caller. Assumes nothing.
use Prim.Native.Nat.{ℕ}
use mathlib.Core.Path.{◌≡◌}
use mathlib.Core.Bool.{true, ◌&&◌}
use mathlib.Core.List.{List}
use lib.Dec.{eqb}
use lib.ListN.{length}
use borrow.Author.Tests.{eqb-true}
use Rattle.rules.specs.declared.Rest.{Rest}
use Rattle.rules.specs.Blocks.{array_size_lem, security_size_lem}
use Rattle.rules.specs.Fields.{chip_of}
use Rattle.rules.specs.WellFormed.{numbers_right, well_formed}
use Rattle.rules.specs.Numbers.{State, state_right}
use Rattle.rules.specs.Machine.{Outcome}
use Rattle.rules.specs.Promises.{bench_of, state_of}
use Rattle.rules.proofs.Bools.{and_split}
use Rattle.rules.proofs.WellFormed.{well_of}

-- two outcomes are the same where their parts are
pub outcome_ext : {o q : Outcome} → o.number ≡ q.number → o.chip ≡ q.chip → o.array ≡ q.array → o.security ≡ q.security → o.reply ≡ q.reply → o.marks ≡ q.marks → o ≡ q
outcome_ext n c a s r m = λ i. record { number = n i; chip = c i; array = a i; security = s i; reply = r i; marks = m i }

module _ (r : Rest) (page array security : List ℕ) where
  abbrev at : State
  at = state_of (bench_of (chip_of page r) array security)

  pub record Sizes : Type 0 where
    pub formed : well_formed (chip_of page r) ≡ true
    pub whole : length array ≡ array_size_lem
    pub secure : length security ≡ security_size_lem

  pub state_parts : state_right at ≡ true → Sizes
  state_parts e =
      let h₂ = and_split (well_formed (chip_of page r) && eqb (length array) array_size_lem) (eqb (length security) security_size_lem) e in
      let h₁ = and_split (well_formed (chip_of page r)) (eqb (length array) array_size_lem) h₂.0 in
      record { formed = h₁.0; whole = eqb-true (length array) array_size_lem h₁.1; secure = eqb-true (length security) security_size_lem h₂.1 }

  pub suspended_right : state_right at ≡ true → numbers_right r.works.suspended ≡ true
  suspended_right e = (well_of (chip_of page r) (state_parts e).formed).works.suspended

  pub running_right : state_right at ≡ true → numbers_right r.works.running ≡ true
  running_right e = (well_of (chip_of page r) (state_parts e).formed).works.running
