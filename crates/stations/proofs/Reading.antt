-- The call's one read: of the tests of a frame it can fail three, a right record, SPI and idle; done, it shows the list; it uses up the enable or, with 1, changes nothing. Assumes nothing.
use Prim.Native.Nat.{ℕ, zero, suc, ◌+◌, ◌%◌}
use mathlib.Core.Path.{◌≡◌, refl, sym, ap, ◌∙◌, fun_ext}
use mathlib.Core.Bool.{Bool, true, false, not, ◌&&◌, ◌||◌, and-true}
use mathlib.Core.List.{List, [], ◌∷◌}
use mathlib.Core.Logic.{◌⊎◌, inl, inr}
use native.Mathlib.Omega.{arith}
use lib.Dec.{ltb}
use borrow.Author.Tests.{ltb-true}
use Rattle.rules.specs.declared.Cell.{Cell}
use Rattle.rules.specs.Words.{pick, Lent}
use Rattle.rules.specs.Blocks.{array_size_lem}
use Rattle.rules.specs.Works.{is_nothing, array_range}
use Rattle.rules.specs.Registers.{busy, wse, wsp}
use Rattle.rules.specs.Frames.{frames, find, form_of, listed, length_right}
use Rattle.rules.specs.Reading.{unknown, place_cell, shown}
use Rattle.rules.specs.Numbers.{State, Frame, state_right, malformed, frame_tests, command_tests}
use Rattle.rules.specs.Machine.{Outcome, worked_array_lem, worked_security_lem, frame, step, left}
use Rattle.rules.specs.Promises.{zeroed}
use Rattle.rules.proofs.WellFormed.{nothing}
use Rattle.rules.proofs.Refusals.{frame_done_whole, frame_refused_1, frame_refused_2, frame_refused_more}
use Rattle.rules.proofs.Numbers.{accepted, accepted_right}
use Rattle.stations.specs.Calls.{reading, shown_by, list_size}
use Rattle.stations.specs.Keeping.{shown_at}
use Rattle.stations.specs.Records.{used, read_number_lem, chip_left}
use Rattle.stations.proofs.Frames.{Ready}

module _ (s : State) (reply marks : Lent) where
  abbrev reads : Frame
  reads = record { sent = 0x03 ∷ 0x01 ∷ 0x00 ∷ 0x00 ∷ []; reply = reply; marks = marks; circumstances = zeroed }

  abbrev came : Outcome
  came = step s (reading reply marks)

  -- ---- its number

  pub read_ready : came.number ≡ 0 → Ready s
  unfolding step form_of find frames
  read_ready e =
      let a = accepted s reads e in
      record { right = (accepted_right s reads e).0; spi = spi s.chip.rest.flags.sqi a.is_listed; idle = nothing s.chip.rest.works.running (calm (is_nothing s.chip.rest.works.running) a.calm) }
    where
      spi : (b : Bool) → listed b (form_of 0x03) ≡ true → b ≡ false
      spi true q = sym q
      spi false q = refl

      calm : (b : Bool) → (not b && true) ≡ false → b ≡ true
      calm true q = refl
      calm false q = sym q

  -- the three tests that a read can fail
  pub read_number : reply.size ≡ list_size → marks.size ≡ list_size → came.number ≡ read_number_lem s
  unfolding step frame frame_tests command_tests form_of find frames
  read_number a b = λ i. pick (sized i) 1 (go s.chip.rest.flags.sqi (busy s.chip.rest) (wse s.chip.rest) (wsp s.chip.rest) i)
    where
      sized : malformed s reads ≡ not (state_right s)
      sized = rw (a, b) (ap not (and-true (state_right s)))

      go : (q b e p : Bool)
          → ◌≡◌ {A = ℕ} (pick (not (listed q (form_of 0x03))) 3 (pick (not (length_right q (form_of 0x03) 4)) 4 (pick (b && true) 5 (pick (e && false || p && false) 8 0)))) (pick q 3 (pick b 5 0))
      go true b e p = refl
      go false true e p = refl
      go false false true true = refl
      go false false true false = refl
      go false false false true = refl
      go false false false false = refl

  -- ---- what it leaves

  pub read_leaves : came.number ≡ 0 → left came ≡ used s
  unfolding step form_of find frames worked_array_lem worked_security_lem
  read_leaves e = ap left (frame_done_whole s reads e)

  -- refused or not
  pub read_keeps : (left came ≡ s) ⊎ (left came ≡ used s)
  unfolding step
  read_keeps = go (frame s reads).number refl
    where
      go : (n : ℕ) → (frame s reads).number ≡ n → (left (frame s reads) ≡ s) ⊎ (left (frame s reads) ≡ used s)
      go zero e = inr (read_leaves e)
      go (suc zero) e = inl (ap left (frame_refused_1 s reads e))
      go (suc (suc zero)) e = inl (ap left (frame_refused_2 s reads e))
      go (suc (suc (suc n))) e = inr (ap left (frame_refused_more s reads (suc (suc (suc n))) (omega arith) e))

  -- by whether the state is right
  pub read_state : reply.size ≡ list_size → marks.size ≡ list_size → left came ≡ pick (state_right s) (used s) s
  unfolding step
  read_state a b = go (state_right s) refl
    where
      numbered : (x : Bool) → state_right s ≡ x → came.number ≡ pick (not x) 1 (pick s.chip.rest.flags.sqi 3 (pick (busy s.chip.rest) 5 0))
      numbered x e = read_number a b ∙ ap (λ (x : Bool). pick (not x) 1 (pick s.chip.rest.flags.sqi 3 (pick (busy s.chip.rest) 5 0))) e

      taken : (q z : Bool) → came.number ≡ pick q 3 (pick z 5 0) → left came ≡ used s
      taken true z e = ap left (frame_refused_more s reads 3 (omega arith) e)
      taken false true e = ap left (frame_refused_more s reads 5 (omega arith) e)
      taken false false e = read_leaves e

      go : (x : Bool) → state_right s ≡ x → left came ≡ pick x (used s) s
      go true e = taken s.chip.rest.flags.sqi (busy s.chip.rest) (numbered true e)
      go false e = ap left (frame_refused_1 s reads (numbered false e))

  -- refused, it leaves the chip of its number
  pub refused_chip : reply.size ≡ list_size → marks.size ≡ list_size → (came.number ≡ 0 → ⊥) → (f : List ℕ) → (left came).chip ≡ chip_left s.chip came.number f
  refused_chip a b some f =
      ap (λ (t : State). t.chip) (read_state a b)
      ∙ go (state_right s) s.chip.rest.flags.sqi (busy s.chip.rest) (λ z. some (read_number a b ∙ z))
      ∙ ap (λ (k : ℕ). chip_left s.chip k f) (sym (read_number a b))
    where
      go : (x q z : Bool) → let k : ℕ = pick (not x) 1 (pick q 3 (pick z 5 0)) in (k ≡ 0 → ⊥) → (pick x (used s) s).chip ≡ chip_left s.chip k f
      go false q z h = refl
      go true true z h = refl
      go true false true h = refl
      go true false false h = absurd (h refl)

  -- ---- what it shows

  pub read_shows : reply.size ≡ list_size → marks.size ≡ list_size → came.number ≡ 0 → shown_by came ≡ shown_at s
  unfolding step form_of find frames shown shown_at
  read_shows a b e = ap shown_by (frame_done_whole s reads e) ∙ fun_ext (λ p. rw (a, b) (go p (ltb p list_size) refl))
    where
      cell : ℕ → Cell
      cell p = place_cell s.chip.rest.locks.protection (array_range s.chip.rest.works.suspended) s.array p

      go : (p : ℕ) (c : Bool) → ltb p list_size ≡ c
          → record { byte = pick c (cell ((0x10000 + p) % array_size_lem)).byte 0; mark = pick c (cell ((0x10000 + p) % array_size_lem)).mark 0 } ≡ pick c (cell (0x10000 + p)) unknown
      go p true h = let l = ltb-true p list_size h in let z : (0x10000 + p) % array_size_lem ≡ 0x10000 + p = omega arith in ap cell z
      go p false h = refl

  pub read_sizes : came.number ≡ 0 → (came.reply.size ≡ reply.size) × (came.marks.size ≡ marks.size)
  unfolding step
  read_sizes e = (ap (λ (o : Outcome). o.reply.size) (frame_done_whole s reads e), ap (λ (o : Outcome). o.marks.size) (frame_done_whole s reads e))
