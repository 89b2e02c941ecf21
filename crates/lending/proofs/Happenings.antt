-- The chip's promise, with the parts of the memories that were lent to it, is the line's. Assumes nothing.
use Prim.Native.Nat.{ℕ, ◌≤◌, min}
use mathlib.Core.Path.{◌≡◌, sym, ap, ◌∙◌}
use mathlib.Core.List.{List, [], ◌++◌}
use native.Mathlib.Omega.{arith}
use lib.ListN.{length, take, drop}
use lib.Seq.{length-take-le}
use Rattle.rules.specs.declared.After.{After}
use Rattle.rules.specs.declared.Chip.{Chip}
use Rattle.rules.specs.declared.Tear.{Tear}
use Rattle.rules.specs.Words.{Lent, lent, written}
use Rattle.rules.specs.Numbers.{answer_number, State}
use Rattle.rules.specs.Machine.{Outcome, frame, completion, power_cut}
use Rattle.rules.specs.Promises.{bench_of, carried_of, returned_of, state_of, outcome_of, FramePromise, CompletionPromise, CutPromise}
use Rattle.script.specs.declared.Line.{Line}
use Rattle.memory.specs.Patched.{Patched}
use Rattle.standing.specs.declared.Bench.{Bench}
use Rattle.chip.specs.declared.events.Event.{Event}
use Rattle.lending.specs.Lending.{over, state_lent_lem, wanted, marks_wanted, tear_said, outcome, Ended, Happened}
use Rattle.lending.proofs.Parts.{part_over, none_over, part_written, over_patched}

-- ---- memories of which a part was lent

module _ (b : Bench) (A S : List ℕ) (a s : ℕ) (ea : a ≡ min b.array (length A)) (es : s ≡ min b.security (length S)) where
  state_lent : state_of (bench_of b.chip (take a A) (take s S)) ≡ state_lent_lem b A S
  state_lent = λ i. state_of (bench_of b.chip (take (ea i) A) (take (es i) S))

  module _ (A' S' : List ℕ) (ka : length A' ≡ length (take a A)) (ks : length S' ≡ length (take s S)) (after : After) (R M : List ℕ) (o : Outcome) where
    pub ended_of : outcome_of (returned_of after A' S' R M) ≡ o → Ended o (answer_number after.answer) after.chip A S (A' ++ drop a A) (S' ++ drop s S)
    ended_of e =
        record {
          number_is = ap (λ (o : Outcome). o.number) e;
          chip_is = ap (λ (o : Outcome). o.chip) e;
          array_is = part_over A A' a o.array (omega arith) ka (ap (λ (o : Outcome). o.array) e);
          security_is = part_over S S' s o.security (omega arith) ks (ap (λ (o : Outcome). o.security) e);
        }

  pub completed : (A' S' : List ℕ) (after : After) → length A' ≡ length (take a A) → length S' ≡ length (take s S)
      → CompletionPromise (bench_of b.chip (take a A) (take s S)) (returned_of after A' S' [] [])
      → Ended (completion (state_lent_lem b A S)) (answer_number after.answer) after.chip A S (A' ++ drop a A) (S' ++ drop s S)
  completed A' S' after ka ks p = ended_of A' S' ka ks after [] [] _ (p.outcome ∙ ap completion state_lent)

  pub cut_off : (k : Tear) (A' S' : List ℕ) (after : After) → length A' ≡ length (take a A) → length S' ≡ length (take s S)
      → CutPromise (bench_of b.chip (take a A) (take s S)) k (returned_of after A' S' [] [])
      → Ended (power_cut (state_lent_lem b A S) k) (answer_number after.answer) after.chip A S (A' ++ drop a A) (S' ++ drop s S)
  cut_off k A' S' after ka ks p = ended_of A' S' ka ks after [] [] _ (p.outcome ∙ ap (λ (s : State). power_cut s k) state_lent)

  -- ---- a frame

  -- reply or marks: filled, lent, and given back
  lent_back : (R R₁ R' : List ℕ) (r v : ℕ) (o : Lent) → r ≤ length R → Patched R₁ R 0 r (λ i. v) → length R' ≡ length (take r R₁) → lent R' ≡ o
      → lent (R' ++ drop r R₁) ≡ over o R
  lent_back R R₁ R' r v o fits p k e =
      let whole : r ≤ length R₁ = omega (arith, p.size) in
      part_over R₁ R' r o whole k e ∙ over_patched R₁ R r v o (ap (λ (o : Lent). o.size) (sym e) ∙ k ∙ length-take-le r R₁ whole) p

  pub framed : (l : Line) (F R M R₁ M₁ : List ℕ) (n r m : ℕ) (x : Tear) → x ≡ tear_said b.chip l.slots → n ≡ min l.sent (length F)
      → r ≡ min (wanted Event.Frame l.slots) (length R) → m ≡ min (marks_wanted Event.Frame l.slots) (length M)
      → Patched R₁ R 0 r (λ i. 0x5A) → Patched M₁ M 0 m (λ i. 0x07)
      → (A' S' R' M' : List ℕ) (after : After) → length A' ≡ length (take a A) → length S' ≡ length (take s S) → length R' ≡ length (take r R₁) → length M' ≡ length (take m M₁)
      → FramePromise (bench_of b.chip (take a A) (take s S)) (carried_of (take n F) (take r R₁) (take m M₁) (record { tear = x })) (returned_of after A' S' R' M')
      → Happened (outcome Event.Frame b l A S F R M) (answer_number after.answer) after.chip A S R M (A' ++ drop a A) (S' ++ drop s S) (R' ++ drop r R₁) (M' ++ drop m M₁)
  framed l F R M R₁ M₁ n r m x ex en er em pr pm A' S' R' M' after ka ks kr km p =
      record {
        ended = ended_of A' S' ka ks after R' M' _ e;
        reply_is = lent_back R R₁ R' r 0x5A _ (omega arith) pr kr (ap (λ (o : Outcome). o.reply) e);
        marks_are = lent_back M M₁ M' m 0x07 _ (omega arith) pm km (ap (λ (o : Outcome). o.marks) e);
      }
    where
      q : lent (take r R₁) ≡ written (min (wanted Event.Frame l.slots) (length R)) (λ i. 0x5A)
      q = part_written R₁ R r 0x5A (omega arith) pr ∙ ap (λ (k : ℕ). written k (λ i. 0x5A)) er

      t : lent (take m M₁) ≡ written (min (marks_wanted Event.Frame l.slots) (length M)) (λ i. 0x07)
      t = part_written M₁ M m 0x07 (omega arith) pm ∙ ap (λ (k : ℕ). written k (λ i. 0x07)) em

      e : outcome_of (returned_of after A' S' R' M') ≡ outcome Event.Frame b l A S F R M
      e = p.outcome ∙ (λ i. frame (state_lent i) (record { sent = take (en i) F; reply = q i; marks = t i; circumstances = record { tear = ex i } }))

-- ---- an event without a reply

pub no_reply : (o : Outcome) (number : ℕ) (chip : Chip) (A S R M A' S' : List ℕ) → o.reply ≡ Rattle.rules.specs.Words.unlent → o.marks ≡ Rattle.rules.specs.Words.unlent
    → Ended o number chip A S A' S' → Happened o number chip A S R M A' S' R M
no_reply o number chip A S R M A' S' er em h =
    record {
      ended = h;
      reply_is = none_over R ∙ ap (λ (l : Lent). over l R) (sym er);
      marks_are = none_over M ∙ ap (λ (l : Lent). over l M) (sym em);
    }
