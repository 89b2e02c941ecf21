-- The power cut, or the 99; after either nothing runs and nothing is suspended. Assumes nothing.
use Prim.Native.Nat.{ℕ}
use mathlib.Core.Path.{◌≡◌, refl, sym, ap, ◌∙◌}
use mathlib.Core.Bool.{Bool, true, false, true≢false, false≢true}
use mathlib.Core.List.{List, [], ◌∷◌}
use lib.ListN.{length}
use Rattle.rules.specs.declared.Circumstances.{Circumstances}
use Rattle.rules.specs.declared.Rest.{Rest}
use Rattle.rules.specs.declared.Turn.{Turn}
use Rattle.rules.specs.declared.Work.TheVariants.{Nothing}
use Rattle.rules.specs.Fields.{works_of, chip_of}
use Rattle.rules.specs.Numbers.{answer_number, state_right}
use Rattle.rules.specs.Machine.{Outcome}
use Rattle.rules.specs.Promises.{Bench, Returned, bench_of, carried_of, returned_of, after_of, state_of, frame_of, FramePromise, CutPromise}
use Rattle.rules.specs.Demands.{Meets}
use Rattle.rules.specs.Tears.{resets}
use Rattle.rules.proofs.Numbers.{cut_given}
use Rattle.rules.proofs.Refusals.{cut_done_whole}
use Rattle.rules.proofs.Tears.{reset_accepted, reset_done}
use Rattle.chip.specs.Turns.{stop_call, StoppedWith}
use Rattle.chip.proofs.events.stop_turn.Goals as goal

module _ (r : Rest) (page array security : List ℕ) (right : state_right (state_of (bench_of (chip_of page r) array security)) ≡ true) where
  abbrev at : Bench
  at = bench_of (chip_of page r) array security

  abbrev Stopped : Bool → List ℕ → List ℕ → Circumstances → Turn → Returned → Type 0
  Stopped up reply marks x t g = Meets at (stop_call up reply marks x) g × ((answer_number t.answer ≡ 0) × (t.rest.works ≡ works_of Nothing Nothing))

  -- nothing is lent, so that nothing is left
  cut-stops : (up : Bool) (reply marks : List ℕ) (x : Circumstances) (t : Turn) (page' array' security' : List ℕ) → up ≡ true → StoppedWith up r reply marks
      → CutPromise at x.tear (returned_of (after_of t page') array' security' [] []) → Stopped up reply marks x t (returned_of (after_of t page') array' security' reply marks)
  cut-stops false reply marks x t page' array' security' u l p = absurd (false≢true u)
  cut-stops true reply marks x t page' array' security' u l p =
      let whole = p.outcome ∙ cut_done_whole (state_of at) x.tear ((cut_given (state_of at) x.tear).is_0.1 right) in
      rw (l.0, l.1) (p, (ap (λ (o : Outcome). o.number) whole, ap (λ (o : Outcome). o.chip.rest.works) whole))

  reset-stops : (up : Bool) (reply marks : List ℕ) (x : Circumstances) (t : Turn) (page' array' security' reply' marks' : List ℕ) → up ≡ false → StoppedWith up r reply marks
      → FramePromise at (carried_of (0x99 ∷ []) reply marks x) (returned_of (after_of t page') array' security' reply' marks') → Stopped up reply marks x t (returned_of (after_of t page') array' security' reply' marks')
  reset-stops true reply marks x t page' array' security' reply' marks' u l p = absurd (true≢false u)
  reset-stops false reply marks x t page' array' security' reply' marks' u l p =
      let f = frame_of (carried_of (0x99 ∷ []) reply marks x) in
      let whole = p.outcome ∙ reset_done (state_of at) f (reset_accepted (state_of at) f (ap (λ (b : Bool). resets b r (0x99 ∷ []) (length reply) (length marks)) right ∙ l)) refl in
      (p, (ap (λ (o : Outcome). o.number) whole, ap (λ (o : Outcome). o.chip.rest.works) whole))

  -- what the 99 asks
  with-99 : (up : Bool) (reply marks : List ℕ) → up ≡ false → StoppedWith up r reply marks → resets true r (0x99 ∷ []) (length reply) (length marks) ≡ true
  with-99 true reply marks u l = absurd (true≢false u)
  with-99 false reply marks u l = l

pub cut_turn-requires : goal.cut_turn-requires
cut_turn-requires c = record { known = sym c.requires.right; paged = c.requires.paged }

pub returns-then-up : goal.returns-then-up
returns-then-up c = let a = c.args in
    let both = cut-stops a.r a.page.now a.array.now a.security.now c.requires.right a.up a.reply.now a.marks.now a.x record { answer = c.cut_turn.result.answer; rest = c.cut_turn.result.rest } c.cut_turn.new.page c.cut_turn.new.array c.cut_turn.new.security c.if-up.true c.requires.taken c.cut_turn.ensures in
    record { met = both.0; idle = both.1 }

pub reset_turn-requires : goal.reset_turn-requires
reset_turn-requires c = let a = c.args in record { paged = c.requires.paged; right = c.requires.right; taken = with-99 a.r a.page.now a.array.now a.security.now c.requires.right a.up a.reply.now a.marks.now c.if-up.false c.requires.taken }

pub returns : goal.returns
returns c = let a = c.args in
    let both = reset-stops a.r a.page.now a.array.now a.security.now c.requires.right a.up a.reply.now a.marks.now a.x record { answer = c.reset_turn.result.answer; rest = c.reset_turn.result.rest } c.reset_turn.new.page c.reset_turn.new.array c.reset_turn.new.security c.reset_turn.new.reply c.reset_turn.new.marks c.if-up.false c.requires.taken c.reset_turn.ensures in
    record { met = both.0; idle = both.1 }
