-- Each of the three, where nothing is stopped. Assumes nothing.
-- a power cut that stops nothing is refused
use Prim.Native.Nat.{ℕ}
use mathlib.Core.Path.{◌≡◌, refl}
use mathlib.Core.Bool.{Bool, false}
use mathlib.Core.List.{List, []}
use lib.ListN.{length}
use Rattle.rules.specs.declared.After.{After}
use Rattle.rules.specs.declared.Circumstances.{Circumstances}
use Rattle.rules.specs.declared.Refusal.{Refusal}
use Rattle.rules.specs.declared.Rest.{Rest}
use Rattle.rules.specs.Fields.{chip_of}
use Rattle.std.specs.Prelude.{Err}
use Rattle.rules.specs.Numbers.{state_right}
use Rattle.rules.specs.Promises.{Bench, Returned, bench_of, carried_of, returned_of, after_of, state_of, FramePromise, CompletionPromise}
use Rattle.rules.specs.Tears.{resets}
use Rattle.ending.proofs.Outcomes.{cut_malformed}
use Rattle.chip.specs.declared.events.Event.{Event}
use Rattle.chip.specs.Turns.{LentFor, cutting, resetting, TurnPromise}
use Rattle.chip.proofs.events.take_turn.Goals as goal

no_reset : (e : Event) (known : Bool) (r : Rest) (sent : List ℕ) (y m : ℕ) → e ≡ Event.Frame → resetting e known r sent y m ≡ false → resets known r sent y m ≡ false
no_reset e known r sent y m t = rw t (λ h. h)

module _ (b : Bench) (sent reply marks : List ℕ) where
  frame-met : (e : Event) (g : Returned) → e ≡ Event.Frame → ((x : Circumstances) → FramePromise b (carried_of sent reply marks x) g) → TurnPromise b e sent reply marks g
  frame-met e g t p = rw t p

  -- nothing is lent, so that nothing is left
  completion-met : (e : Event) (a : After) (array security : List ℕ) → e ≡ Event.Completion → LentFor e reply → LentFor e marks
      → CompletionPromise b (returned_of a array security [] []) → TurnPromise b e sent reply marks (returned_of a array security reply marks)
  completion-met e a array security t = rw t (λ ey em p x. rw (ey, em) p)

cut_met : (r : Rest) (page array security sent reply marks : List ℕ) (known : Bool) (e : Event) → e ≡ Event.Cut → known ≡ state_right (state_of (bench_of (chip_of page r) array security))
    → cutting e known ≡ false → LentFor e reply → LentFor e marks
    → TurnPromise (bench_of (chip_of page r) array security) e sent reply marks (returned_of (after_of (record { answer = Err Refusal.Malformed; rest = r }) page) array security reply marks)
cut_met r page array security sent reply marks known e t k = rw t (λ n ey em x. rw (ey, em) (record { outcome = cut_malformed r page array security known k x.tear _ refl n }))

pub plain_turn-requires : goal.plain_turn-requires
plain_turn-requires c = let s = c in let a = s.args in (record { known = s.requires.judged; paged = s.requires.paged }, no_reset a.e a.known a.r a.sent.now (length a.reply.now) (length a.marks.now) c.in-Frame.is s.requires.unreset)

pub completion_turn-requires : goal.completion_turn-requires
completion_turn-requires c = let s = c in record { known = s.requires.judged; paged = s.requires.paged }

pub returns-in-Frame : goal.returns-in-Frame
returns-in-Frame c = let a = c.args in frame-met (bench_of (chip_of a.page.now a.r) a.array.now a.security.now) a.sent.now a.reply.now a.marks.now a.e _ c.in-Frame.is c.plain_turn.ensures

pub returns-in-Completion : goal.returns-in-Completion
returns-in-Completion c = let s = c in let a = s.args in completion-met (bench_of (chip_of a.page.now a.r) a.array.now a.security.now) a.sent.now a.reply.now a.marks.now a.e _ _ _ c.in-Completion.is s.requires.bytes s.requires.marked c.completion_turn.ensures

pub returns-in-Cut : goal.returns-in-Cut
returns-in-Cut c = let s = c in let a = s.args in cut_met a.r a.page.now a.array.now a.security.now a.sent.now a.reply.now a.marks.now a.known a.e c.in-Cut.is s.requires.judged s.requires.uncut s.requires.bytes s.requires.marked
