-- What a call's promise says, by whether the bytes are a code. Assumes nothing.
use mathlib.Core.Path.{◌≡◌, ap, ◌∙◌}
use mathlib.Core.Bool.{Bool, true, false}
use Rattle.rules.specs.Words.{pick}
use Rattle.rules.specs.Machine.{step}
use Rattle.rules.specs.Demands.{Call, event_of}
use Rattle.rules.proofs.Promises.{lent_one}
use Rattle.record_code.specs.Layout.{is_code}
use Rattle.bench.specs.Boundary.{LentBench, Came, came_of, untouched, state_in, Seen, seen_of, coded, called, CallPromise}

-- what came is known by how the machine sees it
pub came_one : (g h : Came) → seen_of g ≡ seen_of h → g ≡ h
came_one g h e =
    let a = lent_one g.array h.array (ap (λ (s : Seen). s.array) e) in
    let s = lent_one g.security h.security (ap (λ (s : Seen). s.security) e) in
    let y = lent_one g.reply h.reply (ap (λ (s : Seen). s.reply) e) in
    let m = lent_one g.marks h.marks (ap (λ (s : Seen). s.marks) e) in
    λ i. came_of (e i).number (e i).bytes (a i) (s i) (y i) (m i)

module _ (b : LentBench) (e : Call) (g : Came) (p : CallPromise b e g) where
  pub of_code : is_code b.bytes ≡ true → seen_of g ≡ coded (step (state_in b) (event_of e))
  unfolding called
  of_code k = p.outcome ∙ ap (λ (x : Bool). pick x (coded (step (state_in b) (event_of e))) (seen_of (untouched 1 b e))) k

  pub of_no_code : is_code b.bytes ≡ false → g ≡ untouched 1 b e
  unfolding called
  of_no_code k = came_one g (untouched 1 b e) (p.outcome ∙ ap (λ (x : Bool). pick x (coded (step (state_in b) (event_of e))) (seen_of (untouched 1 b e))) k)
