-- No second outcome: whatever meets the guarantee of a public function of this crate at the same input is the same result and the same lent memory.
-- The number, the chip and the memories are the machine's; what is judged of them is then the same. Assumes nothing.
use Prim.Native.Nat.{ℕ}
use mathlib.Core.Path.{◌≡◌, sym, subst, ◌∙◌}
use mathlib.Core.List.{List}
use Rattle.rules.proofs.Promises.{one, lent_one}
use Rattle.rules.proofs.Outcomes.{OneOutcome}
use Rattle.script.specs.declared.Line.{Line}
use Rattle.expecting.specs.declared.Verdict.{Verdict}
use Rattle.expecting.proofs.Firsts.{first_one}
use Rattle.chip.specs.declared.events.Event.{Event}
use Rattle.standing.specs.declared.Playing.{Playing}
use Rattle.happening.specs.Events.{JudgedLine, counted, EventPlayed}
use Rattle.happening.proofs.played.Reads as played

-- ---- what is judged

verdict_one : (p : Playing) (e : Event) (l : Line) (n : ℕ) (R M E K : List ℕ) (v v' : Verdict) → JudgedLine p e l n R M E K v → JudgedLine p e l n R M E K v' → v ≡ v'
verdict_one p e l n R M E K v v' h k =
    let number = one h.number_differs k.number_differs in
    let strict = one h.refused k.refused in
    let size = one h.length_differs k.length_differs in
    let kept = one h.changed k.changed in
    let place = first_one _ _ v.place v'.place h.first k.first in
    let places = one h.places k.places in
    λ i. record { number = number i; strict = strict i; length = size i; kept = kept i; place = place i; compared = places i }

judged_one : (p : Playing) (e : Event) (l : Line) (E K : List ℕ) (n n' : ℕ) (R R' M M' : List ℕ) (v v' : Verdict) → n ≡ n' → R ≡ R' → M ≡ M'
    → JudgedLine p e l n R M E K v → JudgedLine p e l n' R' M' E K v' → v ≡ v'
judged_one p e l E K n n' R R' M M' v v' en er em h k =
    verdict_one p e l n' R' M' E K v v'
    (subst (λ (x : ℕ). JudgedLine p e l x R' M' E K v) en
    (subst (λ (x : List ℕ). JudgedLine p e l n x M' E K v) er
    (subst (λ (x : List ℕ). JudgedLine p e l n R x E K v) em h)))
    k

-- ---- an event

-- the result, and the array, the Security ID, the reply and the marks at exit
pub record Same (r r' : Playing) (A A' S S' R R' M M' : List ℕ) : Type 0 where
  pub result : r ≡ r'
  pub array_same : A ≡ A'
  pub security_same : S ≡ S'
  pub reply_same : R ≡ R'
  pub marks_same : M ≡ M'

pub event_one : (p : Playing) (e : Event) (l : Line) (A S F E K R M : List ℕ) (r r' : Playing) (A₁ A₂ S₁ S₂ R₁ R₂ M₁ M₂ : List ℕ)
    → EventPlayed p e l A S F E K R M r A₁ S₁ R₁ M₁ → EventPlayed p e l A S F E K R M r' A₂ S₂ R₂ M₂ → Same r r' A₁ A₂ S₁ S₂ R₁ R₂ M₁ M₂
event_one p e l A S F E K R M r r' A₁ A₂ S₁ S₂ R₁ R₂ M₁ M₂ h k =
    record { result = h.playing ∙ (λ i. counted p (number i) (chip i) (verdict i)) ∙ sym k.playing; array_same = lent_one A₁ A₂ (one h.happened.ended.array_is k.happened.ended.array_is); security_same = lent_one S₁ S₂ (one h.happened.ended.security_is k.happened.ended.security_is); reply_same = reply; marks_same = marks }
  where
    number : r.number ≡ r'.number
    number = one h.happened.ended.number_is k.happened.ended.number_is

    chip : r.bench.chip ≡ r'.bench.chip
    chip = one h.happened.ended.chip_is k.happened.ended.chip_is

    reply : R₁ ≡ R₂
    reply = lent_one R₁ R₂ (one h.happened.reply_is k.happened.reply_is)

    marks : M₁ ≡ M₂
    marks = lent_one M₁ M₂ (one h.happened.marks_are k.happened.marks_are)

    verdict : r.verdict ≡ r'.verdict
    verdict = judged_one p e l E K r.number r'.number R₁ R₂ M₁ M₂ r.verdict r'.verdict number reply marks h.judged k.judged

-- the frame and the expected bytes are lent to be read
pub played_one : OneOutcome {S = Playing × List ℕ × List ℕ × List ℕ × List ℕ} played.Post (λ r x. (r, x.1.1.1.0.now, x.1.1.1.1.0.now, x.1.1.1.1.1.1.1.1.0.now, x.1.1.1.1.1.1.1.1.1.0.now))
played_one κ a x y r r' p q =
    let s = event_one a.0 a.1.0 a.1.1.0 a.1.1.1.0.now a.1.1.1.1.0.now a.1.1.1.1.1.0.now a.1.1.1.1.1.1.0.now a.1.1.1.1.1.1.1.0.now a.1.1.1.1.1.1.1.1.0.now a.1.1.1.1.1.1.1.1.1.0.now r r' x.1.1.1.0.now y.1.1.1.0.now x.1.1.1.1.0.now y.1.1.1.1.0.now x.1.1.1.1.1.1.1.1.0.now y.1.1.1.1.1.1.1.1.0.now x.1.1.1.1.1.1.1.1.1.0.now y.1.1.1.1.1.1.1.1.1.0.now p q in
    λ i. (s.result i, s.array_same i, s.security_same i, s.reply_same i, s.marks_same i)
