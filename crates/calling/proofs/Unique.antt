-- No second outcome: whatever meets the guarantee of a public function of this crate at the same input is the same result and the same lent memory.
-- The calls have one outcome; what is judged and told of it is then the same. Assumes nothing.
use Prim.Native.Nat.{ℕ}
use mathlib.Core.Path.{◌≡◌, sym, ap, subst, ◌∙◌}
use mathlib.Core.Bool.{Bool}
use mathlib.Core.List.{List}
use lib.Dec.{eqb}
use Rattle.std.specs.Prelude.{Option, Some, None}
use Rattle.rules.specs.Words.{pick}
use Rattle.rules.proofs.Promises.{one}
use Rattle.rules.proofs.Outcomes.{OneOutcome, OneResult}
use Rattle.stations.specs.declared.StoreRecord.{StoreRecord}
use Rattle.stations.specs.Calls.{list_size}
use Rattle.script.specs.declared.Line.{Line}
use Rattle.script.specs.Lines.{line_of}
use Rattle.expecting.specs.declared.Expectation.{Expectation}
use Rattle.expecting.specs.declared.Verdict.{Verdict}
use Rattle.expecting.specs.Expectations.{Judged}
use Rattle.expecting.proofs.Firsts.{first_one}
use Rattle.standing.specs.declared.Call.{Call}
use Rattle.standing.specs.declared.Playing.{Playing}
use Rattle.standing.specs.Benches.{front}
use Rattle.calls.specs.Lists.{allowance_of, list_of, writes_ended}
use Rattle.calls.proofs.Unique.{Same, stored_same, found_same, shown_same}
use Rattle.calling.specs.declared.Called.{Called}
use Rattle.calling.specs.Lines.{no_counts, no_bytes, no_account, account_of, called_of, came, ended, answered, account_shown, errand_of, StoreJudged, FindJudged, StorePlayed, FindPlayed, StationsPlayed, PlayedCall, Played}
use Rattle.calling.proofs.asked.Reads as asked
use Rattle.calling.proofs.found_count.Reads as found-count
use Rattle.calling.proofs.nothing.Reads as nothing
use Rattle.calling.proofs.carry.Reads as carry

pub asked_one : OneResult asked.Post
asked_one κ a x y r r' p q = one p q

pub found_count_one : OneResult found-count.Post
found_count_one κ a x y r r' p q = one p q

pub nothing_one : OneResult nothing.Post
nothing_one κ a x y r r' p q = one p q

-- ---- what is judged

judged_one : (e : Expectation) (s : Bool) (g : ℕ) (R M E K : List ℕ) (v v' : Verdict) → Judged e s g R M E K v → Judged e s g R M E K v' → v ≡ v'
judged_one e s g R M E K v v' h k =
    let number = one h.number_differs k.number_differs in
    let strict = one h.refused k.refused in
    let size = one h.length_differs k.length_differs in
    let kept = one h.changed k.changed in
    let place = first_one _ _ v.place v'.place h.first k.first in
    let places = one h.places k.places in
    λ i. record { number = number i; strict = strict i; length = size i; kept = kept i; place = place i; compared = places i }

-- ---- by the line

module _ (p : Playing) (l : Line) (A S F E K R M A₁ A₂ S₁ S₂ R₁ R₂ M₁ M₂ : List ℕ) (r r' : Called) where
  store_one : StorePlayed p l A S F E K R M r A₁ S₁ R₁ M₁ → StorePlayed p l A S F E K R M r' A₂ S₂ R₂ M₂ → Same r r' A₁ A₂ S₁ S₂ R₁ R₂ M₁ M₂
  store_one h k =
      record { result = h.is ∙ (λ i. called_of (ended p (q i).number (q i).chip (v i)) (account_of (q i).polls (writes_ended (allowance_of l.slots) (list_of l.slots E K)) no_bytes (v i) no_counts 0)) ∙ sym k.is; array_same = s.array_same; security_same = s.security_same; reply_same = s.reply_same; marks_same = s.marks_same }
    where
      s : Same (came r) (came r') A₁ A₂ S₁ S₂ R₁ R₂ M₁ M₂
      s = stored_same _ A S R M A₁ A₂ S₁ S₂ R₁ R₂ M₁ M₂ _ _ _ _ _ _ h.stored k.stored

      q : came r ≡ came r'
      q = s.result

      v : r.account.verdict ≡ r'.account.verdict
      v = judged_one _ _ _ _ _ _ _ _ _ (subst (λ (n : ℕ). StoreJudged p l n r.account.verdict) (ap (λ (x : StoreRecord). x.number) q) h.judged) k.judged

  find_one : FindPlayed p l A S E K R M r A₁ S₁ R₁ M₁ → FindPlayed p l A S E K R M r' A₂ S₂ R₂ M₂ → Same r r' A₁ A₂ S₁ S₂ R₁ R₂ M₁ M₂
  find_one h k =
      record { result = h.is ∙ (λ i. called_of (ended p (q i).number (q i).chip (v i)) (account_of (q i).polls 0 (s.1 i) (v i) no_counts 0)) ∙ sym k.is; array_same = s.0.array_same; security_same = s.0.security_same; reply_same = s.0.reply_same; marks_same = s.0.marks_same }
    where
      s : Same (came r) (came r') A₁ A₂ S₁ S₂ R₁ R₂ M₁ M₂ × (r.account.bytes ≡ r'.account.bytes)
      s = found_same _ A S R M A₁ A₂ S₁ S₂ R₁ R₂ M₁ M₂ _ _ _ _ _ _ h.found k.found

      q : came r ≡ came r'
      q = s.0.result

      v : r.account.verdict ≡ r'.account.verdict
      v =
          judged_one _ _ _ _ _ _ _ _ _
          (subst (λ (n : ℕ). FindJudged p l E K n r'.account.bytes r.account.verdict) (ap (λ (x : StoreRecord). x.number) q)
          (subst (λ (b : List ℕ). FindJudged p l E K r.playing.number b r.account.verdict) s.1 h.judged))
          k.judged

  stations_one : StationsPlayed p A S R M r A₁ S₁ R₁ M₁ → StationsPlayed p A S R M r' A₂ S₂ R₂ M₂ → Same r r' A₁ A₂ S₁ S₂ R₁ R₂ M₁ M₂
  stations_one h k =
      record { result = h.is ∙ (λ i. called_of (answered p (s.result i)) (pick (eqb (s.result i) 0) (account_shown p.bench.full (front list_size (s.reply_same i)) (front list_size (s.marks_same i))) no_account)) ∙ sym k.is; array_same = s.array_same; security_same = s.security_same; reply_same = s.reply_same; marks_same = s.marks_same }
    where
      s : Same r.playing.number r'.playing.number A₁ A₂ S₁ S₂ R₁ R₂ M₁ M₂
      s = shown_same _ A S R M A₁ A₂ S₁ S₂ R₁ R₂ M₁ M₂ _ _ h.shown k.shown

  call_one : (c : Call) → PlayedCall c p l A S F E K R M r A₁ S₁ R₁ M₁ → PlayedCall c p l A S F E K R M r' A₂ S₂ R₂ M₂ → Same r r' A₁ A₂ S₁ S₂ R₁ R₂ M₁ M₂
  call_one Call.Store h k = store_one h k
  call_one Call.Find h k = find_one h k
  call_one Call.Stations h k = stations_one h k

  line_one : (e : Option Call) → Played e p l A S F E K R M r A₁ S₁ R₁ M₁ → Played e p l A S F E K R M r' A₂ S₂ R₂ M₂ → Same r r' A₁ A₂ S₁ S₂ R₁ R₂ M₁ M₂
  line_one None h k =
      record { result = one h.0 k.0; array_same = one h.1.array_is k.1.array_is; security_same = one h.1.security_is k.1.security_is; reply_same = one h.1.reply_is k.1.reply_is; marks_same = one h.1.marks_are k.1.marks_are }
  line_one (Some c) h k = call_one c h k

-- the result, and the array, the Security ID, the reply and the marks at exit
pub carry_one : OneOutcome {S = Called × List ℕ × List ℕ × List ℕ × List ℕ} carry.Post (λ r x. (r, x.1.0.now, x.1.1.0.now, x.1.1.1.1.1.1.0.now, x.1.1.1.1.1.1.1.0.now))
carry_one κ a x y r r' p q =
    let l = line_of a.0.reading in
    let s = line_one a.0 l a.1.0.now a.1.1.0.now (front l.sent a.1.1.1.0.now) (front l.expected a.1.1.1.1.0.now) (front l.expected a.1.1.1.1.1.0.now) a.1.1.1.1.1.1.0.now a.1.1.1.1.1.1.1.0.now x.1.0.now y.1.0.now x.1.1.0.now y.1.1.0.now x.1.1.1.1.1.1.0.now y.1.1.1.1.1.1.0.now x.1.1.1.1.1.1.1.0.now y.1.1.1.1.1.1.1.0.now r r' (errand_of a.0) p q in
    λ i. (s.result i, s.array_same i, s.security_same i, s.reply_same i, s.marks_same i)
