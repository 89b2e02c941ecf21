-- No second outcome: whatever meets the guarantee of a public function of this crate at the same input is the same result and the same lent memory.
-- By what is due: equations, a patch, or an operation on a part beside what is left of it. Assumes nothing.
use Prim.Native.Nat.{ℕ, ◌+◌}
use Rattle.std.specs.Prelude.{Option, None, Some}
use mathlib.Core.Path.{◌≡◌, sym, ap, ◌∙◌}
use mathlib.Core.List.{List, ◌++◌}
use lib.ListN.{take, drop, take-append-drop}
use Rattle.rules.proofs.Promises.{one, lent_one}
use Rattle.rules.proofs.Outcomes.{OneResult, OneOutcome}
use Rattle.memory.proofs.Unique.{patched_one}
use Rattle.operating.specs.declared.Bench.{Bench}
use Rattle.operating.specs.Operations as operations
use Rattle.hearing.specs.declared.Due.{Due}
use Rattle.hearing.specs.declared.Heard.{Heard}
use Rattle.serving.specs.declared.Serving.{Serving}
use Rattle.hearing.specs.Heard.{heard_with, kept_with}
use Rattle.serving.specs.Sessions.{serving, receives, Done}
use Rattle.serving.proofs.start.Reads as start
use Rattle.serving.proofs.take.Reads as take-reads

pub start_one : OneResult start.Post
start_one κ a x y r r' p q = one p q

-- ---- a byte

-- the result, and the array, the Security ID, the answer and the marks at exit
pub record Same (r r' : Serving) (A A' S S' W W' M M' : List ℕ) : Type 0 where
  pub result : r ≡ r'
  pub array_same : A ≡ A'
  pub security_same : S ≡ S'
  pub answer_same : W ≡ W'
  pub marks_same : M ≡ M'

-- a list is its front and what is left
in_two : (n : ℕ) (l k : List ℕ) → take n l ≡ take n k → drop n l ≡ drop n k → l ≡ k
in_two n l k p q = sym (take-append-drop n l) ∙ (λ i. p i ++ q i) ∙ take-append-drop n k

done_one : (d : Option Due) (h : Heard) (b : Bench) (A S T W M : List ℕ) (r r' : Serving) (A₁ A₂ S₁ S₂ W₁ W₂ M₁ M₂ : List ℕ)
    → Done d h b A S T W M r A₁ S₁ W₁ M₁ → Done d h b A S T W M r' A₂ S₂ W₂ M₂ → Same r r' A₁ A₂ S₁ S₂ W₁ W₂ M₁ M₂
done_one None h b A S T W M r r' A₁ A₂ S₁ S₂ W₁ W₂ M₁ M₂ p q =
    record { result = one p.serving_is q.serving_is; array_same = one p.array_is q.array_is; security_same = one p.security_is q.security_is; answer_same = one p.answer_is q.answer_is; marks_same = one p.marks_are q.marks_are }
done_one (Some Due.Answer) h b A S T W M r r' A₁ A₂ S₁ S₂ W₁ W₂ M₁ M₂ p q =
    record { result = one p.serving_is q.serving_is; array_same = one p.array_is q.array_is; security_same = one p.security_is q.security_is; answer_same = patched_one p.answer_is q.answer_is; marks_same = one p.marks_are q.marks_are }
done_one (Some Due.Operation) h b A S T W M r r' A₁ A₂ S₁ S₂ W₁ W₂ M₁ M₂ p q =
    record {
      result = p.serving_is ∙ ap (λ (x : Bench). serving x h (receives h + 1)) (ap (λ (o : operations.Operated). o.bench) e) ∙ sym q.serving_is;
      array_same = lent_one _ _ (ap (λ (o : operations.Operated). o.array) e);
      security_same = lent_one _ _ (ap (λ (o : operations.Operated). o.security) e);
      answer_same = in_two (receives h + 1) W₁ W₂ (lent_one _ _ (ap (λ (o : operations.Operated). o.reply) e)) (one p.answer_rest q.answer_rest);
      marks_same = in_two (receives h) M₁ M₂ (lent_one _ _ (ap (λ (o : operations.Operated). o.marks) e)) (one p.marks_rest q.marks_rest);
    }
  where
    e : operations.leaves r.bench A₁ S₁ (take (receives h + 1) W₁) (take (receives h) M₁) ≡ operations.leaves r'.bench A₂ S₂ (take (receives h + 1) W₂) (take (receives h) M₂)
    e = one p.operation.outcome q.operation.outcome

pub take_one : OneOutcome {S = Serving × List ℕ × List ℕ × List ℕ × List ℕ × List ℕ} take-reads.Post (λ r x. (r, x.1.1.0.now, x.1.1.1.0.now, x.1.1.1.1.0.now, x.1.1.1.1.1.0.now, x.1.1.1.1.1.1.0.now))
take_one κ a x y r r' p q =
    let h = heard_with a.0.heard a.1.0 in
    let s = done_one h.due h a.0.bench a.1.1.0.now a.1.1.1.0.now (kept_with a.0.heard a.1.0 a.1.1.1.1.0.now) a.1.1.1.1.1.0.now a.1.1.1.1.1.1.0.now r r' x.1.1.0.now y.1.1.0.now x.1.1.1.0.now y.1.1.1.0.now x.1.1.1.1.1.0.now y.1.1.1.1.1.0.now x.1.1.1.1.1.1.0.now y.1.1.1.1.1.1.0.now p.done q.done in
    λ i. (s.result i, s.array_same i, s.security_same i, one p.sent_is q.sent_is i, s.answer_same i, s.marks_same i)
