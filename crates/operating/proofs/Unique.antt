-- No second outcome: whatever meets the guarantee of a public function of this crate at the same input is the same result and the same lent memory.
-- An equation; a slice is the only one with its memory. Assumes nothing.
use Prim.Native.Nat.{ℕ}
use mathlib.Core.Path.{◌≡◌, ap}
use mathlib.Core.List.{List}
use denote.Ref.{Bor}
use denote.MutBor.{MutBor}
use Rattle.rules.specs.Numbers.{State}
use Rattle.rules.specs.Promises.{bench_of}
use Rattle.rules.specs.Promises as promises
use Rattle.rules.proofs.Promises.{one, lent_one}
use Rattle.rules.proofs.Outcomes.{OneResult, OneOutcome}
use Rattle.operating.specs.declared.Bench.{Bench}
use Rattle.operating.specs.Operations.{Operated, leaves}
use Rattle.operating.proofs.bench_of.Reads as bench-of
use Rattle.operating.proofs.at_end.Reads as at-end
use Rattle.operating.proofs.due.Reads as due
use Rattle.operating.proofs.reads_after.Reads as reads-after
use Rattle.operating.proofs.operate.Reads as operate
use Rattle.operating.proofs.answer_operation.Reads as answer-operation

pub bench_of_one : OneResult bench-of.Post
bench_of_one κ a x y r r' p q = one p q

pub due_one : OneResult due.Post
due_one κ a x y r r' p q = one p q

pub reads_after_one : OneResult reads-after.Post
reads_after_one κ a x y r r' p q = one p q

-- ---- an operation

abbrev pub Slices : Type 0
Slices = MutBor (List ℕ) × (MutBor (List ℕ) × (Bor (List ℕ) × (MutBor (List ℕ) × (MutBor (List ℕ) × Unit {0}))))

-- the result, and the array, the Security ID, the reply and the marks at exit
pub record Same (r r' : Bench) (x y : Slices) : Type 0 where
  pub result : r ≡ r'
  pub array_same : x.0.now ≡ y.0.now
  pub security_same : x.1.0.now ≡ y.1.0.now
  pub reply_same : x.1.1.1.0.now ≡ y.1.1.1.0.now
  pub marks_same : x.1.1.1.1.0.now ≡ y.1.1.1.1.0.now

abbrev left : Bench → Slices → Operated
left r x = leaves r x.0.now x.1.0.now x.1.1.1.0.now x.1.1.1.1.0.now

same_by : (r r' : Bench) (x y : Slices) → left r x ≡ left r' y → Same r r' x y
same_by r r' x y e =
    record {
      result = ap (λ (o : Operated). o.bench) e;
      array_same = lent_one _ _ (ap (λ (o : Operated). o.array) e);
      security_same = lent_one _ _ (ap (λ (o : Operated). o.security) e);
      reply_same = lent_one _ _ (ap (λ (o : Operated). o.reply) e);
      marks_same = lent_one _ _ (ap (λ (o : Operated). o.marks) e);
    }

abbrev OneOperation : {K : Type 0} → (K → Bench × Slices → Bench → Bench × Slices → Type 0) → Type 0
OneOperation {K} Post = (κ : K) (a x y : Bench × Slices) (r r' : Bench) → Post κ a r x → Post κ a r' y → Same r r' x.1 y.1

pub operate_one : OneOperation operate.Post
operate_one κ a x y r r' p q = same_by r r' x.1 y.1 (one p.outcome q.outcome)

pub answer_operation_one : OneOperation answer-operation.Post
answer_operation_one κ a x y r r' p q = same_by r r' x.1 y.1 (one p.outcome q.outcome)

-- ---- the end

pub at_end_one : OneOutcome {S = promises.Bench} at-end.Post (λ r x. bench_of r x.1.0.now x.1.1.0.now)
at_end_one κ a x y r r' p q =
    let e = one p.outcome q.outcome in
    λ i. bench_of (e i).chip (lent_one x.1.0.now y.1.0.now (ap (λ (s : State). s.array) e) i) (lent_one x.1.1.0.now y.1.1.0.now (ap (λ (s : State). s.security) e) i)
