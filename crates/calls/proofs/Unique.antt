-- No second outcome: whatever meets the guarantee of a public function of this crate at the same input is the same result and the same lent memory.
-- Assumes nothing.
use Prim.Native.Nat.{ℕ, min}
use mathlib.Core.Path.{◌≡◌, sym, ap, ◌∙◌}
use mathlib.Core.List.{List, ◌++◌}
use lib.ListN.{length, drop}
use Rattle.rules.proofs.Promises.{one, lent_one}
use Rattle.rules.proofs.Outcomes.{OneOutcome, OneResult}
use Rattle.stations.specs.declared.StoreRecord.{StoreRecord}
use Rattle.stations.specs.Calls.{list_size}
use Rattle.stations.specs.Promises.{Desk, Looked}
use Rattle.stations.proofs.Unique.{came_one}
use Rattle.standing.specs.declared.Bench.{Bench}
use Rattle.calls.specs.Calls.{Left, Stored, Found, Shown}
use Rattle.calls.proofs.lists.station_of.Reads as station-of
use Rattle.calls.proofs.lists.allowance_of.Reads as allowance-of
use Rattle.calls.proofs.lists.list_of.Reads as list_of
use Rattle.calls.proofs.lists.writes_ended.Reads as writes-ended
use Rattle.calls.proofs.lent.sent.Reads as sent
use Rattle.calls.proofs.lent.found.Reads as found
use Rattle.calls.proofs.lent.shown.Reads as shown

pub station_of_one : OneResult station-of.Post
station_of_one κ a x y r r' p q = one p q

pub allowance_of_one : OneResult allowance-of.Post
allowance_of_one κ a x y r r' p q = one p q

pub list_of_one : OneResult list_of.Post
list_of_one κ a x y r r' p q = one p q

pub writes_ended_one : OneResult writes-ended.Post
writes_ended_one κ a x y r r' p q = one p q

-- ---- the calls: a record or a number, and the array, the Security ID, the reply and the marks at exit

pub record Same {T : Type 0} (r r' : T) (A A' S S' R R' M M' : List ℕ) : Type 0 where
  pub result : r ≡ r'
  pub array_same : A ≡ A'
  pub security_same : S ≡ S'
  pub reply_same : R ≡ R'
  pub marks_same : M ≡ M'

module _ (b : Bench) (A S R M A₁ A₂ S₁ S₂ R₁ R₂ M₁ M₂ : List ℕ) where
  left_one : (r r' : StoreRecord) (d d' : Desk) → ◌≡◌ {A = StoreRecord × Desk} (r, d) (r', d') → Left b A S R M d A₁ S₁ R₁ M₁ → Left b A S R M d' A₂ S₂ R₂ M₂ → Same r r' A₁ A₂ S₁ S₂ R₁ R₂ M₁ M₂
  left_one r r' d d' e h k =
      record {
        result = λ i. (e i).0;
        array_same = h.array_is ∙ (λ i. (e i).1.array ++ drop (min b.array (length A)) A) ∙ sym k.array_is;
        security_same = h.security_is ∙ (λ i. (e i).1.security ++ drop (min b.security (length S)) S) ∙ sym k.security_is;
        reply_same = h.reply_is ∙ (λ i. (e i).1.reply ++ drop (min list_size (length R)) R) ∙ sym k.reply_is;
        marks_same = h.marks_are ∙ (λ i. (e i).1.marks ++ drop (min list_size (length M)) M) ∙ sym k.marks_are;
      }

  pub stored_same : (n : ℕ) (D : List ℕ) (w : ℕ) (L : List ℕ) (r r' : StoreRecord) → Stored b n D w L A S R M r A₁ S₁ R₁ M₁ → Stored b n D w L A S R M r' A₂ S₂ R₂ M₂ → Same r r' A₁ A₂ S₁ S₂ R₁ R₂ M₁ M₂
  stored_same n D w L r r' h k = left_one r r' h.desk k.desk (came_one r r' h.desk k.desk (one h.promise.equal k.promise.equal)) h.left k.left

  -- and what was found
  pub found_same : (n : ℕ) (B B₁ B₂ : List ℕ) (r r' : StoreRecord) → Found b n B A S R M r B₁ A₁ S₁ R₁ M₁ → Found b n B A S R M r' B₂ A₂ S₂ R₂ M₂ → Same r r' A₁ A₂ S₁ S₂ R₁ R₂ M₁ M₂ × (B₁ ≡ B₂)
  found_same n B B₁ B₂ r r' h k =
      let e = one h.promise.equal k.promise.equal in
      (left_one r r' h.desk k.desk (came_one r r' h.desk k.desk (ap (λ (l : Looked). l.came) e)) h.left k.left, ap (λ (l : Looked). l.buffer) e)

  pub shown_same : (n n' : ℕ) → Shown b A S R M n A₁ S₁ R₁ M₁ → Shown b A S R M n' A₂ S₂ R₂ M₂ → Same n n' A₁ A₂ S₁ S₂ R₁ R₂ M₁ M₂
  shown_same n n' h k =
      record {
        result = one h.number_is k.number_is;
        array_same = one h.array_is k.array_is;
        security_same = one h.security_is k.security_is;
        reply_same = lent_one R₁ R₂ (one h.reply_is k.reply_is);
        marks_same = lent_one M₁ M₂ (one h.marks_are k.marks_are);
      }

-- a record, behind its bench, the number and the data; its four slices
pub sent_one : OneOutcome {S = StoreRecord × List ℕ × List ℕ × List ℕ × List ℕ} sent.Post (λ r x. (r, x.1.1.1.1.1.1.0.now, x.1.1.1.1.1.1.1.0.now, x.1.1.1.1.1.1.1.1.0.now, x.1.1.1.1.1.1.1.1.1.0.now))
sent_one κ a x y r r' p q = let s = stored_same _ _ _ _ _ _ _ _ _ _ _ _ _ _ _ _ _ r r' p q in λ i. (s.result i, s.array_same i, s.security_same i, s.reply_same i, s.marks_same i)

pub found_one : OneOutcome {S = StoreRecord × List ℕ × List ℕ × List ℕ × List ℕ × List ℕ} found.Post (λ r x. (r, x.1.1.0.now, x.1.1.1.0.now, x.1.1.1.1.0.now, x.1.1.1.1.1.0.now, x.1.1.1.1.1.1.0.now))
found_one κ a x y r r' p q = let s = found_same _ _ _ _ _ _ _ _ _ _ _ _ _ _ _ _ _ r r' p q in λ i. (s.0.result i, s.1 i, s.0.array_same i, s.0.security_same i, s.0.reply_same i, s.0.marks_same i)

pub shown_one : OneOutcome {S = ℕ × List ℕ × List ℕ × List ℕ × List ℕ} shown.Post (λ r x. (r, x.1.0.now, x.1.1.0.now, x.1.1.1.0.now, x.1.1.1.1.0.now))
shown_one κ a x y r r' p q = let s = shown_same _ _ _ _ _ _ _ _ _ _ _ _ _ r r' p q in λ i. (s.result i, s.array_same i, s.security_same i, s.reply_same i, s.marks_same i)
