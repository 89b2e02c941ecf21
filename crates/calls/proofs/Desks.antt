-- The store's promises, with the parts that were lent to it, are the bench's. Assumes nothing.
use Prim.Native.Nat.{ℕ, min}
use mathlib.Core.Path.{◌≡◌, subst}
use mathlib.Core.List.{List, ◌++◌}
use lib.ListN.{length, take, drop}
use Rattle.stations.specs.declared.StoreRecord.{StoreRecord}
use Rattle.stations.specs.Promises.{Desk, desk_of, StorePromise, LookupPromise}
use Rattle.standing.specs.declared.Bench.{Bench}
use Rattle.calls.specs.Calls.{opened, lent_desk, Left, Stored, Found}

module _ (b : Bench) (A S R M : List ℕ) {a s n m : ℕ} (ea : a ≡ min b.array (length A)) (es : s ≡ min b.security (length S)) (en : n ≡ min 65536 (length R)) (em : m ≡ min 65536 (length M)) {q : StoreRecord} (eq : q ≡ opened b) where
  desk_is : desk_of (take a A) (take s S) (take n R) (take m M) ≡ lent_desk b A S R M
  desk_is = λ i. desk_of (take (ea i) A) (take (es i) S) (take (en i) R) (take (em i) M)

  left_is : (A' S' R' M' : List ℕ) → Left b A S R M (desk_of A' S' R' M') (A' ++ drop a A) (S' ++ drop s S) (R' ++ drop n R) (M' ++ drop m M)
  left_is A' S' R' M' =
      record {
        array_is = λ i. A' ++ drop (ea i) A;
        security_is = λ i. S' ++ drop (es i) S;
        reply_is = λ i. R' ++ drop (en i) R;
        marks_are = λ i. M' ++ drop (em i) M;
      }

  pub stored_is : (k : ℕ) (D : List ℕ) (w : ℕ) (L A' S' R' M' : List ℕ) (r : StoreRecord)
      → StorePromise q (desk_of (take a A) (take s S) (take n R) (take m M)) k D w L r (desk_of A' S' R' M')
      → Stored b k D w L A S R M r (A' ++ drop a A) (S' ++ drop s S) (R' ++ drop n R) (M' ++ drop m M)
  stored_is k D w L A' S' R' M' r p =
      record {
        desk = desk_of A' S' R' M';
        promise = subst (λ (x : StoreRecord). StorePromise x (lent_desk b A S R M) k D w L r (desk_of A' S' R' M')) eq
            (subst (λ (d : Desk). StorePromise q d k D w L r (desk_of A' S' R' M')) desk_is p);
        left = left_is A' S' R' M';
      }

  pub found_is : (k : ℕ) (B B' A' S' R' M' : List ℕ) (r : StoreRecord)
      → LookupPromise q (desk_of (take a A) (take s S) (take n R) (take m M)) k B r (desk_of A' S' R' M') B'
      → Found b k B A S R M r B' (A' ++ drop a A) (S' ++ drop s S) (R' ++ drop n R) (M' ++ drop m M)
  found_is k B B' A' S' R' M' r p =
      record {
        desk = desk_of A' S' R' M';
        promise = subst (λ (x : StoreRecord). LookupPromise x (lent_desk b A S R M) k B r (desk_of A' S' R' M') B') eq
            (subst (λ (d : Desk). LookupPromise q d k B r (desk_of A' S' R' M') B') desk_is p);
        left = left_is A' S' R' M';
      }
