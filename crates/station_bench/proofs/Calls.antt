-- A call on the record of some bytes: the record is decoded, the store's function called, and its record coded again. Assumes nothing.
use Prim.Native.Nat.{ℕ}
use mathlib.Core.Path.{◌≡◌, sym, ap, ◌∙◌}
use mathlib.Core.Bool.{Bool, true, false}
use mathlib.Core.List.{List, ◌++◌}
use native.Mathlib.Omega.{arith}
use lib.Dec.{eqb}
use lib.ListN.{length, take, drop, length-append, length-drop}
use lib.Seq.{take-append_seam}
use borrow.Author.Tests.{eqb-true}
use Rattle.rules.specs.declared.Chip.{Chip}
use Rattle.rules.specs.Words.{pick, lent}
use Rattle.rules.specs.Promises.{bench_of, state_of}
use Rattle.rules.proofs.Bools.{and_split}
use Rattle.record_code.specs.Layout.{record_size, NothingReserved, code, is_code, rest_code, chip_in}
use Rattle.record_code.proofs.Faithful.{reserved_kept}
use Rattle.stations.specs.declared.StoreRecord.{StoreRecord}
use Rattle.stations.specs.Promises.{Desk, came_of, stored, Looked, looked_up, StorePromise, LookupPromise}
use Rattle.stations.specs.Calls.{Ended}
use Rattle.stations.proofs.Given.{lookup_given}
use Rattle.station_bench.specs.Boundary.{Told, told_of, told_by, stored_in, Found, found_of, found_by, found_in}
use Rattle.station_bench.specs.Boundary as boundary

-- ---- the record

pub code_size : (l : List ℕ) → is_code l ≡ true → length l ≡ record_size
unfolding is_code
code_size l e = eqb-true (length l) record_size (and_split (eqb (length l) record_size) _ e).0

-- with another page in front
pub paged : (l l₁ page : List ℕ) → l₁ ≡ page ++ drop 256 l → length page ≡ 256 → length l ≡ record_size → NothingReserved l → (length l₁ ≡ record_size) × NothingReserved l₁
paged l l₁ page e whole size none =
    let a = length-append page (drop 256 l) in
    let b = length-drop 256 l in
    let s : length (page ++ drop 256 l) ≡ record_size = omega arith in
    (ap length e ∙ s, rw e (reserved_kept page l whole none))

pub coded : (l l₁ l₂ : List ℕ) (c : Chip) → l₁ ≡ c.buffer ++ drop 256 l → length c.buffer ≡ 256 → l₂ ≡ take 256 l₁ ++ rest_code c.rest → l₂ ≡ code c
unfolding code
coded l l₁ l₂ c e whole f =
    f ∙ ap (λ (x : List ℕ). x ++ rest_code c.rest)
    (ap (take 256) e ∙ ap (λ (n : ℕ). take n (c.buffer ++ drop 256 l)) (sym whole) ∙ take-append_seam c.buffer (drop 256 l))

-- ---- the calls

module _ (bytes : List ℕ) (d : Desk) where
  module _ {b : Bool} (is : b ≡ is_code bytes) where
    pub no_store : b ≡ false → (n : ℕ) (body : List ℕ) (allowance : ℕ) (list : List ℕ)
        → boundary.StorePromise bytes d n body allowance list (record { polls = 0; number = 1 }) bytes d
    unfolding stored_in
    no_store f n body allowance list = record { equal = sym (ap (λ (k : Bool). pick k (told_by (stored (boundary.state_in bytes d) (lent d.reply) (lent d.marks) n body allowance list)) (told_of 1 0 bytes d)) (sym is ∙ f)) }

    pub no_find : b ≡ false → (n : ℕ) (buffer : List ℕ) → boundary.FindPromise bytes d n buffer 1 bytes d buffer
    unfolding found_in
    no_find f n buffer = record { equal = sym (ap (λ (k : Bool). pick k (found_by (looked_up (boundary.state_in bytes d) (lent d.reply) (lent d.marks) n buffer)) (found_of (told_of 1 0 bytes d) buffer)) (sym is ∙ f)) }

    module _ (t : b ≡ true) (s : StoreRecord) (decoded : s.chip ≡ chip_in bytes) (r : StoreRecord) (d' : Desk) (bytes' : List ℕ) (put : bytes' ≡ code r.chip) where
      told_is : told_of r.number r.polls bytes' d' ≡ told_by (came_of r d')
      told_is = ap (λ (x : List ℕ). told_of r.number r.polls x d') put

      pub a_store : (n : ℕ) (body : List ℕ) (allowance : ℕ) (list : List ℕ) → StorePromise s d n body allowance list r d'
          → boundary.StorePromise bytes d n body allowance list (record { polls = r.polls; number = r.number }) bytes' d'
      unfolding stored_in
      a_store n body allowance list p =
          record {
            equal = told_is
                ∙ ap told_by (p.equal ∙ ap (λ (c : Chip). stored (state_of (bench_of c d.array d.security)) (lent d.reply) (lent d.marks) n body allowance list) decoded)
                ∙ sym (ap (λ (k : Bool). pick k (told_by (stored (boundary.state_in bytes d) (lent d.reply) (lent d.marks) n body allowance list)) (told_of 1 0 bytes d)) (sym is ∙ t));
          }

      pub a_find : (n : ℕ) (buffer buffer' : List ℕ) → LookupPromise s d n buffer r d' buffer' → boundary.FindPromise bytes d n buffer r.number bytes' d' buffer'
      unfolding found_in looked_up
      a_find n buffer buffer' p =
          record {
            equal = ap (λ (x : ℕ). found_of (told_of r.number x bytes' d') buffer') (sym none)
                ∙ ap (λ (x : Told). found_of x buffer') told_is
                ∙ ap found_by (p.equal ∙ ap (λ (c : Chip). looked_up (state_of (bench_of c d.array d.security)) (lent d.reply) (lent d.marks) n buffer) decoded)
                ∙ sym (ap (λ (k : Bool). pick k (found_by (looked_up (boundary.state_in bytes d) (lent d.reply) (lent d.marks) n buffer)) (found_of (told_of 1 0 bytes d) buffer)) (sym is ∙ t));
          }
        where
          none : r.polls ≡ 0
          none = ap (λ (l : Looked). l.came.ended.polls) p.equal ∙ ap (λ (e : Ended). e.polls) (lookup_given (state_of (bench_of s.chip d.array d.security)) (lent d.reply) (lent d.marks) n buffer)
