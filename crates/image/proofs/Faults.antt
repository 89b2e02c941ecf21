-- Nothing is wrong exactly of a right file. Assumes nothing.
use Prim.Native.Nat.{ℕ, zero, suc, ◌+◌, ◌*◌, ◌^◌, ◌≤◌, ◌<◌}
use Prim.Native.String.{String}
use mathlib.Core.Path.{◌≡◌, refl, sym, ap, ◌∙◌}
use mathlib.Core.Bool.{Bool, true, false, ◌&&◌, and-true, and_assoc, true≢false}
use mathlib.Core.List.{List, [], ◌∷◌}
use native.Mathlib.Omega.{arith}
use native.Mathlib.Decide.{ℕ_discrete}
use native.Mathlib.Nat.{pow-suc, pow-le-pow_right}
use lib.Dec.{eqb, ltb}
use lib.ListN.{length, length-take}
use borrow.Author.Tests.{lt-ltb, eq-eqb}
use Rattle.rules.specs.Texts.{ascii}
use Rattle.rules.specs.WellFormed.{locks_right}
use Rattle.image.specs.declared.Fault.{Fault}
use Rattle.image.specs.declared.What.{What}
use Rattle.image.specs.Form.{number, number_from, sum}
use Rattle.image.specs.Files.{part, mark_in, sum_in, body_in, locks_in, burst_byte_in, record_right, page_right_lem, first_hold, registers_right, right}
use Rattle.image.specs.Laws.{OfBytes}
use Rattle.image.specs.Faults.{fault_of, unless, record_fault, registers_fault, page_fault, first_from, first_fault, FaultsTell, RecordsTold}
use Rattle.std.specs.Option.{option_or}
use Rattle.std.specs.Prelude.{Option, None, Some, is_none, IsSomeAnd, MatchOption}
use Rattle.image.proofs.Records.{part_bytes}

-- nothing is wrong where nothing is wrong in either part
sound_both : (f g : Option Fault) → is_none (option_or f g) ≡ (is_none f && is_none g)
sound_both None g = refl
sound_both (Some f) g = refl

-- and a test is what it tests
sound_test : (t : Bool) (f : Fault) → is_none (unless t f) ≡ t
sound_test true f = refl
sound_test false f = refl

record_sound : (mark : String) (l : List ℕ) (k at n : ℕ) → is_none (record_fault (number (ascii mark)) l k at n) ≡ record_right mark l at n
unfolding record_fault record_right
record_sound mark l k at n = rw (sound_both, sound_test, sound_test)

page_sound : (l : List ℕ) (n : ℕ) → is_none (page_fault l n) ≡ page_right_lem l n
unfolding page_fault page_right_lem
page_sound l n = rw (sound_both, record_sound "PG", sound_test)

-- the first of k in a row, from n on: where none is wrong up to n
pages_sound : (f : ℕ → Option Fault) (t : ℕ → Bool) (n k : ℕ) → ((i : ℕ) → is_none (f i) ≡ t i) → (first_hold t n && is_none (first_from f n k)) ≡ first_hold t (n + k)
unfolding first_from first_hold
pages_sound f t n zero h = let e : n + 0 ≡ n = omega arith in rw e (and-true (first_hold t n))
pages_sound f t n (suc k) h =
    let e : n + suc k ≡ n + 1 + k = omega arith in
    let s : is_none (option_or (f n) (first_from f (n + 1) k)) ≡ (t n && is_none (first_from f (n + 1) k)) =
    sound_both (f n) (first_from f (n + 1) k) ∙ (λ i. h n i && is_none (first_from f (n + 1) k)) in
    let one : first_hold t (n + 1) ≡ (first_hold t n && t n) = (let z : n + 1 ≡ suc n = omega arith in rw z) in
    rw (e, s) (sym (and_assoc (first_hold t n) (t n) (is_none (first_from f (n + 1) k))) ∙ (rw one at (pages_sound f t (n + 1) k h)))

all_sound : (f : ℕ → Option Fault) (t : ℕ → Bool) (k : ℕ) → ((i : ℕ) → is_none (f i) ≡ t i) → is_none (first_from f 0 k) ≡ first_hold t k
unfolding first_hold
all_sound f t k h = let e : 0 + k ≡ k = omega arith in rw e at (pages_sound f t 0 k h)

-- ---- the registers

-- n bytes hold a number below 256 ^ n
number_below : (l : List ℕ) (x k : ℕ) → OfBytes l → x < 256 ^ k → number_from x l < 256 ^ (k + length l)
unfolding number_from
number_below [] x k h s = let e : k + 0 ≡ k = omega arith in rw e s
number_below (b ∷ l) x k h s =
    let e : k + suc (length l) ≡ k + 1 + length l = omega arith in
    let small = h 0 in
    let p : 256 ^ (k + 1) ≡ 256 ^ k * 256 = (let z : k + 1 ≡ suc k = omega arith in rw z (pow-suc 256 k)) in
    rw e (number_below l (x * 256 + b) (k + 1) (λ i. h (suc i)) (omega arith))

-- six of them one below 2^48
six_below : (l : List ℕ) (at : ℕ) → OfBytes l → number (part l at 6) < 2 ^ 48
six_below l at h = less_pow (length (part l at 6)) (number (part l at 6)) (number_below (part l at 6) 0 0 (part_bytes l at 6 h) (omega arith)) (rw length-take (omega arith))
  where
    less_pow : (n x : ℕ) → x < 256 ^ (0 + n) → n ≤ 6 → x < 2 ^ 48
    less_pow n x h s = let z : 0 + n ≡ n = omega arith in let p : 256 ^ n ≤ 256 ^ 6 = pow-le-pow_right {n = 256} (omega arith) s in let k : x < 256 ^ n = (rw z at h) in omega arith

registers_sound : (l : List ℕ) → OfBytes l → is_none (registers_fault (burst_byte_in l) (locks_in l)) ≡ registers_right l
unfolding registers_fault registers_right locks_right
registers_sound l h =
    let p : ltb (locks_in l).protection (2 ^ 48) ≡ true = lt-ltb _ _ (six_below l 2 h) in
    let q : ltb (locks_in l).permanent (2 ^ 48) ≡ true = lt-ltb _ _ (six_below l 8 h) in
    rw (p, q, sound_both, sound_both, sound_test, sound_test, sound_test)

pub faults_tell : FaultsTell
unfolding first_fault right
faults_tell l h =
    let pages : is_none (first_from (page_fault l) 0 8192) ≡ first_hold (page_right_lem l) 8192 = all_sound (page_fault l) (page_right_lem l) 8192 (page_sound l) in
    rw (sound_both, sound_both, sound_both, sound_both, sound_test, record_sound "RG", record_sound "SI", registers_sound l h, pages, and_assoc, and_assoc, and_assoc)

-- ---- where the search for the first fault ends

-- in f, or else in g
pub found : (f g r : Option Fault) → MatchOption f (r ≡ g) (λ x. r ≡ Some x) → r ≡ option_or f g
found None g r h = h
found (Some f) g r h = h

-- in the first of k in a row that has one
pub found_in_row : (f : ℕ → Option Fault) (n k : ℕ) (r : Option Fault)
    → MatchOption r ((i : ℕ) → n ≤ i → i < n + k → f i ≡ None) (λ x. (i : ℕ) × (n ≤ i) × (i < n + k) × (f i ≡ Some x) × ((j : ℕ) → n ≤ j → j < i → f j ≡ None))
    → r ≡ first_from f n k
unfolding first_from
found_in_row f n zero None h = refl
found_in_row f n zero (Some x) h = absurd (let a = h.1 in let b = h.2 in omega arith)
found_in_row f n (suc k) None h =
    found (f n) (first_from f (n + 1) k) None
    (rw (h n (omega arith) (omega arith)) (found_in_row f (n + 1) k None (λ i a b. h i (omega arith) (omega arith))))
found_in_row f n (suc k) (Some x) h = found (f n) (first_from f (n + 1) k) (Some x) (go (ℕ_discrete h.0 n) (found_in_row f (n + 1) k (Some x)))
  where
    Behind : Option Fault → Type 0
    Behind r = MatchOption r ((i : ℕ) → n + 1 ≤ i → i < n + 1 + k → f i ≡ None) (λ y. (i : ℕ) × (n + 1 ≤ i) × (i < n + 1 + k) × (f i ≡ Some y) × ((j : ℕ) → n + 1 ≤ j → j < i → f j ≡ None))

    go : Dec (h.0 ≡ n) → (Behind (Some x) → Some x ≡ first_from f (n + 1) k) → MatchOption (f n) (Some x ≡ first_from f (n + 1) k) (λ y. Some x ≡ Some y)
    go (yes e) rest = let is : f n ≡ Some x = ap f (sym e) ∙ h.3 in rw is refl
    go (no q) rest =
        let low = h.1 in
        let high = h.2 in
        rw (h.4 n (omega arith) (omega arith)) (rest (h.0, omega arith, omega arith, h.3, λ j a b. h.4 j (omega arith) b))

-- ---- which record is told

-- of a record that is not right its own number
record_at : (m : ℕ) (l : List ℕ) (k at n : ℕ) → is_none (record_fault m l k at n) ≡ false → IsSomeAnd (record_fault m l k at n) (λ f. f.at ≡ k)
unfolding record_fault
record_at m l k at n e = go (eqb (mark_in l at) m) (eqb (sum_in l at n) (sum (body_in l at n))) e
  where
    faults : Bool → Bool → Option Fault
    faults x y = option_or (unless x (fault_of What.Mark k (mark_in l at) m)) (unless y (fault_of What.Sum k (sum_in l at n) (sum (body_in l at n))))

    go : (x y : Bool) → is_none (faults x y) ≡ false → IsSomeAnd (faults x y) (λ f. f.at ≡ k)
    go true true e = absurd (true≢false e)
    go true false e = refl
    go false y e = refl

-- the search ends at what is found first
found_first : (f g : Option Fault) → is_none f ≡ false → option_or f g ≡ f
found_first None g e = absurd (true≢false e)
found_first (Some f) g e = refl

-- or goes on behind it
found_behind : (f g : Option Fault) → is_none f ≡ true → option_or f g ≡ g
found_behind None g e = refl
found_behind (Some f) g e = absurd (true≢false (sym e))

-- a test that holds finds nothing
tested : (t : Bool) (f : Fault) (g : Option Fault) → t ≡ true → option_or (unless t f) g ≡ g
tested t f g e = rw e

told_at : (k : ℕ) (f g : Option Fault) → f ≡ g → IsSomeAnd g (λ x. x.at ≡ k) → IsSomeAnd f (λ x. x.at ≡ k)
told_at k f g e h = rw e h

pub records_told : (l : List ℕ) → RecordsTold l
unfolding first_fault
records_told l =
    record {
      rg = λ size e.
          let wrong = record_sound "RG" l 0 0 14 ∙ e in
          told_at 0 _ _ (tested _ _ _ (eq-eqb _ _ size) ∙ found_first _ _ wrong) (record_at (number (ascii "RG")) l 0 0 14 wrong);
      si = λ size e r d.
          let wrong = record_sound "SI" l 1 18 2048 ∙ d in
          told_at 1 _ _ (tested _ _ _ (eq-eqb _ _ size) ∙ found_behind _ _ (record_sound "RG" l 0 0 14 ∙ e) ∙ found_behind _ _ r ∙ found_first _ _ wrong)
          (record_at (number (ascii "SI")) l 1 18 2048 wrong);
    }
