-- Bytes put into a file one after the other, and a record around a body. Assumes nothing.
use Prim.Native.Nat.{ℕ, ◌+◌, ◌*◌, ◌/◌, ◌%◌, ◌≤◌, ◌<◌}
use Prim.Native.String.{String}
use mathlib.Core.Path.{◌≡◌, refl, sym, ap, ◌∙◌}
use mathlib.Core.List.{List, [], ◌∷◌, ◌++◌, append_assoc}
use native.Mathlib.Omega.{arith}
use lib.ListN.{length, take, drop, length-append}
use lib.Seq.{paste, take-paste, take_all}
use Rattle.rules.specs.declared.Rest.{Rest}
use Rattle.rules.specs.Texts.{ascii}
use Rattle.rules.specs.Blocks.{security_size_lem}
use Rattle.rules.specs.Bursts.{burst_byte}
use Rattle.rules.specs.Fields.{flags_number}
use Rattle.rules.proofs.Fields.{flags_back, burst_back}
use Rattle.image.specs.Form.{high_first, sum, record_of, registers, file_size_lem}
use Rattle.image.specs.Files.{body_in}
use Rattle.image.proofs.Bytes.{length_high}
use Rattle.image.proofs.Laws.{length_front, length_middle}
use Rattle.image_records.proofs.Laws.{paste_before, paste_behind, paste_there, paste_over}

-- what is put behind what was put
pub paste_next : (l xs ys : List ℕ) (at n m : ℕ) → length xs ≡ n → length ys ≡ m → at + (n + m) ≤ length l
    → paste (paste l at xs n) (at + n) ys m ≡ paste l at (xs ++ ys) (n + m)
paste_next l xs ys at n m e d fits =
    let j : at + n + m ≡ at + (n + m) = omega arith in
    let both : length (xs ++ ys) ≡ n + m = rw (length-append, e, d) in
    (λ i. take-paste l at xs n (omega arith) (omega arith) i ++ take_all m ys (omega arith) i ++ paste_behind l at xs n (at + n + m) (omega arith) (omega arith) (omega arith) i)
    ∙ (λ i. take at l ++ take_all n xs (omega arith) i ++ ys ++ drop (j i) l)
    ∙ (λ i. append_assoc (take at l) xs ys i ++ drop (at + (n + m)) l)
    ∙ (λ i. take at l ++ sym (take_all (n + m) (xs ++ ys) (omega arith)) i ++ drop (at + (n + m)) l)

-- mark and sum around a body that was put behind the mark's place
pub record_put : (mark : String) (x : ℕ) (l body : List ℕ) (at n : ℕ) → high_first 2 x ≡ ascii mark → length body ≡ n → at + (n + 4) ≤ length l
    → paste (paste l (at + 2) body n) at (high_first 2 x ++ body_in (paste l (at + 2) body n) at n ++ high_first 2 (sum (body_in (paste l (at + 2) body n) at n))) (n + 4)
    ≡ paste l at (record_of mark body) (n + 4)
unfolding record_of
record_put mark x l body at n m e fits =
    let there : body_in (paste l (at + 2) body n) at n ≡ body = paste_there l (at + 2) body n (omega arith) (omega arith) ∙ take_all n body (omega arith) in
    rw (there, m)
    (paste_over (paste l (at + 2) body n) l at (ascii mark ++ body ++ high_first 2 (sum body)) (n + 4)
    (paste_before l (at + 2) body n at (omega arith) (omega arith))
    (paste_behind l (at + 2) body n (at + (n + 4)) (omega arith) (omega arith) (omega arith)))

-- ---- six bytes as three times two

six_is : (x : ℕ) → high_first 2 (x / 0x1_0000_0000) ++ high_first 2 (x / 0x1_0000) ++ high_first 2 x ≡ high_first 6 x
unfolding high_first
six_is x = λ i. a i ∷ b i ∷ c i ∷ d i ∷ x / 256 % 256 ∷ x % 256 ∷ []
  where
    a : x / 0x1_0000_0000 / 256 % 256 ≡ x / 256 / 256 / 256 / 256 / 256 % 256
    a = omega arith

    b : x / 0x1_0000_0000 % 256 ≡ x / 256 / 256 / 256 / 256 % 256
    b = omega arith

    c : x / 0x1_0000 / 256 % 256 ≡ x / 256 / 256 / 256 % 256
    c = omega arith

    d : x / 0x1_0000 % 256 ≡ x / 256 / 256 % 256
    d = omega arith

pub put_six : (l : List ℕ) (at x : ℕ) → at + 6 ≤ length l
    → paste (paste (paste l at (high_first 2 (x / 0x1_0000_0000)) 2) (at + 2) (high_first 2 (x / 0x1_0000)) 2) (at + 4) (high_first 2 x) 2 ≡ paste l at (high_first 6 x) 6
put_six l at x h =
    let p = length_high 2 (x / 0x1_0000_0000) in
    let q = length_high 2 (x / 0x1_0000) in
    let r = length_high 2 x in
    let both : length (high_first 2 (x / 0x1_0000_0000) ++ high_first 2 (x / 0x1_0000)) ≡ 4 = rw (length-append, p, q) in
    ap (λ z. paste z (at + 4) (high_first 2 x) 2) (paste_next l (high_first 2 (x / 0x1_0000_0000)) (high_first 2 (x / 0x1_0000)) at 2 2 p q (omega arith))
    ∙ paste_next l (high_first 2 (x / 0x1_0000_0000) ++ high_first 2 (x / 0x1_0000)) (high_first 2 x) at 4 2 both r (omega arith)
    ∙ ap (λ z. paste l at z 6) (six_is x)

-- flags and burst code as two bytes
pub small_flags : (r : Rest) → (flags_number r.flags < 256) × (burst_byte r.burst < 256)
small_flags r = let f = (flags_back r.flags).0 in let b = (burst_back r.burst).0 in (omega arith, omega arith)

last_two_lem : (f b : ℕ) → f < 256 → b < 256 → high_first 2 (f * 256 + b) ≡ f ∷ b ∷ []
unfolding high_first
last_two_lem f b h k =
    let x : (f * 256 + b) / 256 % 256 ≡ f = omega arith in
    let y : (f * 256 + b) % 256 ≡ b = omega arith in
    λ i. x i ∷ y i ∷ []

-- the registers' body
pub put_registers : (l : List ℕ) (r : Rest) → 18 ≤ length l
    → paste (paste (paste l 2 (high_first 6 r.locks.protection) 6) 8 (high_first 6 r.locks.permanent) 6) 14 (high_first 2 (flags_number r.flags * 256 + burst_byte r.burst)) 2
    ≡ paste l 2 (registers r) 14
unfolding registers
put_registers l r h =
    let p = length_high 6 r.locks.protection in
    let q = length_high 6 r.locks.permanent in
    let s = small_flags r in
    let both : length (high_first 6 r.locks.protection ++ high_first 6 r.locks.permanent) ≡ 12 = rw (length-append, p, q) in
    (λ i. paste (paste_next l (high_first 6 r.locks.protection) (high_first 6 r.locks.permanent) 2 6 6 p q (omega arith) i) 14 (last_two_lem (flags_number r.flags) (burst_byte r.burst) s.0 s.1 i) 2)
    ∙ paste_next l (high_first 6 r.locks.protection ++ high_first 6 r.locks.permanent) (flags_number r.flags ∷ burst_byte r.burst ∷ []) 2 12 2 both refl (omega arith)

-- the two records in front of them
pub front : (l : List ℕ) (r : Rest) (security : List ℕ) → length l ≡ file_size_lem → length security ≡ security_size_lem
    → take 2070 (paste (paste l 0 (record_of "RG" (registers r)) 18) 18 (record_of "SI" security) 2052) ≡ record_of "RG" (registers r) ++ record_of "SI" security
front l r security size e =
    let a : length (record_of "RG" (registers r)) ≡ 18 = length_front r in
    let b : length (record_of "SI" security) ≡ 2052 = length_middle security e in
    let both : length (record_of "RG" (registers r) ++ record_of "SI" security) ≡ 2070 = rw (length-append, a, b) in
    ap (take 2070) (paste_next l (record_of "RG" (registers r)) (record_of "SI" security) 0 18 2052 a b (omega arith))
    ∙ take-paste l 0 (record_of "RG" (registers r) ++ record_of "SI" security) 2070 (omega arith) (omega arith)
    ∙ take_all 2070 (record_of "RG" (registers r) ++ record_of "SI" security) (omega arith)
