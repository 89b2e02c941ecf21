-- A word's key is the number of its bytes, and no other word has it: so a keyword is known by its key. Assumes nothing.
use Prim.Native.Nat.{ℕ, suc, ◌+◌, ◌*◌, ◌%◌, ◌^◌, ◌≤◌, ◌<◌}
use mathlib.Core.Path.{◌≡◌, refl, sym, ap, ◌∙◌}
use mathlib.Core.List.{List, [], ◌∷◌, reverse, reverse_aux, reverse-reverse}
use native.Mathlib.Omega.{arith}
use native.Mathlib.Nat.{pow-suc, pow-le-pow_right}
use lib.Dec.{lit<}
use lib.ListN.{length}
use borrow.Author.Tests.{ne_eqb, le-leb, lt-leb}
use Rattle.spelling.specs.declared.Word.{Word}
use Rattle.spelling.specs.Words.{one_more_lem, no_word, word_with, key_from, key}
use Rattle.grammar.specs.Table.{keys, position, called_long, called}
use Rattle.grammar.proofs.Spelled.{spelled, length_is}

-- each is a byte
pub data Bytes : List ℕ → Type 0 where
  none : Bytes []
  more : {b : ℕ} {bs : List ℕ} → b < 256 → Bytes bs → Bytes (b ∷ bs)

-- ---- no two words have one key

-- the key by the word's last byte
abbrev back : List ℕ → ℕ
back [] = 1
back (b ∷ bs) = back bs * 256 + b

key_back : (bs r : List ℕ) → key_from (back r) bs ≡ back (reverse_aux bs r)
key_back [] r = refl
key_back (b ∷ bs) r = key_back bs (b ∷ r)

bytes_back : {bs r : List ℕ} → Bytes bs → Bytes r → Bytes (reverse_aux bs r)
bytes_back none q = q
bytes_back (more h p) q = bytes_back p (more h q)

back_pos : (bs : List ℕ) → 1 ≤ back bs
back_pos [] = omega arith
back_pos (b ∷ bs) = let h = back_pos bs in omega arith

back_one : {bs cs : List ℕ} → Bytes bs → Bytes cs → back bs ≡ back cs → bs ≡ cs
back_one none none e = refl
back_one none (more {bs = cs} h q) e = let k = back_pos cs in absurd (omega arith)
back_one (more {bs = bs} h p) none e = let k = back_pos bs in absurd (omega arith)
back_one (more {b = b} {bs = bs} h p) (more {b = c} {bs = cs} k q) e =
    let s : b ≡ c = omega arith in
    let t : back bs ≡ back cs = omega arith in
    (λ i. s i ∷ back_one p q t i)

pub key_one : (bs cs : List ℕ) → Bytes bs → Bytes cs → key bs ≡ key cs → bs ≡ cs
key_one bs cs p q e =
    sym (reverse-reverse bs)
    ∙ ap (λ (l : List ℕ). reverse l) (back_one (bytes_back p none) (bytes_back q none) (sym (key_back bs []) ∙ e ∙ key_back cs []))
    ∙ reverse-reverse cs

-- ---- the key of a word that is read

key_from_lem : (w : Word) (c k r : ℕ) (bs : List ℕ) → Bytes bs → w.key ≡ k → k < 256 ^ r → r + length bs ≤ 8 → (spelled w c bs).key ≡ key_from k bs
unfolding spelled word_with
key_from_lem w c k r [] none e lt le = e
key_from_lem w c k r (b ∷ bs) (more h p) e lt le =
    let small : 256 ^ r ≤ 256 ^ 7 = pow-le-pow_right {n = 256} (lit< tt) {i = r} {j = 7} (omega arith) in
    let s : w.key % 72057594037927936 * 256 + b ≡ k * 256 + b = omega arith in
    let t : k * 256 + b < 256 ^ suc r = rw (pow-suc 256 r) (omega arith) in
    key_from_lem (word_with w b c) (one_more_lem c) (k * 256 + b) (suc r) bs p s t (omega arith)

pub key_is : (n c : ℕ) (bs : List ℕ) → Bytes bs → length bs ≤ 7 → (spelled (no_word n) c bs).key ≡ key bs
key_is n c bs p h = key_from_lem (no_word n) c 1 1 bs p refl (lit< tt) (omega arith)

-- ---- so a word of the list is known from its bytes, and any other is none of them

pub called_is : (n c : ℕ) (bs : List ℕ) → Bytes bs → length bs ≤ 7 → called (spelled (no_word n) c bs) ≡ position (key bs) 16 keys
unfolding called
called_is n c bs p h =
    let w : Word = spelled (no_word n) c bs in
    let l = length_is n c bs in
    rw (le-leb w.length 7 (omega arith), key_is n c bs p h)

-- a word of eight bytes is known by them too
eight_from : (w : Word) (c v r : ℕ) (bs : List ℕ) → Bytes bs → w.key ≡ 256 ^ r + v → v < 256 ^ r → r + length bs ≡ 8 → r < 8 → (spelled w c bs).key ≡ key_from v bs
unfolding spelled word_with
eight_from w c v r [] none e lt le below = absurd (omega arith)
eight_from w c v r (b ∷ []) (more h none) e lt le below =
    let s : r ≡ 7 = omega arith in
    let x : w.key ≡ 256 ^ 7 + v = e ∙ ap (λ (k : ℕ). 256 ^ k + v) s in
    let y : v < 256 ^ 7 = rw s at lt in
    omega arith
eight_from w c v r (b ∷ d ∷ bs) (more h p) e lt le below =
    let small : 256 ^ suc r ≤ 256 ^ 7 = pow-le-pow_right {n = 256} (lit< tt) {i = suc r} {j = 7} (omega arith) in
    let q = pow-suc 256 r in
    let s : w.key % 72057594037927936 * 256 + b ≡ 256 ^ suc r + (v * 256 + b) = omega arith in
    let t : v * 256 + b < 256 ^ suc r = omega arith in
    eight_from (word_with w b c) (one_more_lem c) (v * 256 + b) (suc r) (d ∷ bs) p s t (omega arith) (omega arith)

pub eight_is : (n c : ℕ) (bs : List ℕ) → Bytes bs → length bs ≡ 8 → (spelled (no_word n) c bs).key ≡ key_from 0 bs
eight_is n c bs p h = eight_from (no_word n) c 0 0 bs p refl (lit< tt) (omega arith) (omega arith)

pub eight_called : (n c : ℕ) (bs : List ℕ) → Bytes bs → length bs ≡ 8 → called (spelled (no_word n) c bs) ≡ called_long 8 (key_from 0 bs)
unfolding called
eight_called n c bs p h =
    let w : Word = spelled (no_word n) c bs in
    let l = length_is n c bs in
    let e : w.length ≡ 8 = omega arith in
    rw (lt-leb w.length 7 (omega arith), e, eight_is n c bs p h)

-- a longer word is none
pub long_is : (n c : ℕ) (bs : List ℕ) → 8 < length bs → called (spelled (no_word n) c bs) ≡ 255
unfolding called called_long
long_is n c bs h =
    let w : Word = spelled (no_word n) c bs in
    let l = length_is n c bs in
    rw (lt-leb w.length 7 (omega arith), ne_eqb w.length 8 (λ z. omega arith))
