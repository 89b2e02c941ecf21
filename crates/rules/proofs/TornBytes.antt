-- Work that is stopped, byte by byte: where m leaves byte k as it was, that programs clear and erases set, and a torn byte bit by bit. Assumes nothing.
use Prim.Native.Nat.{ℕ, ◌-◌, ◌≤◌, ◌<◌}
use mathlib.Core.Path.{◌≡◌, refl, sym, ap, ◌∙◌}
use mathlib.Core.Bool.{Bool, true, false, ◌&&◌, ◌||◌, true≢false, false≢true}
use mathlib.Core.List.{List}
use native.Mathlib.Omega.{arith}
use lib.Dec.{eqb, ltb}
use lib.ListN.{get_or}
use lib.Bits.{bit_and, bit_or, and_self, or_zero_r}
use borrow.Author.Tests.{lt-ltb, le-ltb}
use Rattle.rules.specs.declared.Range.{Range}
use Rattle.rules.specs.declared.Tear.{Tear}
use Rattle.rules.specs.declared.Work.{Work}
use Rattle.rules.specs.Words.{bit, pick, holds, Lent}
use Rattle.rules.specs.Works.{is_erase, finished, torn, stopped, tear_of, finish}
use Rattle.rules.specs.Tears.{OfBytes, first_finished, cleanly, TornBits}
use Rattle.rules.proofs.Bits.{bit_or_lem, bit_and_lem, and_absorbs, or_absorbs, byte_bit, byte_among}
use Rattle.rules.proofs.Blocks.{holds_at}
use Rattle.rules.proofs.Promises.{lent_ext}

-- ---- a memory from its bytes

module _ (w : Work) (r : Range) (b : List ℕ) (t : Tear) (m : Lent) where
  -- a relation of the new byte and the old one that holds where a byte is stopped, and where it is left
  pub finish_each : (P : ℕ → ℕ → Type 0) (a : ℕ) → (holds r a ≡ true → P (stopped w b t (a - r.start) (m.byte a)) (m.byte a)) → P (m.byte a) (m.byte a)
      → P ((finish w r b t m).byte a) (m.byte a)
  unfolding finish
  finish_each P a p q = go (holds r a) refl
    where
      go : (x : Bool) → holds r a ≡ x → P (pick x (stopped w b t (a - r.start) (m.byte a)) (m.byte a)) (m.byte a)
      go true e = p e
      go false e = q

  -- each byte of the range is left
  pub finish_same : ((a : ℕ) → holds r a ≡ true → stopped w b t (a - r.start) (m.byte a) ≡ m.byte a) → finish w r b t m ≡ m
  unfolding finish
  finish_same h = lent_ext refl (λ a. finish_each (λ x y. x ≡ y) a (h a) refl)

-- ---- m, only where the range has a byte k

pub finish_past : (w : Work) (r : Range) (b : List ℕ) (k m n : ℕ) (l : Lent) → r.size ≤ k → finish w r b (tear_of k m) l ≡ finish w r b (tear_of k n) l
unfolding finish
finish_past w r b k m n l h = lent_ext refl (λ a. go a (holds r a) refl)
  where
    go : (a : ℕ) (x : Bool) → holds r a ≡ x → pick x (stopped w b (tear_of k m) (a - r.start) (l.byte a)) (l.byte a) ≡ pick x (stopped w b (tear_of k n) (a - r.start) (l.byte a)) (l.byte a)
    go a true e = let g = holds_at r a e in rw (lt-ltb (a - r.start) k (omega arith))
    go a false e = refl

-- ---- document 01's power cut and reset

-- m FF for a program, m 00 for an erase: byte k is left
clean_byte : (w : Work) (b : List ℕ) (k i x : ℕ) → x < 256 → torn w b (cleanly w k).m i x ≡ x
clean_byte w b k i x h = go (is_erase w)
  where
    go : (e : Bool) → pick e (bit_or x (pick e 0x00 0xFF)) (bit_and x (bit_or (pick e 0xFF (bit_and x (get_or b i 0))) (pick e 0x00 0xFF))) ≡ x
    go true = or_zero_r x
    go false = byte_among x (bit_and x (get_or b i 0)) h

pub clean_finish : (w : Work) (r : Range) (b : List ℕ) (k : ℕ) (m : Lent) → OfBytes m → finish w r b (cleanly w k) m ≡ first_finished w r b k m
unfolding finish
clean_finish w r b k m bytes = lent_ext refl (λ a. go a (holds r a) (ltb (a - r.start) k) (eqb (a - r.start) k))
  where
    go : (a : ℕ) (x y z : Bool)
        → pick x (pick y (finished w b (a - r.start) (m.byte a)) (pick z (torn w b (cleanly w k).m (a - r.start) (m.byte a)) (m.byte a))) (m.byte a)
        ≡ pick (x && y) (finished w b (a - r.start) (m.byte a)) (m.byte a)
    go a true true z = refl
    go a true false true = clean_byte w b k (a - r.start) (m.byte a) (bytes a)
    go a true false false = refl
    go a false y z = refl

-- the first none of the bytes: nothing is finished
none_finished : (w : Work) (r : Range) (b : List ℕ) (m : Lent) → first_finished w r b 0 m ≡ m
none_finished w r b m = lent_ext refl (λ a. go a (holds r a))
  where
    go : (a : ℕ) (x : Bool) → pick (x && ltb (a - r.start) 0) (finished w b (a - r.start) (m.byte a)) (m.byte a) ≡ m.byte a
    go a true = rw (le-ltb (a - r.start) 0 (omega arith))
    go a false = refl

pub clean_none : (w : Work) (r : Range) (b : List ℕ) (m : Lent) → OfBytes m → finish w r b (cleanly w 0) m ≡ m
clean_none w r b m bytes = clean_finish w r b 0 m bytes ∙ none_finished w r b m

-- ---- clear-only programming, and an erase only sets bits

pub stopped_clears : (w : Work) (b : List ℕ) (t : Tear) (i x : ℕ) → is_erase w ≡ false → bit_and (stopped w b t i x) x ≡ stopped w b t i x
stopped_clears w b t i x e = go (ltb i t.k) (eqb i t.k) (is_erase w) e
  where
    go : (y z e : Bool) → e ≡ false
        → let f = pick e 0xFF (bit_and x (get_or b i 0)) in
        let n = pick y f (pick z (pick e (bit_or x t.m) (bit_and x (bit_or f t.m))) x) in
        bit_and n x ≡ n
    go y z true e = absurd (true≢false e)
    go true z false e = and_absorbs x (get_or b i 0)
    go false true false e = and_absorbs x (bit_or (bit_and x (get_or b i 0)) t.m)
    go false false false e = and_self x

pub stopped_sets : (w : Work) (b : List ℕ) (t : Tear) (i x : ℕ) → is_erase w ≡ true → x < 256 → bit_and x (stopped w b t i x) ≡ x
stopped_sets w b t i x e h = go (ltb i t.k) (eqb i t.k) (is_erase w) e
  where
    go : (y z e : Bool) → e ≡ true
        → let f = pick e 0xFF (bit_and x (get_or b i 0)) in
        bit_and x (pick y f (pick z (pick e (bit_or x t.m) (bit_and x (bit_or f t.m))) x)) ≡ x
    go y z false e = absurd (false≢true e)
    go true z true e = byte_among x 0 h
    go false true true e = or_absorbs x t.m
    go false false true e = and_self x

-- ---- a torn byte, bit by bit

pub torn_bits : TornBits
torn_bits w b m i x n h = go (is_erase w)
  where
    erased : (p q r : Bool) → r ≡ true → (p || q) ≡ pick q r p
    erased true true r e = sym e
    erased true false r e = refl
    erased false true r e = sym e
    erased false false r e = refl

    programmed : (p q r : Bool) → (p && ((p && q) || r)) ≡ pick r p (p && q)
    programmed true true true = refl
    programmed true true false = refl
    programmed true false true = refl
    programmed true false false = refl
    programmed false q true = refl
    programmed false q false = refl

    y : ℕ
    y = get_or b i 0

    go : (e : Bool)
        → let f = pick e 0xFF (bit_and x y) in
        bit n (pick e (bit_or x m) (bit_and x (bit_or f m))) ≡ pick e (pick (bit n m) (bit n f) (bit n x)) (pick (bit n m) (bit n x) (bit n f))
    go true = bit_or_lem n x m ∙ erased (bit n x) (bit n m) (bit n 0xFF) (byte_bit n h)
    go false =
        bit_and_lem n x (bit_or (bit_and x y) m) ∙ ap (λ (z : Bool). bit n x && z) (bit_or_lem n (bit_and x y) m ∙ ap (λ (z : Bool). z || bit n m) (bit_and_lem n x y))
        ∙ programmed (bit n x) (bit n y) (bit n m) ∙ ap (λ (z : Bool). pick (bit n m) (bit n x) z) (sym (bit_and_lem n x y))
