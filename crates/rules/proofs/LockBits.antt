-- The two protection registers of a well-formed record, and what changes them. Assumes nothing.
use Prim.Native.Nat.{ℕ, ◌^◌, ◌<◌}
use mathlib.Core.Path.{◌≡◌, refl, sym, ap, ◌∙◌}
use mathlib.Core.Bool.{Bool, true, false, not, ◌&&◌, ◌||◌, beq, true≢false, false≢true}
use native.Mathlib.Nat.{lt_of_le_of_lt}
use lib.Dec.{eqb, ltb, lit<}
use lib.Bits.{bit_and, bit_or, and_le_l, and_le_r, or_lt}
use borrow.Author.Tests.{eqb-true, eq-eqb, ltb-true, lt-ltb}
use Rattle.rules.specs.Words.{bit}
use Rattle.rules.specs.Blocks.{write_locks, read_locks, all_locks, power_up_locks}
use Rattle.rules.specs.Fields.{locks_of}
use Rattle.rules.specs.WellFormed.{locks_right}
use Rattle.rules.proofs.Bools.{and_split, upto, upto_at}
use Rattle.rules.proofs.Bits.{bit_or_lem, bit_and_lem, among_at, among_intro, apart_at, apart_intro}

pub record Registers (p q : ℕ) : Type 0 where
  pub low : p < 2 ^ 48
  pub permanent_low : q < 2 ^ 48
  pub no_read_lock : bit_and q read_locks ≡ 0
  pub among : bit_and q p ≡ q

pub registers_of_lem : (p q : ℕ) → locks_right (locks_of p q) ≡ true → Registers p q
unfolding locks_right
registers_of_lem p q e =
    let h₃ = and_split (ltb p (2 ^ 48) && ltb q (2 ^ 48) && eqb (bit_and q read_locks) 0) (eqb (bit_and q p) q) e in
    let h₂ = and_split (ltb p (2 ^ 48) && ltb q (2 ^ 48)) (eqb (bit_and q read_locks) 0) h₃.0 in
    let h₁ = and_split (ltb p (2 ^ 48)) (ltb q (2 ^ 48)) h₂.0 in
    record {
      low = ltb-true p (2 ^ 48) h₁.0;
      permanent_low = ltb-true q (2 ^ 48) h₁.1;
      no_read_lock = eqb-true (bit_and q read_locks) 0 h₂.1;
      among = eqb-true (bit_and q p) q h₃.1;
    }

pub registers_right_lem : (p q : ℕ) → Registers p q → locks_right (locks_of p q) ≡ true
unfolding locks_right
registers_right_lem p q h =
    rw (lt-ltb p (2 ^ 48) h.low, lt-ltb q (2 ^ 48) h.permanent_low, eq-eqb (bit_and q read_locks) 0 h.no_read_lock, eq-eqb (bit_and q p) q h.among)

-- each of the 48 bits is a read lock or a write lock
masks : upto 48 (λ n. beq (bit n read_locks) (not (bit n write_locks))) ≡ true
unfolding bit
masks = refl

pub write_or_read : (n : ℕ) → n < 48 → bit n read_locks ≡ false → bit n write_locks ≡ true
write_or_read n h e = go (bit n read_locks) (bit n write_locks) e (upto_at 48 (λ n. beq (bit n read_locks) (not (bit n write_locks))) masks n h)
  where
    go : (a b : Bool) → a ≡ false → beq a (not b) ≡ true → b ≡ true
    go a true p q = refl
    go true false p q = absurd (true≢false p)
    go false false p q = absurd (false≢true q)

pub write_not_read : (n : ℕ) → n < 48 → bit n write_locks ≡ true → bit n read_locks ≡ false
write_not_read n h e = go (bit n read_locks) (bit n write_locks) e (upto_at 48 (λ n. beq (bit n read_locks) (not (bit n write_locks))) masks n h)
  where
    go : (a b : Bool) → b ≡ true → beq a (not b) ≡ true → a ≡ false
    go true true p q = absurd (false≢true q)
    go false b p q = refl
    go true false p q = absurd (false≢true p)

-- 42 and 98: any 48 bits, with the permanent ones
pub registers_or : (p q v : ℕ) → Registers p q → v < 2 ^ 48 → Registers (bit_or v q) q
registers_or p q v h below =
    record {
      low = or_lt 48 v q below h.permanent_low;
      permanent_low = h.permanent_low;
      no_read_lock = h.no_read_lock;
      among = among_intro 48 q (bit_or v q) h.permanent_low (λ n k e. bit_or_lem n v q ∙ ap (λ (x : Bool). bit n v || x) e ∙ right (bit n v));
    }
  where
    right : (a : Bool) → (a || true) ≡ true
    right true = refl
    right false = refl

pub masked_low : (x : ℕ) → bit_and x all_locks < 2 ^ 48
masked_low x = lt_of_le_of_lt (and_le_r x all_locks) (lit< tt)

pub read_locks_low : (p q : ℕ) → Registers p q → bit_and p read_locks < 2 ^ 48
read_locks_low p q h = lt_of_le_of_lt (and_le_l p read_locks) h.low

-- E8: both registers take the same write-lock bits more
pub registers_more : (p q v : ℕ) → Registers p q → Registers (bit_or p (bit_and v write_locks)) (bit_or q (bit_and v write_locks))
registers_more p q v h =
    record {
      low = or_lt 48 p w h.low below;
      permanent_low = or_lt 48 q w h.permanent_low below;
      no_read_lock = apart_intro 48 (bit_or q w) read_locks (or_lt 48 q w h.permanent_low below) apart;
      among = among_intro 48 (bit_or q w) (bit_or p w) (or_lt 48 q w h.permanent_low below)
          (λ n k e. bit_or_lem n p w ∙ held (bit n q) (bit n w) (bit n p) (sym (bit_or_lem n q w) ∙ e) (among_at q p h.among n));
    }
  where
    w : ℕ
    w = bit_and v write_locks

    below : w < 2 ^ 48
    below = lt_of_le_of_lt (and_le_r v write_locks) (lit< tt)

    held : (a b c : Bool) → (a || b) ≡ true → (a ≡ true → c ≡ true) → (c || b) ≡ true
    held a b true e k = refl
    held a true false e k = refl
    held true false false e k = k refl
    held false false false e k = e

    apart : (n : ℕ) → n < 48 → bit n (bit_or q w) ≡ true → bit n read_locks ≡ false
    apart n k e = go (bit n q) refl (sym (bit_or_lem n q w) ∙ e)
      where
        go : (a : Bool) → bit n q ≡ a → (a || bit n w) ≡ true → bit n read_locks ≡ false
        go true x y = apart_at q read_locks h.no_read_lock n x
        go false x y = write_not_read n k (and_split (bit n v) (bit n write_locks) (sym (bit_and_lem n v write_locks) ∙ y)).1

-- power-up
pub registers_powered : (p q : ℕ) → Registers p q → Registers power_up_locks q
registers_powered p q h =
    record {
      low = lit< tt;
      permanent_low = h.permanent_low;
      no_read_lock = h.no_read_lock;
      among = among_intro 48 q power_up_locks h.permanent_low (λ n k e. write_or_read n k (apart_at q read_locks h.no_read_lock n e));
    }
