-- The parts of the test of a record, put together. Assumes nothing.
use Prim.Native.Nat.{ℕ, ◌+◌, ◌^◌, ◌≤◌, ◌<◌, min, max}
use mathlib.Core.Path.{◌≡◌, sym, ap, ◌∙◌}
use mathlib.Core.Bool.{Bool, true, false, not, ◌&&◌, ◌||◌, and-true}
use mathlib.Core.List.{List}
use native.Mathlib.Omega.{arith}
use lib.Dec.{ltb}
use borrow.Author.Tests.{ltb-true, lt-ltb}
use Rattle.rules.specs.declared.Locks.{Locks}
use Rattle.rules.specs.declared.Range.{Range}
use Rattle.rules.specs.declared.Rest.{Rest}
use Rattle.rules.specs.declared.Work.{Work}
use Rattle.rules.specs.Words.{overlap}
use Rattle.rules.specs.Blocks.{unlocked}
use Rattle.rules.specs.Works.{is_nothing, is_erase, is_program, array_range}
use Rattle.rules.specs.Fields.{works_of, chip_of}
use Rattle.rules.specs.WellFormed.{numbers_right, locks_right, suspended_right_lem, beside_right, security_right, first_ff, buffer_right, works_right, well_formed}
use Rattle.rules.proofs.Bools.{and_split, and_both, same_test}
use Rattle.rules.proofs.Blocks.{overlap_at, unlocked_nowhere}
use Rattle.rules.proofs.LockBits.{registers_of_lem}
use Rattle.rules.proofs.WellFormed.{nothing}
use Rattle.rules.proofs.Ranges.{array_inside}

-- two ranges overlap where each start lies before both ends
pub overlap_four : (r s : Range)
    → (ltb r.start (r.start + r.size) && ltb r.start (s.start + s.size) && ltb s.start (r.start + r.size) && ltb s.start (s.start + s.size))
    ≡ overlap r s
unfolding overlap
overlap_four r s =
    same_test (ltb a x && ltb a y && ltb b x && ltb b y) (overlap r s)
    (λ e. let h₃ = and_split (ltb a x && ltb a y && ltb b x) (ltb b y) e in
    let h₂ = and_split (ltb a x && ltb a y) (ltb b x) h₃.0 in
    let h₁ = and_split (ltb a x) (ltb a y) h₂.0 in
    let p = ltb-true a x h₁.0 in
    let q = ltb-true a y h₁.1 in
    let u = ltb-true b x h₂.1 in
    let v = ltb-true b y h₃.1 in
    lt-ltb (max a b) (min x y) (omega arith))
    (λ e. let g = overlap_at r s e in
    and_both (and_both (and_both (lt-ltb a x (omega arith)) (lt-ltb a y (omega arith))) (lt-ltb b x (omega arith))) (lt-ltb b y (omega arith)))
  where
    a : ℕ
    a = r.start

    b : ℕ
    b = s.start

    x : ℕ
    x = r.start + r.size

    y : ℕ
    y = s.start + s.size

-- the range that was found ends within the array
pub found_inside : (w : Work) (r : Range) → numbers_right w ≡ true → r ≡ array_range w → r.start + r.size ≤ 2097152
found_inside w r h e = rw e (array_inside w h)

-- beside nothing all is right; two works are by their ranges and kinds
pub one_alone : (r s : Work) → (is_nothing r || is_nothing s) ≡ true → true ≡ beside_right r s
one_alone r s e = rw e

pub two_beside : (r s : Work) → (is_nothing r || is_nothing s) ≡ false
    → (not (overlap (array_range r) (array_range s)) && (is_erase r && is_program s || is_program r && is_erase s)) ≡ beside_right r s
two_beside r s e = rw e

pub low_register : (l : Locks) (x : Bool) → x ≡ locks_right l → x ≡ true → l.protection < 2 ^ 48
low_register l x e t = (registers_of_lem l.protection l.permanent (sym e ∙ t)).low

pub record Parts (p : ℕ) (sec : Bool) (b : List ℕ) (r s : Work) (kind beside running_open suspended_open security clean : Bool) : Type 0 where
  pub is_kind : kind ≡ suspended_right_lem s
  pub is_beside : beside ≡ beside_right r s
  pub is_running_open : running_open ≡ unlocked p (array_range r)
  pub is_suspended_open : suspended_open ≡ unlocked p (array_range s)
  pub is_security : security ≡ security_right r sec b
  pub is_clean : clean ≡ buffer_right r s b

-- of work with right numbers the rest of the test is its six parts
pub works_parts : (p : ℕ) (sec : Bool) (b : List ℕ) (r s : Work) (k d o u e f : Bool) → numbers_right r ≡ true → numbers_right s ≡ true → Parts p sec b r s k d o u e f
    → (k && d && o && u && e && f) ≡ works_right p sec b (works_of r s)
unfolding works_right
works_parts p sec b r s k d o u e f hr hs h =
    rw (h.is_kind, h.is_beside, h.is_running_open, h.is_suspended_open, h.is_security, h.is_clean, hr, hs)

-- with nothing running three of them are
pub alone : (p : ℕ) (sec : Bool) (b : List ℕ) (r s : Work) (k u f : Bool) → numbers_right s ≡ true → is_nothing r ≡ true → k ≡ suspended_right_lem s → u ≡ unlocked p (array_range s)
    → f ≡ buffer_right r s b → (k && u && f) ≡ works_right p sec b (works_of r s)
unfolding works_right
alone p sec b r s k u f hs i e o g =
    rw (e, o, g, nothing r i, hs, unlocked_nowhere p, and-true (suspended_right_lem s), and-true (suspended_right_lem s), and-true (suspended_right_lem s && unlocked p (array_range s)))

pub not_registers : (x y : Bool) (l : Locks) → x ≡ locks_right l → x ≡ false → false ≡ (locks_right l && y)
not_registers x y l e t = rw (sym e ∙ t)

-- the registers are right, and the rest decides
pub rest_decides : (x y z : Bool) (l : Locks) → x ≡ locks_right l → x ≡ true → y ≡ z → y ≡ (locks_right l && z)
rest_decides x y z l e t f = f ∙ ap (λ (w : Bool). w && z) (sym t ∙ e)

pub wrong_running : (p : ℕ) (sec : Bool) (b : List ℕ) (r s : Work) (x : Bool) → x ≡ numbers_right r → x ≡ false → false ≡ works_right p sec b (works_of r s)
unfolding works_right
wrong_running p sec b r s x e t = rw (sym e ∙ t)

pub wrong_suspended : (p : ℕ) (sec : Bool) (b : List ℕ) (r s : Work) (x y : Bool) → x ≡ numbers_right r → x ≡ true → y ≡ numbers_right s → y ≡ false → false ≡ works_right p sec b (works_of r s)
unfolding works_right
wrong_suspended p sec b r s x y e t f u = rw (sym e ∙ t, sym f ∙ u)

-- at rest the registers and the buffer decide
pub at_rest : (r : Rest) (b : List ℕ) → is_nothing r.works.running ≡ true → is_nothing r.works.suspended ≡ true
    → (locks_right r.locks && first_ff 256 b) ≡ well_formed (chip_of b r)
unfolding well_formed works_right
at_rest r b i j = rw (nothing r.works.running i, nothing r.works.suspended j, unlocked_nowhere r.locks.protection)
