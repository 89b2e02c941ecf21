-- A comparison tells the first place that differs, and how many do. Assumes nothing.
use Rattle.std.proofs.Common.{◌≡◌, ℕ, zero, suc, ◌+◌, ◌<◌, Bool, true, false, List, get_or, refl, ◌∙◌, arith, Option, None, Some}
use native.Mathlib.Decide.{ℕ_discrete}
use lib.Dec.{eqb}
use borrow.Author.Tests.{eqb-true, eqb-false}
use Rattle.rules.specs.Words.{pick}
use Rattle.raw_image.specs.declared.Difference.{Difference}
use Rattle.raw_image.specs.Raw.{one_more, differs_at, compared, differing, First, Tells}

-- one place more
more : (n : ℕ) (file array : List ℕ) (d : Option Difference) (x : Bool) → eqb (get_or file n 0) (get_or array n 0) ≡ x → Tells n file array d
    → Tells (suc n) file array (pick x d (Some (one_more n (get_or file n 0) (get_or array n 0) d)))
unfolding differing
more n file array None true e t =
    record { all = t.all ∙ rw e (omega arith); none = λ z i h. upto i (ℕ_discrete i n) (t.none refl i) h; first = tt }
  where
    upto : (i : ℕ) → Dec (i ≡ n) → (i < n → get_or file i 0 ≡ get_or array i 0) → i < suc n → get_or file i 0 ≡ get_or array i 0
    upto i (yes q) k h = rw q (eqb-true _ _ e)
    upto i (no q) k h = k (omega arith)
more n file array (Some d) true e t =
    let f = t.first in
    record { all = t.all ∙ rw e (omega arith); none = λ z. cc; first = record { some = f.some; before = f.before; within = omega arith; file_byte = f.file_byte; array_byte = f.array_byte; apart = f.apart } }
more n file array None false e t =
    record {
      all = rw e (let a = t.all in omega arith);
      none = λ z. cc;
      first = record { some = omega arith; before = t.none refl; within = omega arith; file_byte = refl; array_byte = refl; apart = eqb-false _ _ e };
    }
more n file array (Some d) false e t =
    let f = t.first in
    record {
      all = rw e (let a = t.all in omega arith);
      none = λ z. cc;
      first = record { some = omega arith; before = f.before; within = omega arith; file_byte = f.file_byte; array_byte = f.array_byte; apart = f.apart };
    }

pub compared_tells : (n : ℕ) (file array : List ℕ) → Tells n file array (compared n file array)
unfolding compared differs_at differing
compared_tells zero file array = record { all = refl; none = λ z i h. absurd (omega arith); first = tt }
compared_tells (suc n) file array = more n file array (compared n file array) _ refl (compared_tells n file array)
