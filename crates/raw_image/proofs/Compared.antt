-- A comparison that goes on. Assumes nothing.
use Rattle.std.proofs.Common.{◌≡◌, ℕ, ◌+◌, ◌≤◌, ◌<◌, Bool, true, false, List, get_or, refl, sym, ap, ◌∙◌, arith, add-one, Option, None, Some, IfSome, Ok, Err, is_ok}
use mathlib.Core.Bool.{true≢false, false≢true}
use borrow.Author.Tests.{eqb-true}
use Rattle.rules.specs.Blocks.{array_size_lem}
use Rattle.rules.proofs.Bools.{and_split}
use Rattle.image.specs.declared.FileRefusal.{FileRefusal}
use Rattle.image.specs.Promises.{Posted}
use lib.Dec.{eqb}
use Rattle.rules.specs.Words.{pick}
use Rattle.raw_image.specs.declared.Difference.{Difference}
use Rattle.raw_image.specs.Raw.{whole, raw_answer, one_more, differs_at, compared, count_in}

abbrev answer_of : Bool → Posted
answer_of b = pick b (Ok tt) (Err FileRefusal.Malformed)

-- what passes has both sizes
pub passes : (array file : ℕ) (r : Posted) → r ≡ raw_answer array file → is_ok r ≡ true → whole array file ≡ true
unfolding raw_answer
passes array file r e h = go (whole array file) (ap is_ok (sym e) ∙ h)
  where
    go : (b : Bool) → is_ok (answer_of b) ≡ true → b ≡ true
    go true k = refl
    go false k = absurd (false≢true k)

-- what is refused has not
pub refuses : (array file : ℕ) (r : Posted) → r ≡ raw_answer array file → is_ok r ≡ false → whole array file ≡ false
unfolding raw_answer
refuses array file r e h = go (whole array file) (ap is_ok (sym e) ∙ h)
  where
    go : (b : Bool) → is_ok (answer_of b) ≡ false → b ≡ false
    go true k = absurd (true≢false k)
    go false k = refl

pub sizes : (array file : ℕ) → whole array file ≡ true → (array ≡ array_size_lem) × (file ≡ array_size_lem)
unfolding whole
sizes array file e = let t = and_split _ _ e in (eqb-true _ _ t.0, eqb-true _ _ t.1)

-- one place more
pub compared_next : (i : ℕ) (f a : List ℕ) → compared (i + 1) f a ≡ differs_at i (get_or f i 0) (get_or a i 0) (compared i f a)
unfolding compared
compared_next i f a = rw (add-one i)

-- no more differ than there are
few_more : (t : Bool) (i f a : ℕ) (d : Option Difference) → count_in d ≤ i → count_in (pick t d (Some (one_more i f a d))) ≤ i + 1
few_more true i f a d h = omega arith
few_more false i f a None h = omega arith
few_more false i f a (Some d) h = omega arith

pub few : (i f a : ℕ) (d : Option Difference) → count_in d ≤ i → count_in (differs_at i f a d) ≤ i + 1
unfolding differs_at
few i f a d h = few_more (eqb f a) i f a d h

pub few_in : (n i : ℕ) (d : Option Difference) → count_in d ≤ i → i < n → IfSome d (λ x. x.count < n)
few_in n i None h k = tt
few_in n i (Some d) h k = omega arith
