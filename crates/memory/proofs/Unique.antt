-- No second outcome: whatever meets the guarantee of a public function of this crate at the same input is the same result and the same lent memory.
-- A patch leaves one list; the rest are equations. Assumes nothing.
use Prim.Native.Nat.{ℕ, ◌+◌, ◌-◌, ◌<◌}
use mathlib.Core.Path.{◌≡◌, sym, ap, ◌∙◌}
use mathlib.Core.List.{List}
use native.Mathlib.Omega.{arith}
use native.Mathlib.Decide.{dec_lt}
use lib.ListN.{get_or}
use lib.Seq.{ext_get_or}
use Rattle.rules.proofs.Promises.{one, lent_one}
use Rattle.rules.proofs.Outcomes.{OneResult, OneList}
use Rattle.memory.specs.Patched.{Patched}
use Rattle.memory.proofs.set_all.Reads as set_all
use Rattle.memory.proofs.copy.Reads as copy
use Rattle.memory.proofs.repeat.Reads as repeat
use Rattle.memory.proofs.clear_bits.Reads as clear-bits
use Rattle.memory.proofs.blank_page.Reads as blank_page
use Rattle.memory.proofs.fill_page.Reads as fill-page
use Rattle.memory.proofs.first_ff.Reads as first-ff
use Rattle.memory.proofs.finish_array.Reads as finish-array
use Rattle.memory.proofs.finish_security.Reads as finish-security

-- a patch leaves no second list
pub patched_one : {l k l₀ : List ℕ} {from n : ℕ} {f : ℕ → ℕ} → Patched l l₀ from n f → Patched k l₀ from n f → l ≡ k
patched_one {l} {k} {l₀} {from} {n} {f} p q = ext_get_or 0 l k (p.size ∙ sym q.size) (λ i below. go i (dec_lt i from) (dec_lt i (from + n)))
  where
    go : (i : ℕ) → Dec (i < from) → Dec (i < from + n) → get_or l i 0 ≡ get_or k i 0
    go i (yes b) d = p.before i b ∙ sym (q.before i b)
    go i (no b) (yes d) =
        let e : from + (i - from) ≡ i = omega arith in
        ap (λ (x : ℕ). get_or l x 0) (sym e) ∙ p.inside (i - from) (omega arith) ∙ sym (q.inside (i - from) (omega arith)) ∙ ap (λ (x : ℕ). get_or k x 0) e
    go i (no b) (no d) = p.after i (omega arith) ∙ sym (q.after i (omega arith))

pub set_all_one : OneList set_all.Post (λ a. a.0.now)
set_all_one κ a x y r r' p q = patched_one p q

pub copy_one : OneList copy.Post (λ a. a.0.now)
copy_one κ a x y r r' p q = patched_one p q

pub repeat_one : OneList repeat.Post (λ a. a.0.now)
repeat_one κ a x y r r' p q = ext_get_or 0 _ _ (p.size ∙ sym q.size) (λ i below. let s = p.size in p.at i (omega arith) ∙ sym (q.at i (omega arith)))

pub clear_bits_one : OneList clear-bits.Post (λ a. a.0.now)
clear_bits_one κ a x y r r' p q = patched_one p q

pub blank_page_one : OneList blank_page.Post (λ a. a.0.now)
blank_page_one κ a x y r r' p q = one p q

pub fill_page_one : OneList fill-page.Post (λ a. a.0.now)
fill_page_one κ a x y r r' p q = one p q

pub first_ff_one : OneResult first-ff.Post
first_ff_one κ a x y r r' p q = one p q

pub finish_array_one : OneList finish-array.Post (λ a. a.1.1.1.1.0.now)
finish_array_one κ a x y r r' p q = lent_one _ _ (one p q)

pub finish_security_one : OneList finish-security.Post (λ a. a.1.1.1.1.0.now)
finish_security_one κ a x y r r' p q = lent_one _ _ (one p q)
