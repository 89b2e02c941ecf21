-- What "no second outcome" says of a post-condition, which is over lifetimes, arguments, the result and the arguments at exit.
use mathlib.Core.Path.{◌≡◌}
use mathlib.Core.List.{List}
use Prim.Native.Nat.{ℕ}

-- it leaves one outcome, as `came` reads it from the result and the arguments at exit
abbrev pub OneOutcome : {K A R S : Type 0} → (K → A → R → A → Type 0) → (R → A → S) → Type 0
OneOutcome {K} {A} {R} Post came = (κ : K) (a x y : A) (r r' : R) → Post κ a r x → Post κ a r' y → came r x ≡ came r' y

-- it leaves one result
abbrev pub OneResult : {K A R : Type 0} → (K → A → R → A → Type 0) → Type 0
OneResult {K} {A} {R} Post = (κ : K) (a x y : A) (r r' : R) → Post κ a r x → Post κ a r' y → r ≡ r'

-- it leaves one list in the slice that `lies` finds
abbrev pub OneList : {K A R : Type 0} → (K → A → R → A → Type 0) → (A → List ℕ) → Type 0
OneList {K} {A} {R} Post lies = (κ : K) (a x y : A) (r r' : R) → Post κ a r x → Post κ a r' y → lies x ≡ lies y
