-- A match that groups kinds tells their numbers, in the order of the declaration: what holds of each of those kinds holds of the value. Assumes nothing.
use Prim.Native.Nat.{ℕ}
use mathlib.Core.Path.{◌≡◌, refl, sym, subst}
use mathlib.Core.Bool.{Bool}
use mathlib.Core.List.{List, [], ◌∷◌}
use mathlib.Core.Logic.{inl, inr}
use denote.Enum.Declared.{Record, declared, tag_of}
use borrow.Enum.Known.{ValuesAt, at, lives_at}
use types.Run.{OneOf}
use Rattle.rules.specs.declared.Work.{Work}
use Rattle.rules.specs.Words.{nowhere, Each, end, ◌next◌}
use Rattle.rules.specs.Works.{array_range, security_range}
use Rattle.rules.specs.contracts.Work.{enum}

module _ (E : Record) (P : E.D → Type 0) where
  -- P of each value of kind k
  abbrev pub Kind : ℕ → Type 0
  Kind k = (v : ValuesAt E.parts k) → P (at E k v)

  of_kind : (k : ℕ) (x : E.D) → tag_of (declared E) x ≡ k → Kind k → P x
  of_kind k x e h = let l = lives_at E x k e in subst P (sym l.1) (h l.0)

  pub grouped : (ks : List ℕ) (x : E.D) → OneOf ks (tag_of (declared E) x) → Each Kind ks → P x
  grouped [] x e h = absurd e
  grouped (k ∷ []) x e (h next hs) = of_kind k x e h
  grouped (k ∷ m ∷ ks) x (inl e) (h next hs) = of_kind k x e h
  grouped (k ∷ m ∷ ks) x (inr e) (h next hs) = grouped (m ∷ ks) x e hs

-- ---- of work

-- a test that a kind decides
pub test : (t : Work → Bool) (b : Bool) (ks : List ℕ) (w : Work) → OneOf ks (tag_of (declared enum) w) → Each (Kind enum (λ w. b ≡ t w)) ks → b ≡ t w
test t b ks w e h = grouped enum (λ (w : Work). b ≡ t w) ks w e h

-- the kinds with no range
pub no_array : (w : Work) → OneOf (0 ∷ 5 ∷ 6 ∷ 7 ∷ 8 ∷ []) (tag_of (declared enum) w) → nowhere ≡ array_range w
no_array w e =
    grouped enum (λ (w : Work). nowhere ≡ array_range w) _ w e
    ((λ v. refl) next (λ v. refl) next (λ v. refl) next (λ v. refl) next (λ v. refl) next end)

pub no_security : (w : Work) → OneOf (0 ∷ 1 ∷ 2 ∷ 3 ∷ 4 ∷ 6 ∷ 7 ∷ 8 ∷ []) (tag_of (declared enum) w) → nowhere ≡ security_range w
no_security w e =
    grouped enum (λ (w : Work). nowhere ≡ security_range w) _ w e
    ((λ v. refl) next (λ v. refl) next (λ v. refl) next (λ v. refl) next (λ v. refl) next (λ v. refl) next (λ v. refl) next (λ v. refl) next end)
