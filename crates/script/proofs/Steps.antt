-- One byte, by the reading that it gives and the bytes that it stores. Assumes nothing.
use Prim.Native.Nat.{ℕ}
use mathlib.Core.Path.{◌≡◌, ap, ◌∙◌}
use mathlib.Core.List.{List}
use Rattle.script.specs.declared.Reading.{Reading}
use Rattle.script.specs.Lines.{advanced, stored, remark_after, held, kept, stepped}

module _ (r : Reading) (b : ℕ) (q : Reading) (is : q ≡ advanced r b) where
  pub step_is : (f e k f' e' k' : List ℕ)
      → f' ≡ stored f r.sent q.sent q.last → e' ≡ stored e r.expected q.expected q.last → k' ≡ stored k r.expected q.expected q.kind
      → held q f' e' k' ≡ stepped (held r f e k) b
  unfolding stepped
  step_is f e k f' e' k' ef ee ek = (λ i. held q (ef i) (ee i) (ek i)) ∙ ap (λ (x : Reading). kept r x (held r f e k)) is

  pub remark_is : (m m' : List ℕ) → m' ≡ stored m r.remark q.remark b → m' ≡ remark_after r b m
  unfolding remark_after
  remark_is m m' e = e ∙ ap (λ (x : Reading). stored m r.remark x.remark b) is
