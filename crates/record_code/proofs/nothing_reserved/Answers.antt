-- The fold's clause says that it is the OR of those bytes. Assumes nothing.
use Prim.Native.Nat.{ℕ, zero, suc, ◌+◌, ◌*◌, ◌≤◌}
use mathlib.Core.Path.{◌≡◌, sym, ap, ◌∙◌}
use mathlib.Core.Bool.{true, ◌&&◌, and-true}
use mathlib.Core.List.{List}
use native.Mathlib.Omega.{arith}
use native.Mathlib.Numerals.{add-one}
use lib.Bits.{bit_or, or_add_and, and_le_l, and_le_r}
use lib.Dec.{eqb}
use lib.ListN.{length, get_or, take, drop}
use lib.Seq.{drop-cons}
use borrow.Author.Tests.{eqb-true, eq-eqb}
use Rattle.std.specs.List.{fold}
use Rattle.std.proofs.Common.{rules, Bor, Iter}
use Rattle.rules.proofs.Bools.{and_split, and_both, same_test}
use Rattle.record_code.specs.Layout.{number_at}
use Rattle.record_code.proofs.nothing_reserved.Goals as goal

-- bits x, and a number whose lowest byte is b
zero_both : (x b n : ℕ) → (eqb (bit_or x b) 0 && eqb n 0) ≡ (eqb x 0 && eqb (b + 256 * n) 0)
zero_both x b n = same_test _ _ there back
  where
    there : (eqb (bit_or x b) 0 && eqb n 0) ≡ true → (eqb x 0 && eqb (b + 256 * n) 0) ≡ true
    there e =
        let h = and_split (eqb (bit_or x b) 0) (eqb n 0) e in
        let s = or_add_and x b in
        let k = and_le_l x b in
        let j = and_le_r x b in
        and_both (eq-eqb x 0 (omega (arith, eqb-true))) (eq-eqb (b + 256 * n) 0 (omega (arith, eqb-true)))

    back : (eqb x 0 && eqb (b + 256 * n) 0) ≡ true → (eqb (bit_or x b) 0 && eqb n 0) ≡ true
    back e =
        let h = and_split (eqb x 0) (eqb (b + 256 * n) 0) e in
        let s = or_add_and x b in
        and_both (eq-eqb (bit_or x b) 0 (omega (arith, eqb-true))) (eq-eqb n 0 (omega (arith, eqb-true)))

-- the OR of n bytes on top of bits x is 0 exactly where x and their number are
zeros : (l : List ℕ) (i n x : ℕ) → i + n ≤ length l → eqb (fold bit_or x (take n (drop i l))) 0 ≡ (eqb x 0 && eqb (number_at l i n) 0)
zeros l i zero x h = sym (and-true (eqb x 0))
zeros l i (suc n) x h =
    ap (λ (k : List ℕ). eqb (fold bit_or x (take (suc n) k)) 0) (drop-cons l i 0 (omega arith))
    ∙ ap (λ (k : ℕ). eqb (fold bit_or (bit_or x (get_or l i 0)) (take n (drop k l))) 0) (sym (add-one i))
    ∙ zeros l (i + 1) n (bit_or x (get_or l i 0)) (omega arith)
    ∙ zero_both x (get_or l i 0) (number_at l (i + 1) n)

pub returns : goal.returns
returns c =
    let l = c.args.coded.now in
    let run = c.fold.ensures.runs in
    let called : c.fold.result ≡ fold (λ x (y : Bor ℕ). bit_or x y.now) 0 run.0.items = run.3 (λ x y. bit_or x y.now) (λ x y r f said. search rules) in
    let e : c.fold.result ≡ fold bit_or 0 (take 28 (drop 292 l)) =
    called ∙ (c.iter.ensures.runs run.0 run.0.seen).5 bit_or 0 run.2
    ∙ ap (λ (i : Iter ℕ). fold bit_or 0 i.rest.now) run.1 ∙ ap (fold bit_or 0) c.iter.ensures.rest in
    rw e (zeros l 292 28 0 (omega arith))
