use Prim.Native.Nat.{ℕ, suc, ◌+◌, ◌-◌, ◌/◌, ◌%◌, ◌<◌, ◌≤◌}
use mathlib.Core.Path.{◌≡◌, sym, ap, ◌∙◌}
use mathlib.Core.List.{List, ◌++◌, append-nil}
use lib.ListN.{length, take, set, drop, length-drop, length-take}
use lib.Seq.{take-suc-set, append_snoc, take_all}
use Rattle.std.proofs.lemmas.Slice.{take-put_mid, drop-put_mid}
use Rattle.record_code.specs.Layout.{bytes}
use native.Mathlib.Omega.{arith}
use Rattle.record_code.proofs.put_number.Goals as goal

-- one more byte of the number, and what is left of it
put_next : (l : List ℕ) (n i x : ℕ) → i < length l → i < n → take (i + 1) (set l i (x % 256)) ++ bytes (n - (i + 1)) (x / 256) ≡ take i l ++ bytes (n - i) x
unfolding bytes
put_next l n i x h below =
    let e : i + 1 ≡ suc i = omega arith in
    let k : n - i ≡ suc (n - suc i) = omega arith in
    rw (e, k, take-suc-set l i (x % 256) h) (append_snoc (take i l) (x % 256) (bytes (n - suc i) (x / 256)))

-- all of it
put_whole : (l : List ℕ) (n i x y : ℕ) → length l ≡ n → n ≤ i → take i l ++ bytes (n - i) x ≡ bytes n y → l ≡ bytes n y
unfolding bytes
put_whole l n i x y size all e =
    let z : n - i ≡ 0 = omega arith in
    sym (append-nil (take i l) ∙ take_all i l (omega arith)) ∙ (rw z at e)

pub loop-b-preserved : goal.loop-b-preserved
loop-b-preserved c = let l = c.loop-b in
    put_next l.part _ l.b-index l.left (omega arith) (omega arith) ∙ l.invariant

pub returns : goal.returns
returns c =
    let l = c.loop-b in
    let a = c.args in
    let size₀ : length (take (a.at + a.n - a.at) (drop a.at a.coded.now)) ≡ a.n = omega (arith, length-take {A = ℕ}, length-drop {A = ℕ}) in
    let size : length l.part ≡ a.n = omega arith in
    let p : l.part ≡ bytes a.n a.x = put_whole l.part a.n l.b-index l.left a.x size (omega arith) (rw size₀ at l.invariant) in (
      take-put_mid a.at (a.at + a.n - a.at) a.coded.now l.part (a.at + a.n) (omega arith) (omega arith) ∙ ap (λ (k : List ℕ). take a.at a.coded.now ++ k) p,
      drop-put_mid a.at (a.at + a.n - a.at) a.coded.now l.part (a.at + a.n) (omega arith) (omega arith) (omega arith),
    )
