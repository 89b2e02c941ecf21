-- The frame in two parts: six bytes in front, and the data. Assumes nothing.
use Prim.Native.Nat.{ℕ}
use mathlib.Core.Path.{◌≡◌, ap, ◌∙◌}
use mathlib.Core.List.{List, [], ◌∷◌, ◌++◌}
use native.Mathlib.Omega.{arith}
use lib.ListN.{length, drop, length-drop}
use borrow.Rule.Slice.PartMut.{put_mid}
use Rattle.std.proofs.lemmas.List.{drop_all}
use Rattle.std.proofs.Common.{append-nil}
use Rattle.store.proofs.writes.put_record.Goals as goal

-- the data behind six bytes, and nothing behind the data
behind_six : (a b x y z w : ℕ) (rest bytes : List ℕ) → length rest ≡ 28 → put_mid 6 28 ((a ∷ b ∷ x ∷ y ∷ z ∷ w ∷ []) ++ rest) bytes ≡ a ∷ b ∷ x ∷ y ∷ z ∷ w ∷ bytes
behind_six a b x y z w rest bytes e =
    let none : bytes ++ drop 28 rest ≡ bytes = ap (λ (l : List ℕ). bytes ++ l) (drop_all 28 rest (omega (arith, e))) ∙ append-nil bytes in
    ap (λ (l : List ℕ). a ∷ b ∷ x ∷ y ∷ z ∷ w ∷ l) none

pub returns : goal.returns
returns c = let u = c.byte_of in let v = c.byte_of-2 in let x = c.byte_of-3 in let y = c.byte_of-4 in
    rw (c.copy_from_slice.ensures.after, c.copy_from_slice-2.ensures.after)
    (behind_six _ _ _ _ _ _ (drop 6 c.args.frame.now) c.args.«data».now (omega (arith, length-drop 6 c.args.frame.now))
    ∙ (λ j. 0x02 ∷ 0x01 ∷ u.ensures j ∷ v.ensures j ∷ x.ensures j ∷ y.ensures j ∷ c.args.«data».now))
