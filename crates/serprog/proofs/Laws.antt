-- What the loop and the disguise come to, and how long parameters and answers are. Assumes nothing.
use Prim.Native.Nat.{ℕ, zero, suc, ◌+◌, ◌≤◌, ◌<◌}
use mathlib.Core.Path.{◌≡◌, refl, sym, ap, ◌∙◌}
use mathlib.Core.Bool.{Bool, true, false, ◌&&◌}
use mathlib.Core.List.{List, [], ◌∷◌}
use native.Mathlib.Omega.{arith}
use native.Mathlib.Decide.{ℕ_discrete}
use lib.Dec.{eqb, leb}
use borrow.Author.Tests.{leb-true}
use Rattle.std.specs.Prelude.{◌++◌}
use lib.ListN.{length, get_or, drop, replicate}
use Rattle.rules.specs.Words.{bit, pick, every, lent, written}
use Rattle.rules.proofs.Bools.{and_split}
use Rattle.rules.proofs.Promises.{lent_written}
use Rattle.serprog.specs.declared.Command.{Command}
use Rattle.serprog.specs.Commands.{Row, rows, find, shape_of, map_bytes, map_from, name_bytes, ack, nak, fits, send_length, receive_length, answer_bytes, padded, answer_of}
use Rattle.serprog.specs.Showing.{disguised, sibling, shown_byte}

-- ---- an answer's bytes

pub padded_is : (n : ℕ) (l : List ℕ) → length l ≤ n → padded n l ≡ l ++ drop (length l) (replicate n 0)
unfolding padded
padded_is zero [] h = refl
padded_is zero (x ∷ xs) h = absurd (omega arith)
padded_is (suc n) [] h = ap (λ (t : List ℕ). 0 ∷ t) (padded_is n [] (omega arith))
padded_is (suc n) (x ∷ xs) h = ap (λ (t : List ℕ). x ∷ t) (padded_is n xs (omega arith))

-- ---- what is shown

module _ (l : List ℕ) (d disguise done : Bool) (op : ℕ) (ed : d ≡ disguised disguise done op) where
  abbrev by : Bool → ℕ → ℕ
  by b i = pick b (sibling i (get_or l i 0)) (get_or l i 0)

  pub shown_sibling : (l' : List ℕ) → d ≡ true → lent l' ≡ written (length l) (λ i. sibling i (get_or l i 0))
      → lent l' ≡ written (length l) (λ i. shown_byte disguise done op i (get_or l i 0))
  shown_sibling l' e p = p ∙ ap (λ (b : Bool). written (length l) (by b)) (sym e ∙ ed)

  pub shown_same : d ≡ false → lent l ≡ written (length l) (λ i. shown_byte disguise done op i (get_or l i 0))
  shown_same e = lent_written l (length l) (by false) refl (λ i h. refl) ∙ ap (λ (b : Bool). written (length l) (by b)) (sym e ∙ ed)

-- ---- sizes

-- no command has more than six parameter bytes
find_few : (o : ℕ) (rs : List Row) → every (λ r. leb r.shape.parameters 6) rs ≡ true → (find rs o).parameters ≤ 6
unfolding find
find_few o [] e = omega arith
find_few o (r ∷ rs) e = go (eqb o r.code) (find_few o rs h.1)
  where
    h : (leb r.shape.parameters 6 ≡ true) × (every (λ r. leb r.shape.parameters 6) rs ≡ true)
    h = and_split (leb r.shape.parameters 6) (every (λ r. leb r.shape.parameters 6) rs) e

    go : (b : Bool) → (find rs o).parameters ≤ 6 → (pick b r.shape (find rs o)).parameters ≤ 6
    go true later = leb-true r.shape.parameters 6 h.0
    go false later = later

pub parameters_few : (o : ℕ) → (shape_of o).parameters ≤ 6
unfolding shape_of rows
parameters_few o = find_few o rows refl

-- no answer has more than 33 bytes
either_few : (b : Bool) (l k : List ℕ) → length l ≤ 33 → length k ≤ 33 → length (pick b l k) ≤ 33
either_few true l k p q = p
either_few false l k p q = q

few : (k : Command) (p : List ℕ) → length (answer_bytes k p) ≤ 33
unfolding map_bytes map_from name_bytes
few Command.Nothing p = omega arith
few Command.Version p = omega arith
few Command.Map p = omega arith
few Command.Name p = omega arith
few Command.BufferSize p = omega arith
few Command.Buses p = omega arith
few Command.Sync p = omega arith
few Command.SetBus p = either_few (bit 3 (get_or p 0 0)) (ack ∷ []) (nak ∷ []) (omega arith) (omega arith)
few Command.Operation p = either_few (fits (send_length p) (receive_length p)) (ack ∷ []) (nak ∷ []) (omega arith) (omega arith)
few Command.SetFrequency p =
    either_few (eqb (get_or p 0 0) 0 && eqb (get_or p 1 0) 0 && eqb (get_or p 2 0) 0 && eqb (get_or p 3 0) 0) (nak ∷ []) (ack ∷ get_or p 0 0 ∷ get_or p 1 0 ∷ get_or p 2 0 ∷ get_or p 3 0 ∷ []) (omega arith) (omega arith)
few Command.SetPins p = omega arith
few Command.Unlisted p = omega arith

padded_length : (n : ℕ) (l : List ℕ) → length (padded n l) ≡ n
unfolding padded
padded_length zero l = refl
padded_length (suc n) [] = ap suc (padded_length n [])
padded_length (suc n) (x ∷ xs) = ap suc (padded_length n xs)

pub answer_fits : (k : Command) (p : List ℕ) → (answer_of (answer_bytes k p)).count ≤ length (answer_of (answer_bytes k p)).bytes
unfolding answer_of
answer_fits k p = let e = padded_length 33 (answer_bytes k p) in let f = few k p in omega arith
