-- An answer that is lent whole, with the reply as its part from the second byte on. Assumes nothing.
use Prim.Native.Nat.{ℕ, zero, suc, ◌-◌, ◌<◌, ◌≤◌}
use mathlib.Core.Path.{◌≡◌, refl, ap, ◌∙◌}
use mathlib.Core.List.{List, [], ◌∷◌, ◌++◌, append-nil}
use native.Mathlib.Omega.{arith}
use lib.ListN.{length, get_or, set, take, drop, drop_of_length-le}
use lib.Seq.{take_all}
use borrow.Rule.Slice.PartMut.{mid_of, put_mid}
use Rattle.rules.specs.Words.{lent}
use Rattle.rules.specs.Promises.{bench_of, carried_of, state_of, frame_of}
use Rattle.rules.proofs.Promises.{lent_ext}
use Rattle.operating.specs.declared.Bench.{Bench}
use Rattle.operating.specs.Operations.{leaves, operated, untorn, OperationPromise, after_byte, after, answered_by, answered_operation, AnswerPromise}

lent_after : (x : ℕ) (l : List ℕ) → lent (x ∷ l) ≡ after x (lent l)
lent_after x l = lent_ext refl go
  where
    go : (i : ℕ) → get_or (x ∷ l) i 0 ≡ after_byte x (lent l) i
    go zero = refl
    go (suc i) = refl

-- the 06 is stored, and the reply put in the place of what is left
pub answers : (answer : List ℕ) {b r : Bench} {array security sent marks array' security' reply marks' : List ℕ} → 0 < length answer
    → OperationPromise b array security sent (mid_of 1 (length (set answer 0 6) - 1) (set answer 0 6)) marks r array' security' reply marks'
    → AnswerPromise b array security sent answer marks r array' security' (put_mid 1 (length (set answer 0 6) - 1) (set answer 0 6) reply) marks'
unfolding answered_operation
answers [] h p = absurd (omega arith)
answers (x ∷ xs) {b} {r} {array} {security} {sent} {marks} {array'} {security'} {reply} {marks'} h p =
    record {
      outcome = ap (λ (l : List ℕ). leaves r array' security' (6 ∷ l) marks') end
          ∙ (λ i. record { bench = r; array = lent array'; security = lent security'; reply = lent_after 6 reply i; marks = lent marks' })
          ∙ ap answered_by (p.outcome ∙ ap (λ (l : List ℕ). operated b (state_of (bench_of b.chip array security)) (frame_of (carried_of sent l marks (untorn b)))) all);
    }
  where
    all : take (suc (length xs) - 1) xs ≡ xs
    all = take_all (suc (length xs) - 1) xs (omega arith)

    end : reply ++ drop (suc (length xs) - 1) xs ≡ reply
    end = ap (λ (l : List ℕ). reply ++ l) (drop_of_length-le xs {i = suc (length xs) - 1} (omega arith)) ∙ append-nil reply

-- no room
pub nothing_answered : (answer : List ℕ) {b : Bench} {array security sent marks : List ℕ} → length answer ≤ 0
    → AnswerPromise b array security sent answer marks b array security answer marks
unfolding answered_operation
nothing_answered [] h = record { outcome = refl }
nothing_answered (x ∷ xs) h = absurd (omega arith)
