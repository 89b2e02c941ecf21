-- A promise leaves no second outcome: whatever meets it at the same input is the same result and the same lent memory. Assumes nothing.
use Prim.Native.Nat.{ℕ, ◌<◌}
use mathlib.Core.Path.{◌≡◌, refl, sym, ap, ◌∙◌, fun_ext}
use mathlib.Core.Bool.{Bool, true, false}
use mathlib.Core.List.{List}
use native.Mathlib.Omega.{arith}
use lib.Dec.{eqb, ltb}
use lib.ListN.{length, get_or, get_or-eq_default}
use lib.Seq.{ext_get_or}
use Rattle.std.specs.Prelude.{Ok, Err}
use borrow.Author.Tests.{eqb-true, ltb-true, ltb-false}
use Rattle.rules.proofs.Bools.{every_of}
use Rattle.rules.specs.declared.Refusal.{Refusal}
use Rattle.rules.specs.declared.Tear.{Tear}
use Rattle.rules.specs.Words.{pick, one_of, every, Lent, lent, written}
use Rattle.rules.specs.Numbers.{Answer, answer_number}
use Rattle.rules.specs.Machine.{Outcome}
use Rattle.rules.specs.Promises.{Bench, Carried, Returned, outcome_of, FramePromise, CompletionPromise, CutPromise}

-- ---- lent memory

-- two memories are the same where their sizes are, and their bytes
pub lent_ext : {m n : Lent} → m.size ≡ n.size → ((i : ℕ) → m.byte i ≡ n.byte i) → m ≡ n
lent_ext p q = λ i. record { size = p i; byte = fun_ext q i }

-- a slice is the only one with its memory
pub lent_one : (l k : List ℕ) → lent l ≡ lent k → l ≡ k
lent_one l k e = ext_get_or 0 l k (ap (λ (m : Lent). m.size) e) (λ i below. ap (λ (m : Lent). m.byte i) e)

-- a slice that holds what f says below its length is the memory written by f
pub lent_written : (l : List ℕ) (n : ℕ) (f : ℕ → ℕ) → length l ≡ n → ((i : ℕ) → i < n → get_or l i 0 ≡ f i) → lent l ≡ written n f
lent_written l n f s h = lent_ext s (λ i. go i (ltb i n) refl)
  where
    go : (i : ℕ) (b : Bool) → ltb i n ≡ b → get_or l i 0 ≡ pick b (f i) 0
    go i true e = h i (ltb-true i n e)
    go i false e = get_or-eq_default l 0 (let k = ltb-false i n e in omega arith)

-- ---- the answer is known by its number

unfoldable pub refusal_of : ℕ → Refusal
refusal_of n =
    pick (ltb n 2) Refusal.Malformed
    (pick (ltb n 3) Refusal.Empty
    (pick (ltb n 4) Refusal.NotListed
    (pick (ltb n 5) Refusal.WrongLength
    (pick (ltb n 6) Refusal.Busy
    (pick (ltb n 7) Refusal.NoEnable
    (pick (ltb n 8) Refusal.NoIoc
    (pick (ltb n 9) Refusal.Suspension
    (pick (ltb n 10) Refusal.NoWel
    (pick (ltb n 11) Refusal.Closed
    (pick (ltb n 12) Refusal.WriteLocked
    (pick (ltb n 13) Refusal.NothingRuns Refusal.NoSuchBurst)))))))))))

unfoldable pub answer_of : ℕ → Answer
answer_of n = pick (ltb n 1) (Ok tt) (Err (refusal_of n))

answer_back : (a : Answer) → answer_of (answer_number a) ≡ a
unfolding answer_of refusal_of
answer_back (Ok x) = refl
answer_back (Err Refusal.Malformed) = refl
answer_back (Err Refusal.Empty) = refl
answer_back (Err Refusal.NotListed) = refl
answer_back (Err Refusal.WrongLength) = refl
answer_back (Err Refusal.Busy) = refl
answer_back (Err Refusal.NoEnable) = refl
answer_back (Err Refusal.NoIoc) = refl
answer_back (Err Refusal.Suspension) = refl
answer_back (Err Refusal.NoWel) = refl
answer_back (Err Refusal.Closed) = refl
answer_back (Err Refusal.WriteLocked) = refl
answer_back (Err Refusal.NothingRuns) = refl
answer_back (Err Refusal.NoSuchBurst) = refl

pub answer_one : (a b : Answer) → answer_number a ≡ answer_number b → a ≡ b
answer_one a b e = sym (answer_back a) ∙ ap answer_of e ∙ answer_back b

-- ---- no second outcome

-- what came is known by its outcome
pub returned_one : (g k : Returned) → outcome_of g ≡ outcome_of k → g ≡ k
returned_one g k e =
    let n = answer_one g.after.answer k.after.answer (ap (λ (o : Outcome). o.number) e) in
    let c : g.after.chip ≡ k.after.chip = ap (λ (o : Outcome). o.chip) e in
    let a = lent_one g.array k.array (ap (λ (o : Outcome). o.array) e) in
    let s = lent_one g.security k.security (ap (λ (o : Outcome). o.security) e) in
    let y = lent_one g.reply k.reply (ap (λ (o : Outcome). o.reply) e) in
    let m = lent_one g.marks k.marks (ap (λ (o : Outcome). o.marks) e) in
    λ i. record { after = record { answer = n i; chip = c i }; array = a i; security = s i; reply = y i; marks = m i }

pub frame_one : (b : Bench) (f : Carried) (g k : Returned) → FramePromise b f g → FramePromise b f k → g ≡ k
frame_one b f g k p q = returned_one g k (p.outcome ∙ sym q.outcome)

pub completion_one : (b : Bench) (g k : Returned) → CompletionPromise b g → CompletionPromise b k → g ≡ k
completion_one b g k p q = returned_one g k (p.outcome ∙ sym q.outcome)

pub cut_one : (b : Bench) (t : Tear) (g k : Returned) → CutPromise b t g → CutPromise b t k → g ≡ k
cut_one b t g k p q = returned_one g k (p.outcome ∙ sym q.outcome)

-- an equation leaves no second value
pub one : {A : Type 0} {x y v : A} → x ≡ v → y ≡ v → x ≡ y
one p q = p ∙ sym q

-- a number of a list all of whose numbers are an answer's
pub answer_number_lem : (ns : List ℕ) → every (λ n. eqb (answer_number (answer_of n)) n) ns ≡ true → (n : ℕ) → one_of n ns ≡ true → answer_number (answer_of n) ≡ n
answer_number_lem ns e n h = eqb-true (answer_number (answer_of n)) n (every_of (λ n. eqb (answer_number (answer_of n)) n) ns e n h)
