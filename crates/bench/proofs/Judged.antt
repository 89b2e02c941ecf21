-- A record judged by an empty frame: 2 exactly where its bytes are the code of a well-formed record. Assumes nothing.
use Prim.Native.Nat.{ℕ, ◌+◌, ◌≤◌, ◌<◌}
use mathlib.Core.Path.{◌≡◌, refl, sym, ap, ◌∙◌}
use mathlib.Core.Bool.{Bool, true, false, ◌&&◌}
use mathlib.Core.List.{List, [], ◌++◌}
use native.Mathlib.Omega.{arith}
use native.Mathlib.Nat.{zero-add}
use lib.Dec.{eqb}
use lib.ListN.{length, get_or, take, drop, take-append-drop}
use lib.Seq.{take_at, drop_at, length-take-le, ext_get_or}
use borrow.Author.Tests.{eq-eqb, ne_eqb}
use Rattle.rules.specs.Registers.{busy}
use Rattle.rules.specs.WellFormed.{well_formed}
use Rattle.rules.specs.Numbers.{State, frame_tests}
use Rattle.rules.specs.Machine.{step, frame}
use Rattle.rules.specs.Promises.{zeroed, carried_of, frame_of}
use Rattle.rules.specs.Demands.{frame_call}
use Rattle.rules.proofs.Promises.{lent_one}
use Rattle.rules.proofs.Tears.{frames_leave}
use Rattle.memory.specs.Patched.{Patched}
use Rattle.record_code.specs.Layout.{is_code, decode}
use Rattle.bench.specs.Boundary.{LentBench, Came, Seen, lent_bench_of, came_of, state_in, CallPromise}
use Rattle.bench.proofs.Outcomes.{of_code, of_no_code}

-- the front of the buffer is lent as the array
pub framed : (coded file id : List ℕ) (r n : ℕ) (coded' front id' : List ℕ) → n ≡ 2097152 → 2097152 ≤ length file → length front ≡ length (take n file)
    → CallPromise (lent_bench_of coded (take n file) id) (frame_call (carried_of [] [] [] zeroed)) (came_of r coded' front id' [] [])
    → CallPromise (lent_bench_of coded (take 2097152 file) id) (frame_call (carried_of [] [] [] zeroed)) (came_of r coded' (take 2097152 (front ++ drop n file)) id' [] [])
    × (drop 2097152 (front ++ drop n file) ≡ drop 2097152 file)
framed coded file id r n coded' front id' e h kept p =
    let k : length front ≡ 2097152 = kept ∙ ap (λ m. length (take m file)) e ∙ length-take-le 2097152 file h in (
      rw (e, take_at front (drop 2097152 file) 2097152 k) (rw e at p),
      rw e (drop_at front (drop 2097152 file) 2097152 k),
    )

-- ---- the number of an empty frame

number_of_lem : (s : State) (w : Bool) → well_formed s.chip ≡ w → s.array.size ≡ 2097152 → s.security.size ≡ 2048 → eqb (frame s (frame_of (carried_of [] [] [] zeroed))).number 2 ≡ w
unfolding frame frame_tests
number_of_lem s true e a i = rw (e, eq-eqb _ _ a, eq-eqb _ _ i)
number_of_lem s false e a i = rw e

-- it is no 99, and so it leaves the memories
no_reset : (x y : Bool) → (x && false && y) ≡ false
no_reset true y = refl
no_reset false y = refl

pub judged : (b : LentBench) (g : Came) → length b.array ≡ 2097152 → length b.security ≡ 2048 → CallPromise b (frame_call (carried_of [] [] [] zeroed)) g
    → (eqb g.number 2 ≡ ((decode b.bytes).known && well_formed (decode b.bytes).chip)) × (g.array ≡ b.array)
unfolding step
judged b g a i p = go (is_code b.bytes) refl
  where
    go : (x : Bool) → is_code b.bytes ≡ x → (eqb g.number 2 ≡ (is_code b.bytes && well_formed (decode b.bytes).chip)) × (g.array ≡ b.array)
    go true k =
        let s = of_code b (frame_call (carried_of [] [] [] zeroed)) g p k in (
          ap (λ (t : Seen). eqb t.number 2) s ∙ number_of_lem (state_in b) (well_formed (decode b.bytes).chip) refl a i ∙ ap (λ x. x && well_formed (decode b.bytes).chip) (sym k),
          lent_one _ _ (ap (λ (t : Seen). t.array) s ∙ (frames_leave (state_in b) (frame_of (carried_of [] [] [] zeroed)) (no_reset (eqb (frame (state_in b) (frame_of (carried_of [] [] [] zeroed))).number 0) (busy (state_in b).chip.rest))).0),
        )
    go false k =
        let s = of_no_code b (frame_call (carried_of [] [] [] zeroed)) g p k in
        (ap (λ (t : Came). eqb t.number 2) s ∙ ap (λ x. x && well_formed (decode b.bytes).chip) (sym k), ap (λ (t : Came). t.array) s)

-- ---- the copy that is judged

pub copied : (l l₀ src : List ℕ) (n : ℕ) → length l₀ ≡ n → length src ≡ n → Patched l l₀ 0 n (λ i. get_or src (0 + i) 0) → l ≡ src
copied l l₀ src n e d p =
    ext_get_or 0 l src (p.size ∙ e ∙ sym d)
    (λ i h. let k : i < n = (let s = p.size in omega arith) in rw zero-add at (p.inside i k))

pub of_other_size : (l : List ℕ) → (length l ≡ 320 → ⊥) → false ≡ ((decode l).known && well_formed (decode l).chip)
unfolding is_code
of_other_size l h = rw (ne_eqb (length l) 320 h)

-- what the empty frame says of the copy is said of the bytes, and the buffer is as it was
pub copy_judged : (bytes copy id copy' id' file file' : List ℕ) (r : ℕ) → length id ≡ 2048 → 2097152 ≤ length file → copy ≡ bytes
    → CallPromise (lent_bench_of copy (take 2097152 file) id) (frame_call (carried_of [] [] [] zeroed)) (came_of r copy' (take 2097152 file') id' [] [])
    → drop 2097152 file' ≡ drop 2097152 file
    → (eqb r 2 ≡ ((decode bytes).known && well_formed (decode bytes).chip)) × (file' ≡ file)
copy_judged bytes copy id copy' id' file file' r i h same p behind =
    let j = judged (lent_bench_of copy (take 2097152 file) id) (came_of r copy' (take 2097152 file') id' [] []) (length-take-le 2097152 file h) i p in (
      j.0 ∙ ap (λ l. (decode l).known && well_formed (decode l).chip) same,
      sym (take-append-drop 2097152 file') ∙ (λ k. j.1 k ++ behind k) ∙ take-append-drop 2097152 file,
    )
