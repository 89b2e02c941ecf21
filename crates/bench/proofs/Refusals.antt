-- What a refusal leaves, byte by byte. Bytes that are a code are the code of the record in them, so a record that stays leaves every byte;
-- a record that uses up the reset enable changes in the flags' byte only. Assumes nothing.
use Prim.Native.Nat.{ℕ, ◌+◌, ◌*◌, ◌/◌, ◌%◌, ◌≤◌}
use mathlib.Core.Path.{◌≡◌, refl, sym, ap, ◌∙◌}
use mathlib.Core.Bool.{Bool, true, false, false≢true}
use mathlib.Core.List.{List, [], ◌∷◌, ◌++◌}
use native.Mathlib.Nat.{zero-add, suc-add}
use native.Mathlib.Omega.{arith}
use lib.Dec.{eqb}
use lib.ListN.{length, get_or, set, replicate, length-replicate, get_or-replicate}
use lib.Seq.{get_or-append-add}
use borrow.Author.Tests.{eqb-true, eqb-false}
use Rattle.rules.specs.declared.Rest.{Rest}
use Rattle.rules.specs.Words.{pick, one_of, Each, end, ◌next◌, lent, written}
use Rattle.rules.specs.Fields.{chip_of, with_enable}
use Rattle.rules.specs.Machine.{Outcome, frame, step}
use Rattle.rules.specs.Given.{frame_numbers}
use Rattle.rules.specs.Promises.{Carried, frame_of}
use Rattle.rules.specs.Tears.{stops_work}
use Rattle.rules.specs.Demands.{Call, frame_call, completion_call, cut_call, event_of}
use Rattle.rules.proofs.Fields.{enable_used_lem}
use Rattle.rules.proofs.Numbers.{frame_given}
use Rattle.rules.proofs.Promises.{lent_one, lent_written}
use Rattle.rules.proofs.Tears.{frames_leave}
use Rattle.rules.proofs.Refusals.{frame_refused_1, frame_refused_2, frame_refused_more, completion_refused, cut_refused}
use Rattle.rules.proofs.Rows.{at_one}
use Rattle.record_code.specs.Layout.{bytes, rest_code, code, is_code, chip_in}
use Rattle.record_code.proofs.Faithful.{code_of, known_length, code_decode}
use Rattle.bench.specs.Boundary.{LentBench, Came, came_of, carried_by, untouched, state_in, Seen, seen_of, coded, CallPromise}
use Rattle.bench.specs.Refusals.{OfBytes, enable_used, refused_frame}
use Rattle.bench.proofs.Calls.{page_size}
use Rattle.bench.proofs.Outcomes.{came_one, of_code, of_no_code}

-- ---- the reset enable in the bytes

abbrev cleared : ℕ → ℕ
cleared x = x % 64 + x / 128 * 128

-- the flags are byte 34 behind the page
rest_used : (r : Rest) → rest_code (with_enable false r) ≡ set (rest_code r) 34 (cleared (get_or (rest_code r) 34 0))
unfolding rest_code bytes
rest_used r = ap (λ (x : ℕ). set (rest_code r) 34 x) (enable_used_lem r)

-- a store behind the page
set_behind : (b l : List ℕ) (i x : ℕ) → set (b ++ l) (length b + i) x ≡ b ++ set l i x
set_behind [] l i x = ap (λ (k : ℕ). set l k x) (zero-add i)
set_behind (y ∷ b) l i x = ap (λ (k : ℕ). set (y ∷ (b ++ l)) k x) (suc-add (length b) i) ∙ ap (λ (k : List ℕ). y ∷ k) (set_behind b l i x)

-- the code of a record that uses up the reset enable
code_used : (b : List ℕ) (r : Rest) → length b ≡ 256 → code (chip_of b (with_enable false r)) ≡ enable_used (code (chip_of b r))
code_used b r h =
    code_of b (with_enable false r)
    ∙ ap (λ (l : List ℕ). b ++ l) (rest_used r)
    ∙ sym (set_behind b (rest_code r) 34 (cleared (get_or (rest_code r) 34 0)))
    ∙ ap (λ (x : ℕ). set (b ++ rest_code r) (length b + 34) (cleared x)) (sym (get_or-append-add b (rest_code r) 34 0))
    ∙ ap (λ (k : ℕ). set (b ++ rest_code r) (k + 34) (cleared (get_or (b ++ rest_code r) (k + 34) 0))) h
    ∙ ap enable_used (sym (code_of b r))

-- ---- by the call's number

filled : (n x : ℕ) → lent (replicate n x) ≡ written n (λ i. x)
filled n x = lent_written (replicate n x) n (λ i. x) (length-replicate n x) (λ i h. get_or-replicate n i x 0 h)

module _ (b : LentBench) (small : OfBytes b.bytes) where
  -- bytes that are a code, with the record that stays in them
  kept : is_code b.bytes ≡ true → code (chip_in b.bytes) ≡ b.bytes
  kept k = code_decode b.bytes small k

  used : is_code b.bytes ≡ true → code (chip_of (chip_in b.bytes).buffer (with_enable false (chip_in b.bytes).rest)) ≡ enable_used b.bytes
  unfolding chip_in
  used k = code_used (chip_in b.bytes).buffer (chip_in b.bytes).rest (page_size b.bytes (known_length b.bytes k)) ∙ ap enable_used (kept k)

  -- 1 and 12 change nothing at all; a frame gets no 12
  abbrev Stays : Call → ℕ → Type 0
  Stays e n = is_code b.bytes ≡ true → (step (state_in b) (event_of e)).number ≡ n → coded (step (state_in b) (event_of e)) ≡ seen_of (untouched n b e)

  -- an outcome whose record stays
  at_bytes : (e : Call) (n : ℕ) {o : Outcome} → is_code b.bytes ≡ true
      → o ≡ record { number = n; chip = chip_in b.bytes; array = lent b.array; security = lent b.security; reply = lent (carried_by e).reply; marks = lent (carried_by e).marks }
      → coded o ≡ seen_of (untouched n b e)
  at_bytes e n k p = ap coded p ∙ ap (λ (l : List ℕ). seen_of (came_of n l b.array b.security (carried_by e).reply (carried_by e).marks)) (kept k)

  stays : (e : Call) → Each (Stays e) (1 ∷ 12 ∷ [])
  unfolding step
  stays (frame_call f) =
      (λ k en. at_bytes (frame_call f) 1 k (frame_refused_1 (state_in b) (frame_of f) en))
      next (λ k en. absurd (false≢true (sym (ap (λ (n : ℕ). one_of n frame_numbers) en) ∙ (frame_given (state_in b) (frame_of f)).no_other)))
      next end
  stays completion_call =
      (λ k en. at_bytes completion_call 1 k (completion_refused (state_in b) 1 (omega arith) en))
      next (λ k en. at_bytes completion_call 12 k (completion_refused (state_in b) 12 (omega arith) en))
      next end
  stays (cut_call c) =
      (λ k en. at_bytes (cut_call c) 1 k (cut_refused (state_in b) c 1 (omega arith) en))
      next (λ k en. at_bytes (cut_call c) 12 k (cut_refused (state_in b) c 12 (omega arith) en))
      next end

  pub nothing_changes : (e : Call) (g : Came) → CallPromise b e g → one_of g.number (1 ∷ 12 ∷ []) ≡ true → g ≡ untouched g.number b e
  nothing_changes e g p h = go (is_code b.bytes) refl
    where
      go : (x : Bool) → is_code b.bytes ≡ x → g ≡ untouched g.number b e
      go true k = let s = of_code b e g p k in came_one g (untouched g.number b e) (s ∙ at_one (Stays e) (1 ∷ 12 ∷ []) g.number h (stays e) k (sym (ap (λ (s : Seen). s.number) s)))
      go false k = let s = of_no_code b e g p k in s ∙ ap (λ (n : ℕ). untouched n b e) (sym (ap (λ (g : Came). g.number) s))

  -- a frame leaves the memories, whatever its number, but for an accepted 99 while busy
  pub frame_leaves : (f : Carried) (g : Came) → CallPromise b (frame_call f) g → stops_work (state_in b) (frame_of f) ≡ false → (g.array ≡ b.array) × (g.security ≡ b.security)
  unfolding step
  frame_leaves f g p h = go (is_code b.bytes) refl
    where
      go : (x : Bool) → is_code b.bytes ≡ x → (g.array ≡ b.array) × (g.security ≡ b.security)
      go true k =
          let s = of_code b (frame_call f) g p k in
          let l = frames_leave (state_in b) (frame_of f) h in
          (lent_one _ _ (ap (λ (s : Seen). s.array) s ∙ l.0), lent_one _ _ (ap (λ (s : Seen). s.security) s ∙ l.1))
      go false k = let s = of_no_code b (frame_call f) g p k in (ap (λ (g : Came). g.array) s, ap (λ (g : Came). g.security) s)

  -- 2 to 11
  as_refused : (f : Carried) (n : ℕ) (x : Bool) → eqb n 2 ≡ x → 2 ≤ n → is_code b.bytes ≡ true → (frame (state_in b) (frame_of f)).number ≡ n
      → coded (frame (state_in b) (frame_of f)) ≡ seen_of (came_of n (pick x b.bytes (enable_used b.bytes)) b.array b.security (replicate (length f.reply) 0xFF) (replicate (length f.marks) 0))
  as_refused f n true e h k en =
      let two = eqb-true n 2 e in
      ap coded (frame_refused_2 (state_in b) (frame_of f) (en ∙ two))
      ∙ (λ i. record { number = sym two i; bytes = kept k i; array = lent b.array; security = lent b.security; reply = sym (filled (length f.reply) 0xFF) i; marks = sym (filled (length f.marks) 0) i })
  as_refused f n false e h k en =
      let more : 3 ≤ n = (let two = eqb-false n 2 e in omega arith) in
      ap coded (frame_refused_more (state_in b) (frame_of f) n more en)
      ∙ (λ i. record { number = n; bytes = used k i; array = lent b.array; security = lent b.security; reply = sym (filled (length f.reply) 0xFF) i; marks = sym (filled (length f.marks) 0) i })

  pub frame_refused : (f : Carried) (g : Came) → CallPromise b (frame_call f) g → 2 ≤ g.number → g ≡ refused_frame g.number b f
  unfolding step
  frame_refused f g p h = go (is_code b.bytes) refl
    where
      go : (x : Bool) → is_code b.bytes ≡ x → g ≡ refused_frame g.number b f
      go true k =
          let s = of_code b (frame_call f) g p k in
          came_one g (refused_frame g.number b f) (s ∙ as_refused f g.number (eqb g.number 2) refl h k (sym (ap (λ (s : Seen). s.number) s)))
      go false k = absurd (let n = ap (λ (g : Came). g.number) (of_no_code b (frame_call f) g p k) in omega arith)
