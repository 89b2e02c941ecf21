-- The outcome of each way through a frame is the machine's. Assumes nothing.
use Prim.Native.Nat.{ℕ, ◌≤◌, ◌<◌}
use mathlib.Core.Path.{◌≡◌, refl, sym, ap, ◌∙◌}
use mathlib.Core.Bool.{Bool, true, false, not, ◌&&◌}
use mathlib.Core.List.{List, [], ◌∷◌}
use mathlib.Core.Logic.{◌⊎◌, ⊎_elim}
use native.Mathlib.Omega.{arith}
use lib.Dec.{eqb, ltb, leb}
use lib.ListN.{length}
use borrow.Author.Tests.{eqb-true, leb-true, eq-eqb, ne_eqb, ltb-false}
use Rattle.rules.specs.declared.Circumstances.{Circumstances}
use Rattle.rules.specs.declared.Kind.{Kind}
use Rattle.rules.specs.declared.Refusal.{Refusal}
use Rattle.rules.specs.declared.Rest.{Rest}
use Rattle.rules.specs.declared.Turn.{Turn}
use Rattle.rules.specs.Words.{pick, lent, written}
use Rattle.rules.specs.Works.{array_range, security_range, finish}
use Rattle.rules.specs.Frames.{form_of, opcode}
use Rattle.rules.specs.Reading.{reply}
use Rattle.rules.specs.Programs.{blank}
use Rattle.rules.specs.Fields.{chip_of, with_enable}
use Rattle.rules.specs.Commands.{after_reset, settled_first, act, buffer_after}
use Rattle.std.specs.Prelude.{Ok, Err}
use Rattle.rules.specs.Numbers.{refusal_number, State, Frame, state_right, frame_right, malformed, first, command_tests, frame_tests}
use Rattle.rules.specs.Machine.{frame}
use Rattle.rules.specs.Promises.{bench_of, carried_of, returned_of, after_of, state_of, frame_of, outcome_of}
use Rattle.rules.specs.Tears.{resets}
use Rattle.rules.proofs.Bools.{and_split, not_intro}
use Rattle.rules.proofs.Numbers.{first_above, frame_given}
use Rattle.rules.proofs.Refusals.{frame_refused_1, frame_refused_2, frame_refused_more}
use Rattle.rules.proofs.Tears.{reset_exactly, reset_accepted, plain_done, reset_done}
use Rattle.turns.proofs.Events.{outcome_ext, state_parts, suspended_right}
use Rattle.replying.specs.Replying.{Replied, Showable}
use Rattle.framing.specs.Framing.{Resettable, Commandable, TurnedAway}

module _ (r : Rest) (page array security : List ℕ) where
  abbrev at : State
  at = state_of (bench_of (chip_of page r) array security)

  module _ (sent y m : List ℕ) (x : Circumstances) where
    abbrev with : Frame
    with = frame_of (carried_of sent y m x)

    pub frame_parts : frame_right with ≡ true → (length sent ≤ 65536) × (length y ≤ 65536) × (length m ≡ length y)
    frame_parts e =
        let h₂ = and_split (leb (length sent) 65536 && leb (length y) 65536) (eqb (length y) (length m)) e in
        let h₁ = and_split (leb (length sent) 65536) (leb (length y) 65536) h₂.0 in
        (leb-true (length sent) 65536 h₁.0, leb-true (length y) 65536 h₁.1, sym (eqb-true (length y) (length m) h₂.1))

    pub showable : Commandable r page array security sent y m → Showable r array security y m
    showable h =
        let s = state_parts r page array security h.right in
        let f = frame_parts h.fits in
        record { suspended = suspended_right r page array security h.right; whole = s.whole; secure = s.secure; even = f.2; few = f.1 }

    -- the first condition does not hold
    right_lengths : state_right at ≡ true → frame_right with ≡ true → malformed at with ≡ false
    right_lengths ek ef = ap not (ap (λ (b : Bool). b && frame_right with) ek ∙ ef)

    pub frame_turned_away : (k f : Bool) (t : Turn) (y' m' : List ℕ) → k ≡ state_right at → f ≡ frame_right with → (k && f && ltb 0 (length sent)) ≡ false → TurnedAway r (k && f) y m t y' m'
        → outcome_of (returned_of (after_of t page) array security y' m') ≡ frame at with
    unfolding frame_tests
    frame_turned_away k f t y' m' ek ef n a = go (k && f) refl n a
      where
        go : (b : Bool) → (k && f) ≡ b → (b && ltb 0 (length sent)) ≡ false → TurnedAway r b y m t y' m'
            → outcome_of (returned_of (after_of t page) array security y' m') ≡ frame at with
        go true e n a =
            let h = and_split k f e in
            ap (λ (t : Turn). outcome_of (returned_of (after_of t page) array security y' m')) a.turn
            ∙ outcome_ext refl refl refl refl a.bytes a.known
            ∙ sym (frame_refused_2 at with ((frame_given at with).is_2.1 ((right_lengths (sym ek ∙ h.0) (sym ef ∙ h.1), tt), eq-eqb (length sent) 0 (let l = ltb-false 0 (length sent) n in omega arith))))
        go false e n a =
            let b : malformed at with ≡ true = not_intro (state_right at && frame_right with) (ap (λ (x : Bool). x && frame_right with) (sym ek) ∙ ap (λ (x : Bool). k && x) (sym ef) ∙ e) in
            ap (λ (t : Turn). outcome_of (returned_of (after_of t page) array security y' m')) a.turn
            ∙ outcome_ext refl refl refl refl a.bytes a.known
            ∙ sym (frame_refused_1 at with ((frame_given at with).is_1.1 b))

    -- where the lengths are right and something was sent, the command's conditions decide
    command_decides : Commandable r page array security sent y m → (frame at with).number ≡ first (command_tests r sent)
    unfolding frame frame_tests
    command_decides h =
        ap (λ (b : Bool). pick b 1 (pick (eqb (length sent) 0) 2 (first (command_tests r sent)))) (right_lengths h.right h.fits)
        ∙ ap (λ (b : Bool). pick b 2 (first (command_tests r sent))) (ne_eqb (length sent) 0 (λ e. let s = h.some in omega arith))

    pub frame_refused : (why : Refusal) (q : Rest) (t : Turn) (y' m' : List ℕ) → Commandable r page array security sent y m → refusal_number why ≡ first (command_tests r sent)
        → t ≡ record { answer = Err why; rest = q } → q ≡ with_enable false r
        → Replied y m y' m' (λ i. record { byte = 255; mark = 0 })
        → outcome_of (returned_of (after_of t page) array security y' m') ≡ frame at with
    unfolding command_tests
    frame_refused why q t y' m' h e et eq a =
        ap (λ (t : Turn). outcome_of (returned_of (after_of t page) array security y' m')) et
        ∙ outcome_ext refl (ap (chip_of page) eq) refl refl a.bytes a.known
        ∙ sym (frame_refused_more at with (refusal_number why) (above (some why) (first_above 2 (command_tests r sent) refl)) (command_decides h ∙ sym e))
      where
        some : (w : Refusal) → 0 < refusal_number w
        some Refusal.Malformed = omega arith
        some Refusal.Empty = omega arith
        some Refusal.NotListed = omega arith
        some Refusal.WrongLength = omega arith
        some Refusal.Busy = omega arith
        some Refusal.NoEnable = omega arith
        some Refusal.NoIoc = omega arith
        some Refusal.Suspension = omega arith
        some Refusal.NoWel = omega arith
        some Refusal.Closed = omega arith
        some Refusal.WriteLocked = omega arith
        some Refusal.NothingRuns = omega arith
        some Refusal.NoSuchBurst = omega arith

        above : 0 < refusal_number why → (first (command_tests r sent) ≡ 0) ⊎ (2 < first (command_tests r sent)) → 3 ≤ refusal_number why
        above pos alt = ⊎_elim (λ z. absurd (let q = e in omega arith)) (λ l. let q = e in omega arith) alt

    pub frame_done : (k : Kind) (q : Rest) (t : Turn) (page' y' m' : List ℕ) → Commandable r page array security sent y m → 0 ≡ first (command_tests r sent) → k ≡ (form_of (opcode sent)).kind
        → t ≡ record { answer = Ok tt; rest = q } → q ≡ act k sent 0 (with_enable false r) → page' ≡ buffer_after k sent page
        → Replied y m y' m' (λ i. reply k r (lent array) (lent security) sent i)
        → outcome_of (returned_of (after_of t page') array security y' m') ≡ frame at with
    frame_done k q t page' y' m' h e ek et eq ep a =
        ap (λ (t : Turn). outcome_of (returned_of (after_of t page') array security y' m')) et
        ∙ outcome_ext refl ((λ i. chip_of (ep i) (eq i)) ∙ ap (λ (k : Kind). chip_of (buffer_after k sent page) (act k sent 0 (with_enable false r))) ek) refl refl
        (a.bytes ∙ ap (λ (k : Kind). written (length y) (λ i. (reply k r (lent array) (lent security) sent i).byte)) ek)
        (a.known ∙ ap (λ (k : Kind). written (length m) (λ i. (reply k r (lent array) (lent security) sent i).mark)) ek)
        ∙ sym (plain_done at with (command_decides h ∙ sym e) (reset_exactly at with ∙ ap (λ (b : Bool). resets b r sent (length y) (length m)) h.right ∙ h.plain))

  -- ---- an accepted 99

  module _ (y m : List ℕ) (x : Circumstances) (h : Resettable r page array security y m) where
    abbrev reset : Frame
    reset = frame_of (carried_of (0x99 ∷ []) y m x)

    pub reset_lengths : (length y ≤ 65536) × (length m ≡ length y)
    reset_lengths =
        let h₃ = and_split _ r.flags.enable h.taken in
        let h₂ = and_split (leb (length y) 65536) (eqb (length y) (length m)) h₃.0 in
        (leb-true (length y) 65536 h₂.0, sym (eqb-true (length y) (length m) h₂.1))

    pub frame_reset : (q : Rest) (t : Turn) (page' array' security' y' m' : List ℕ) → t ≡ record { answer = Ok tt; rest = q } → q ≡ after_reset (settled_first x.tear.k (with_enable false r)) → page' ≡ blank
        → lent array' ≡ finish r.works.running (array_range r.works.running) page x.tear (lent array)
        → lent security' ≡ finish r.works.running (security_range r.works.running) page x.tear (lent security)
        → Replied y m y' m' (λ i. record { byte = 255; mark = 0 })
        → outcome_of (returned_of (after_of t page') array' security' y' m') ≡ frame at reset
    frame_reset q t page' array' security' y' m' et eq ep ea es a =
        ap (λ (t : Turn). outcome_of (returned_of (after_of t page') array' security' y' m')) et
        ∙ outcome_ext refl (λ i. chip_of (ep i) (eq i)) ea es a.bytes a.known
        ∙ sym (reset_done at reset (reset_accepted at reset (ap (λ (b : Bool). resets b r (0x99 ∷ []) (length y) (length m)) h.right ∙ h.taken)) refl)
