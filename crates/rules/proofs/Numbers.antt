-- A number is given exactly when its condition holds and no condition before it in the list does; it is also the lowest whose condition holds,
-- though 13 is tested before 8 to 11: no frame meets 13 and one of these. Assumes nothing.
use Prim.Native.Nat.{ℕ, ◌≤◌, ◌<◌}
use mathlib.Core.Path.{◌≡◌, refl, sym, ap, ◌∙◌, subst}
use mathlib.Core.Bool.{Bool, true, false, not, ◌&&◌, ◌||◌, true≢false, false≢true}
use mathlib.Core.List.{List, [], ◌∷◌}
use mathlib.Core.Logic.{◌↔◌, ◌⊎◌, inl, inr}
use native.Mathlib.Omega.{arith}
use lib.Dec.{eqb, ltb, leb}
use lib.ListN.{length}
use borrow.Author.Tests.{eqb-true, eqb-false, eq-eqb, ltb-true, leb-true, le-leb, not-true, not-false}
use Rattle.rules.specs.declared.Rest.{Rest}
use Rattle.rules.specs.declared.Tear.{Tear}
use Rattle.rules.specs.Words.{pick, one_of, every}
use Rattle.rules.specs.Blocks.{array_size_lem, security_size_lem}
use Rattle.rules.specs.WellFormed.{well_formed}
use Rattle.rules.specs.Frames.{form_of, listed, length_right, opcode}
use Rattle.rules.specs.Numbers.{State, Frame, state_right, frame_right, while_busy, no_enable, no_ioc, no_such_burst, suspension, no_wel, closed, locked_target, Test, test, first, command_tests, frame_tests, completion_tests, cut_tests}
use Rattle.rules.specs.Machine.{frame, completion, power_cut}
use Rattle.rules.specs.Registers.{wse, wsp}
use Rattle.rules.specs.Given.{frame_order, RightState, RightFrame, RightSizes, before, condition_of, None, FrameGiven, CompletionGiven, CutGiven}
use Rattle.rules.proofs.Bools.{and_split, and_both, not_intro, or_right}

-- ---- the first of any list of tests that has no number twice

-- none of them is 0, and no two are the same
abbrev pub distinct : List Test → Bool
distinct [] = true
distinct (t ∷ ts) = not (eqb t.number 0) && every (λ u. not (eqb t.number u.number)) ts && distinct ts

record Distinct (t : Test) (ts : List Test) : Type 0 where
  some : t.number ≡ 0 → ⊥
  others : every (λ u. not (eqb t.number u.number)) ts ≡ true
  rest : distinct ts ≡ true

distinct_parts : (t : Test) (ts : List Test) → distinct (t ∷ ts) ≡ true → Distinct t ts
distinct_parts t ts e =
    let h₂ = and_split (not (eqb t.number 0) && every (λ u. not (eqb t.number u.number)) ts) (distinct ts) e in
    let h₁ = and_split (not (eqb t.number 0)) (every (λ u. not (eqb t.number u.number)) ts) h₂.0 in
    record { some = λ z. true≢false (sym (eq-eqb t.number 0 z) ∙ not-true _ h₁.0); others = h₁.1; rest = h₂.1 }

-- a number that no test has is never given
absent : (n : ℕ) (ts : List Test) → every (λ u. not (eqb n u.number)) ts ≡ true → condition_of n ts ≡ false
absent n [] e = refl
absent n (t ∷ ts) e =
    let h = and_split (not (eqb n t.number)) (every (λ u. not (eqb n u.number)) ts) e in
    ap (λ (b : Bool). pick b t.applies (condition_of n ts)) (not-true (eqb n t.number) h.0) ∙ absent n ts h.1

-- n is given exactly when its condition holds and none before it does
pub first_exactly : (ts : List Test) → distinct ts ≡ true → (n : ℕ) → (n ≡ 0 → ⊥)
    → (first ts ≡ n) ↔ (None (before n ts) × (condition_of n ts ≡ true))
first_exactly [] e n z = (λ q. absurd (z (sym q)), λ p. absurd (false≢true p.1))
first_exactly (t ∷ ts) e n z = go (first_exactly ts d.rest n z) (eqb n t.number) refl
  where
    d : Distinct t ts
    d = distinct_parts t ts e

    go : (first ts ≡ n) ↔ (None (before n ts) × (condition_of n ts ≡ true)) → (b : Bool) → eqb n t.number ≡ b
        → (pick t.applies t.number (first ts) ≡ n) ↔ (None (pick b [] (t ∷ before n ts)) × (pick b t.applies (condition_of n ts) ≡ true))
    go ih true k = (λ q. (tt, into t.applies q), λ p. from t.applies p.1)
      where
        same : n ≡ t.number
        same = eqb-true n t.number k

        later : condition_of n ts ≡ false
        later = absent n ts (ap (λ (m : ℕ). every (λ u. not (eqb m u.number)) ts) same ∙ d.others)

        into : (b : Bool) → pick b t.number (first ts) ≡ n → b ≡ true
        into true q = refl
        into false q = absurd (true≢false (sym (ih.0 q).1 ∙ later))

        from : (b : Bool) → b ≡ true → pick b t.number (first ts) ≡ n
        from true q = sym same
        from false q = absurd (false≢true q)
    go ih false k = (λ q. into t.applies q, λ p. from t.applies p.0.0 (p.0.1, p.1))
      where
        into : (b : Bool) → pick b t.number (first ts) ≡ n → ((b ≡ false) × None (before n ts)) × (condition_of n ts ≡ true)
        into true q = absurd (eqb-false n t.number k (sym q))
        into false q = let r = ih.0 q in ((refl, r.0), r.1)

        from : (b : Bool) → b ≡ false → None (before n ts) × (condition_of n ts ≡ true) → pick b t.number (first ts) ≡ n
        from true q r = absurd (true≢false q)
        from false q r = ih.1 r

-- 0 is given exactly when no condition holds
pub first_none : (ts : List Test) → distinct ts ≡ true → (first ts ≡ 0) ↔ None ts
first_none [] e = (λ q. tt, λ p. refl)
first_none (t ∷ ts) e = go (first_none ts d.rest)
  where
    d : Distinct t ts
    d = distinct_parts t ts e

    go : (first ts ≡ 0) ↔ None ts → (pick t.applies t.number (first ts) ≡ 0) ↔ ((t.applies ≡ false) × None ts)
    go ih = (λ q. into t.applies q, λ p. from t.applies p.0 p.1)
      where
        into : (b : Bool) → pick b t.number (first ts) ≡ 0 → (b ≡ false) × None ts
        into true q = absurd (d.some q)
        into false q = (refl, ih.0 q)

        from : (b : Bool) → b ≡ false → None ts → pick b t.number (first ts) ≡ 0
        from true q r = absurd (true≢false q)
        from false q r = ih.1 r

-- what is given is 0 or one of the list's numbers
pub first_among : (ns : List ℕ) (ts : List Test) → every (λ t. one_of t.number ns) ts ≡ true → one_of (first ts) (0 ∷ ns) ≡ true
first_among ns [] e = refl
first_among ns (t ∷ ts) e =
    let h = and_split (one_of t.number ns) (every (λ t. one_of t.number ns) ts) e in
    go t.applies h.0 (first_among ns ts h.1)
  where
    go : (b : Bool) → one_of t.number ns ≡ true → one_of (first ts) (0 ∷ ns) ≡ true → one_of (pick b t.number (first ts)) (0 ∷ ns) ≡ true
    go true p q = or_right (eqb t.number 0) (one_of t.number ns) p
    go false p q = q

-- what is given is 0 or above m where every number is
pub first_above : (m : ℕ) (ts : List Test) → every (λ t. ltb m t.number) ts ≡ true → (first ts ≡ 0) ⊎ (m < first ts)
first_above m [] e = inl refl
first_above m (t ∷ ts) e =
    let h = and_split (ltb m t.number) (every (λ t. ltb m t.number) ts) e in
    go t.applies (ltb-true m t.number h.0) (first_above m ts h.1)
  where
    go : (b : Bool) → m < t.number → (first ts ≡ 0) ⊎ (m < first ts) → (pick b t.number (first ts) ≡ 0) ⊎ (m < pick b t.number (first ts))
    go true p q = inr p
    go false p q = q

-- ---- the record and the lengths

state_given : (s : State) → (state_right s ≡ true) ↔ RightState s
state_given s = (
  λ e.
      let h = and_split (well_formed s.chip && eqb s.array.size array_size_lem) (eqb s.security.size security_size_lem) e in
      let k = and_split (well_formed s.chip) (eqb s.array.size array_size_lem) h.0 in
      record { formed = k.0; array = eqb-true s.array.size array_size_lem k.1; security = eqb-true s.security.size security_size_lem h.1 },
  λ r. and_both (and_both r.formed (eq-eqb s.array.size array_size_lem r.array)) (eq-eqb s.security.size security_size_lem r.security),
)

frame_right_given : (f : Frame) → (frame_right f ≡ true) ↔ RightFrame f
frame_right_given f = (
  λ e.
      let h = and_split (leb (length f.sent) 65536 && leb f.reply.size 65536) (eqb f.reply.size f.marks.size) e in
      let k = and_split (leb (length f.sent) 65536) (leb f.reply.size 65536) h.0 in
      record { sent = leb-true (length f.sent) 65536 k.0; reply = leb-true f.reply.size 65536 k.1; equal = eqb-true f.reply.size f.marks.size h.1 },
  λ r. and_both (and_both (le-leb (length f.sent) 65536 r.sent) (le-leb f.reply.size 65536 r.reply)) (eq-eqb f.reply.size f.marks.size r.equal),
)

pub sizes_given : (s : State) (f : Frame) → RightSizes s f
sizes_given s f =
    let state = state_given s in
    let frame = frame_right_given f in
    record {
      of_state = state;
      of_frame = (
        λ e. let h = and_split (state_right s) (frame_right f) (not-false (state_right s && frame_right f) e) in (state.0 h.0, frame.0 h.1),
        λ r. ap not (and_both (state.1 r.0) (frame.1 r.1)),
      );
    }

-- ---- of a frame

pub frame_given : (s : State) (f : Frame) → FrameGiven s f
unfolding frame frame_tests command_tests
frame_given s f =
    let at = first_exactly (frame_tests s f) refl in
    let one = at 1 (λ z. omega arith) in
    record {
      is_0 = first_none (frame_tests s f) refl;
      is_1 = (λ q. (one.0 q).1, λ a. one.1 (tt, a));
      is_2 = at 2 (λ z. omega arith);
      is_3 = at 3 (λ z. omega arith);
      is_4 = at 4 (λ z. omega arith);
      is_5 = at 5 (λ z. omega arith);
      is_6 = at 6 (λ z. omega arith);
      is_7 = at 7 (λ z. omega arith);
      is_13 = at 13 (λ z. omega arith);
      is_8 = at 8 (λ z. omega arith);
      is_9 = at 9 (λ z. omega arith);
      is_10 = at 10 (λ z. omega arith);
      is_11 = at 11 (λ z. omega arith);
      no_other = first_among frame_order (frame_tests s f) refl;
      in_order = refl;
    }

-- ---- of a completion and of a power cut

pub completion_given : (s : State) → CompletionGiven s
unfolding completion completion_tests
completion_given s =
    let at = first_exactly (completion_tests s) refl in
    let none = first_none (completion_tests s) refl in
    let one = at 1 (λ z. omega arith) in
    let twelve = at 12 (λ z. omega arith) in
    record {
      is_0 = (λ q. let c = none.0 q in (not-false (state_right s) c.0, c.1.0), λ p. none.1 (ap not p.0, (p.1, tt)));
      is_1 = (λ q. not-true (state_right s) (one.0 q).1, λ p. one.1 (tt, not_intro (state_right s) p));
      is_12 = (λ q. let c = twelve.0 q in (not-false (state_right s) c.0.0, c.1), λ p. twelve.1 ((ap not p.0, tt), p.1));
      no_other = first_among (1 ∷ 12 ∷ []) (completion_tests s) refl;
    }

pub cut_given : (s : State) (t : Tear) → CutGiven s t
unfolding power_cut cut_tests
cut_given s t =
    let none = first_none (cut_tests s) refl in
    let one = first_exactly (cut_tests s) refl 1 (λ z. omega arith) in
    record {
      is_0 = (λ q. not-false (state_right s) (none.0 q).0, λ p. none.1 (ap not p, tt));
      is_1 = (λ q. not-true (state_right s) (one.0 q).1, λ p. one.1 (tt, not_intro (state_right s) p));
      no_other = first_among (1 ∷ []) (cut_tests s) refl;
    }

-- ---- "If several apply to an event, the lowest is given"

-- what holds later is above m where every later number is
above : (m : ℕ) (ts : List Test) → every (λ t. ltb m t.number) ts ≡ true → (n : ℕ) → condition_of n ts ≡ true → m ≤ n
above m [] e n c = absurd (false≢true c)
above m (t ∷ ts) e n c = go (eqb n t.number) refl c (above m ts h.1 n)
  where
    h : (ltb m t.number ≡ true) × (every (λ t. ltb m t.number) ts ≡ true)
    h = and_split (ltb m t.number) (every (λ t. ltb m t.number) ts) e

    go : (b : Bool) → eqb n t.number ≡ b → pick b t.applies (condition_of n ts) ≡ true → (condition_of n ts ≡ true → m ≤ n) → m ≤ n
    go true k c ih = let l = ltb-true m t.number h.0 in let q = eqb-true n t.number k in omega arith
    go false k c ih = ih c

-- nothing holds later
none_later : (ts : List Test) → None ts → (n : ℕ) → condition_of n ts ≡ true → ⊥
none_later [] e n c = false≢true c
none_later (t ∷ ts) e n c = go (eqb n t.number) c (none_later ts e.1 n)
  where
    go : (b : Bool) → pick b t.applies (condition_of n ts) ≡ true → (condition_of n ts ≡ true → ⊥) → ⊥
    go true c ih = true≢false (sym c ∙ e.0)
    go false c ih = ih c

-- each test has a number below those after it, or excludes them all
data Ordered : List Test → Type 0 where
  none : Ordered []
  below : {t : Test} {ts : List Test} → every (λ u. ltb t.number u.number) ts ≡ true → Ordered ts → Ordered (t ∷ ts)
  alone : {t : Test} {ts : List Test} → (t.applies ≡ true → None ts) → Ordered ts → Ordered (t ∷ ts)

-- what is given is no larger than what holds
lower : (t : Test) (ts : List Test) (n : ℕ) → condition_of n (t ∷ ts) ≡ true → (condition_of n ts ≡ true → first ts ≤ n) → (t.applies ≡ true → condition_of n ts ≡ true → t.number ≤ n)
    → first (t ∷ ts) ≤ n
lower t ts n c later here = go (eqb n t.number) refl t.applies refl c
  where
    go : (b : Bool) → eqb n t.number ≡ b → (a : Bool) → t.applies ≡ a → pick b t.applies (condition_of n ts) ≡ true → pick a t.number (first ts) ≤ n
    go true k true r c = let q = eqb-true n t.number k in omega arith
    go true k false r c = absurd (true≢false (sym c ∙ r))
    go false k true r c = here r c
    go false k false r c = later c

first_lowest : (ts : List Test) → Ordered ts → (n : ℕ) → condition_of n ts ≡ true → first ts ≤ n
first_lowest [] o n c = absurd (false≢true c)
first_lowest (t ∷ ts) (below e o) n c = lower t ts n c (first_lowest ts o n) (λ r d. above t.number ts e n d)
first_lowest (t ∷ ts) (alone e o) n c = lower t ts n c (first_lowest ts o n) (λ r d. absurd (none_later ts (e r) n d))

-- a C0 meets none of 8 to 11
abbrev later : Rest → ℕ → List ℕ → List Test
later r o sent = test 8 (suspension r o sent) ∷ test 9 (no_wel r o) ∷ test 10 (closed r o sent) ∷ test 11 (locked_target r o sent) ∷ []

after_13 : (r : Rest) (o : ℕ) (sent : List ℕ) → no_such_burst o sent ≡ true → None (later r o sent)
after_13 r o sent e = subst (λ (o : ℕ). None (later r o sent)) (sym c0) (neither (wse r) (wsp r), (refl, (refl, (refl, tt))))
  where
    only : (b : Bool) → (b || false) ≡ true → b ≡ true
    only true q = refl
    only false q = q

    c0 : o ≡ 0xC0
    c0 = eqb-true o 0xC0 (only (eqb o 0xC0) (and_split (one_of o (0xC0 ∷ [])) _ e).0)

    neither : (x y : Bool) → (x && false || y && false) ≡ false
    neither true true = refl
    neither true false = refl
    neither false true = refl
    neither false false = refl

pub frame_lowest : (s : State) (f : Frame) (n : ℕ) → condition_of n (frame_tests s f) ≡ true → (frame s f).number ≤ n
unfolding frame frame_tests command_tests
frame_lowest s f n c = first_lowest (frame_tests s f) ordered n c
  where
    ordered : Ordered (frame_tests s f)
    ordered =
        below refl (below refl (below refl (below refl (below refl (below refl (below refl
        (alone (after_13 s.chip.rest (opcode f.sent) f.sent)
        (below refl (below refl (below refl (below refl none)))))))))))

pub completion_lowest : (s : State) (n : ℕ) → condition_of n (completion_tests s) ≡ true → (completion s).number ≤ n
unfolding completion completion_tests
completion_lowest s n c = first_lowest (completion_tests s) (below refl (below refl none)) n c

-- ---- what is known of a done frame

pub record Accepted (r : Rest) (o : ℕ) (sent : List ℕ) : Type 0 where
  pub is_listed : listed r.flags.sqi (form_of o) ≡ true
  pub sized : length_right r.flags.sqi (form_of o) (length sent) ≡ true
  pub calm : while_busy r o ≡ false
  pub enabled : no_enable r o ≡ false
  pub wired : no_ioc r o ≡ false
  pub four : no_such_burst o sent ≡ false
  pub apart : suspension r o sent ≡ false
  pub latched : no_wel r o ≡ false
  pub opened : closed r o sent ≡ false
  pub bare : locked_target r o sent ≡ false

pub accepted : (s : State) (f : Frame) → (frame s f).number ≡ 0 → Accepted s.chip.rest (opcode f.sent) f.sent
unfolding frame_tests command_tests
accepted s f e =
    let c = (frame_given s f).is_0.0 e in
    record {
      is_listed = not-false _ c.1.1.0;
      sized = not-false _ c.1.1.1.0;
      calm = c.1.1.1.1.0;
      enabled = c.1.1.1.1.1.0;
      wired = c.1.1.1.1.1.1.0;
      four = c.1.1.1.1.1.1.1.0;
      apart = c.1.1.1.1.1.1.1.1.0;
      latched = c.1.1.1.1.1.1.1.1.1.0;
      opened = c.1.1.1.1.1.1.1.1.1.1.0;
      bare = c.1.1.1.1.1.1.1.1.1.1.1.0;
    }

-- the record and the lengths were right
pub accepted_right : (s : State) (f : Frame) → (frame s f).number ≡ 0 → (state_right s ≡ true) × (frame_right f ≡ true)
unfolding frame_tests command_tests
accepted_right s f e = and_split (state_right s) (frame_right f) (not-false (state_right s && frame_right f) ((frame_given s f).is_0.0 e).0)
