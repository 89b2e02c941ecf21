-- The machine where record and lengths are right, made for antt to compute: since events keep a record well-formed, test 1 is proved away once
-- and not computed at every event. Assumes nothing.
use Prim.Native.Nat.{ℕ, zero, suc}
use mathlib.Core.Path.{◌≡◌, refl, sym, ap, ◌∙◌}
use mathlib.Core.Bool.{Bool, true, false, not, ◌&&◌}
use mathlib.Core.List.{List, [], ◌∷◌}
use lib.Dec.{eqb}
use Rattle.rules.specs.declared.Burst.{Burst}
use Rattle.rules.specs.declared.Chip.{Chip}
use Rattle.rules.specs.declared.Flags.{Flags}
use Rattle.rules.specs.declared.Tear.{Tear}
use Rattle.rules.specs.declared.Work.{Work}
use Rattle.rules.specs.Words.{every}
use Rattle.rules.specs.Blocks.{array_size_lem, security_size_lem}
use Rattle.rules.specs.Works.{all, finish}
use Rattle.rules.specs.Fields.{locks_of, works_of, rest_of, chip_of, flags_number, flags_in}
use Rattle.rules.specs.WellFormed.{well_formed}
use Rattle.rules.specs.Numbers.{State, state_right, frame_right, empty_frame, nothing_runs, test, first, command_tests, frame_tests, completion_tests, cut_tests}
use Rattle.rules.specs.Machine.{Outcome, worked_array_lem, worked_security_lem, stops, frame, completion, power_cut, Event, sends, completes, cuts, step, left, run}
use Rattle.rules.specs.Cases.{new_state, state_after, last_of}
use Rattle.rules.proofs.Bools.{and_split, and_both}
use Rattle.rules.proofs.Fields.{flags_back}
use Rattle.rules.proofs.Refusals.{framed, completed, cut}
use Rattle.rules.proofs.WellFormed.{step_well_formed, new_well_formed}

-- ---- values handed on once they are computed
-- What is not read stays a call, and would be computed again at every event after it.

abbrev read_flag : {A : Type 0} → Bool → (Bool → A) → A
read_flag true k = k true
read_flag false k = k false

abbrev read_number_lem : {A : Type 0} → ℕ → (ℕ → A) → A
read_number_lem zero k = k zero
read_number_lem (suc n) k = k (suc n)

abbrev read_bytes : {A : Type 0} → List ℕ → (List ℕ → A) → A
read_bytes [] k = k []
read_bytes (x ∷ xs) k = k (x ∷ xs)

abbrev read_work : {A : Type 0} → Work → (Work → A) → A
read_work Work.Nothing k = k Work.Nothing
read_work (Work.EraseSector n) k = read_number_lem n (λ m. k (Work.EraseSector m))
read_work (Work.EraseBlock n) k = read_number_lem n (λ m. k (Work.EraseBlock m))
read_work Work.EraseArray k = k Work.EraseArray
read_work (Work.ProgramPage n) k = read_number_lem n (λ m. k (Work.ProgramPage m))
read_work (Work.ProgramSecurity n) k = read_number_lem n (λ m. k (Work.ProgramSecurity m))
read_work Work.LockSecurity k = k Work.LockSecurity
read_work (Work.WriteConfiguration i w) k = read_flag i (λ j. read_flag w (λ v. k (Work.WriteConfiguration j v)))
read_work (Work.AddPermanent v) k = read_number_lem v (λ m. k (Work.AddPermanent m))

abbrev read_burst : {A : Type 0} → Burst → (Burst → A) → A
read_burst Burst.Eight k = k Burst.Eight
read_burst Burst.Sixteen k = k Burst.Sixteen
read_burst Burst.ThirtyTwo k = k Burst.ThirtyTwo
read_burst Burst.SixtyFour k = k Burst.SixtyFour

unfoldable pub read_chip : {A : Type 0} → Chip → (Chip → A) → A
read_chip c k =
    read_bytes c.buffer (λ b. read_number_lem c.rest.locks.protection (λ p. read_number_lem c.rest.locks.permanent (λ q. read_work c.rest.works.running (λ r. read_work c.rest.works.suspended (λ s.
    read_number_lem (flags_number c.rest.flags) (λ f. read_burst c.rest.burst (λ n. k (chip_of b (rest_of (locks_of p q) (works_of r s) (flags_in f) n)))))))))

read_flag_is : {A : Type 0} (b : Bool) (k : Bool → A) → read_flag b k ≡ k b
read_flag_is true k = refl
read_flag_is false k = refl

read_number_is : {A : Type 0} (n : ℕ) (k : ℕ → A) → read_number_lem n k ≡ k n
read_number_is zero k = refl
read_number_is (suc n) k = refl

read_bytes_is : {A : Type 0} (l : List ℕ) (k : List ℕ → A) → read_bytes l k ≡ k l
read_bytes_is [] k = refl
read_bytes_is (x ∷ xs) k = refl

read_work_is : {A : Type 0} (w : Work) (k : Work → A) → read_work w k ≡ k w
read_work_is Work.Nothing k = refl
read_work_is (Work.EraseSector n) k = read_number_is n _
read_work_is (Work.EraseBlock n) k = read_number_is n _
read_work_is Work.EraseArray k = refl
read_work_is (Work.ProgramPage n) k = read_number_is n _
read_work_is (Work.ProgramSecurity n) k = read_number_is n _
read_work_is Work.LockSecurity k = refl
read_work_is (Work.WriteConfiguration i w) k = read_flag_is i _ ∙ read_flag_is w _
read_work_is (Work.AddPermanent v) k = read_number_is v _

read_burst_is : {A : Type 0} (b : Burst) (k : Burst → A) → read_burst b k ≡ k b
read_burst_is Burst.Eight k = refl
read_burst_is Burst.Sixteen k = refl
read_burst_is Burst.ThirtyTwo k = refl
read_burst_is Burst.SixtyFour k = refl

read_chip_is : {A : Type 0} (c : Chip) (k : Chip → A) → read_chip c k ≡ k c
unfolding read_chip
read_chip_is c k =
    read_bytes_is c.buffer _ ∙ read_number_is c.rest.locks.protection _ ∙ read_number_is c.rest.locks.permanent _ ∙ read_work_is c.rest.works.running _ ∙ read_work_is c.rest.works.suspended _
    ∙ read_number_is (flags_number c.rest.flags) _ ∙ read_burst_is c.rest.burst _ ∙ ap (λ (f : Flags). k (chip_of c.buffer (rest_of c.rest.locks c.rest.works f c.rest.burst))) (flags_back c.rest.flags).1

-- ---- the machine where record and lengths are right

unfoldable pub quick : {A : Type 0} → State → Event → (Outcome → A) → A
quick s (sends f) k = read_number_lem (first (test 2 (empty_frame f.sent) ∷ command_tests s.chip.rest f.sent)) (λ n. k (framed s f n))
quick s completes k = read_number_lem (first (test 12 (nothing_runs s.chip.rest) ∷ [])) (λ n. k (completed s n))
quick s (cuts t) k = k (cut s t 0)

abbrev pub fits : Event → Bool
fits (sends f) = frame_right f
fits completes = true
fits (cuts t) = true

pub quick_is : {A : Type 0} (s : State) (e : Event) (k : Outcome → A) → state_right s ≡ true → fits e ≡ true → quick s e k ≡ k (step s e)
unfolding quick step frame completion power_cut framed completed cut frame_tests completion_tests cut_tests
quick_is s (sends f) k r h =
    read_number_is (first (test 2 (empty_frame f.sent) ∷ command_tests s.chip.rest f.sent)) _
    ∙ sym (ap (λ (b : Bool). k (framed s f (first (test 1 (not b) ∷ test 2 (empty_frame f.sent) ∷ command_tests s.chip.rest f.sent)))) (and_both r h))
quick_is s completes k r h =
    read_number_is (first (test 12 (nothing_runs s.chip.rest) ∷ [])) _
    ∙ sym (ap (λ (b : Bool). k (completed s (first (test 1 (not b) ∷ test 12 (nothing_runs s.chip.rest) ∷ [])))) r)
quick_is s (cuts t) k r h = sym (ap (λ (b : Bool). k (cut s t (first (test 1 (not b) ∷ [])))) r)

-- ---- an event keeps them right

-- memory that is finished or stays as it is
worked_size : (b : Bool) (t : Tear) (s : State) → ((worked_array_lem b t s).size ≡ s.array.size) × ((worked_security_lem b t s).size ≡ s.security.size)
unfolding worked_array_lem worked_security_lem finish
worked_size true t s = (refl, refl)
worked_size false t s = (refl, refl)

sizes : (s : State) (e : Event) → ((step s e).array.size ≡ s.array.size) × ((step s e).security.size ≡ s.security.size)
unfolding step frame completion power_cut
sizes s (sends f) = worked_size (stops (first (frame_tests s f)) f.sent) f.circumstances.tear s
sizes s completes = worked_size (eqb (first (completion_tests s)) 0) all s
sizes s (cuts t) = worked_size (eqb (first (cut_tests s)) 0) t s

stays_right : (s : State) (e : Event) → state_right s ≡ true → state_right (left (step s e)) ≡ true
stays_right s e r =
    let h = and_split (well_formed s.chip && eqb s.array.size array_size_lem) (eqb s.security.size security_size_lem) r in
    let k = and_split (well_formed s.chip) (eqb s.array.size array_size_lem) h.0 in
    let z = sizes s e in
    and_both (and_both (step_well_formed s e k.0) (ap (λ (n : ℕ). eqb n array_size_lem) z.0 ∙ k.1)) (ap (λ (n : ℕ). eqb n security_size_lem) z.1 ∙ h.1)

-- ---- runs of events that fit

-- the state that an outcome leaves
unfoldable pub onward : {A : Type 0} → Outcome → (State → A) → A
onward o k = read_chip o.chip (λ c. k (record { chip = c; array = o.array; security = o.security }))

-- the state after some events
unfoldable pub quick_after : {A : Type 0} → State → List Event → (State → A) → A
quick_after s [] k = k s
quick_after s (e ∷ es) k = quick s e (λ o. onward o (λ t. quick_after t es k))

-- the outcome with its state computed
abbrev leaving : Outcome → State → Outcome
leaving o t = record { number = o.number; chip = t.chip; array = t.array; security = t.security; reply = o.reply; marks = o.marks }

-- the last outcome of some events
unfoldable pub quick_last : {A : Type 0} → Outcome → State → List Event → (Outcome → A) → A
quick_last before s [] k = k before
quick_last before s (e ∷ es) k = quick s e (λ o. onward o (λ t. quick_last (leaving o t) t es k))

onward_is : {A : Type 0} (o : Outcome) (k : State → A) → onward o k ≡ k (left o)
unfolding onward
onward_is o k = read_chip_is o.chip _

pub after_is : {A : Type 0} (s : State) (es : List Event) (k : State → A) → state_right s ≡ true → every fits es ≡ true
    → quick_after s es k ≡ k (state_after s es)
unfolding state_after quick_after
after_is s [] k r h = refl
after_is s (e ∷ es) k r h =
    let p = and_split (fits e) (every fits es) h in
    quick_is s e _ r p.0 ∙ onward_is (step s e) _ ∙ after_is (left (step s e)) es k (stays_right s e r) p.1

pub last_is : {A : Type 0} (before : Outcome) (s : State) (es : List Event) (k : Outcome → A) → state_right s ≡ true → every fits es ≡ true
    → quick_last before s es k ≡ k (last_of before (run s es))
unfolding run quick_last
last_is before s [] k r h = refl
last_is before s (e ∷ es) k r h =
    let p = and_split (fits e) (every fits es) h in
    quick_is s e _ r p.0 ∙ onward_is (step s e) _ ∙ last_is (step s e) (left (step s e)) es k (stays_right s e r) p.1

pub after_right : (s : State) (es : List Event) → state_right s ≡ true → state_right (state_after s es) ≡ true
unfolding state_after
after_right s [] r = r
after_right s (e ∷ es) r = after_right (left (step s e)) es (stays_right s e r)

pub new_right : (p : Bool) → state_right (new_state p) ≡ true
new_right p = and_both (and_both (new_well_formed p) refl) refl
