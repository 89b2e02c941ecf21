-- Every event keeps a record well-formed. Assumes nothing.
use Prim.Native.Nat.{ℕ, zero, suc, ◌+◌, ◌*◌, ◌/◌, ◌%◌, ◌<◌, max}
use mathlib.Core.Path.{◌≡◌, refl, sym, ap, ap₂, ◌∙◌, subst}
use mathlib.Core.Bool.{Bool, true, false, not, ◌&&◌, ◌||◌, true≢false, false≢true}
use mathlib.Core.List.{List, [], ◌∷◌}
use native.Mathlib.Omega.{arith}
use lib.Dec.{eqb, ltb}
use lib.ListN.{get_or, drop, set}
use lib.Seq.{get_or-set_other}
use lib.Bits.{bit_and, bit_or}
use borrow.Author.Tests.{eqb-true, ltb-true, ltb-false, lt-ltb, not-false}
use Rattle.rules.specs.declared.Chip.{Chip}
use Rattle.rules.specs.declared.Flags.{Flags}
use Rattle.rules.specs.declared.Kind.{Kind}
use Rattle.rules.specs.declared.Long.{Long}
use Rattle.rules.specs.declared.Range.{Range}
use Rattle.rules.specs.declared.Rest.{Rest}
use Rattle.rules.specs.declared.Short.{Short}
use Rattle.rules.specs.declared.Work.{Work}
use Rattle.rules.specs.declared.Work.TheVariants.{Nothing, EraseSector, EraseBlock, EraseArray, ProgramPage, ProgramSecurity, LockSecurity, WriteConfiguration, AddPermanent}
use Rattle.rules.specs.Words.{pick, one_of, Each, end, ◌next◌, range, holds, overlap}
use Rattle.rules.specs.Blocks.{array_size_lem, block_of, block_at, write_locked, unlocked, write_locks, power_up_locks}
use Rattle.rules.specs.Works.{is_nothing, is_erase, is_program, can_suspend, array_range}
use Rattle.rules.specs.Frames.{form_of, opcode, address, security_address, six}
use Rattle.rules.specs.Programs.{blank, fill, security_buffer, reaches, reaches_first}
use Rattle.rules.specs.Fields.{locks_of, works_of, chip_of, with_protection, with_running, with_flags, with_wel, with_enable}
use Rattle.rules.specs.Commands.{new_of, act, buffer_after, settled, settled_first, rested, buffer_rested, after_cut}
use Rattle.rules.specs.WellFormed.{numbers_right, locks_right, suspended_right_lem, beside_right, first_ff, security_right, buffer_right, works_right, well_formed}
use Rattle.rules.specs.Numbers.{State, Frame, first, frame_tests, completion_tests, cut_tests}
use Rattle.rules.specs.Machine.{frame_chip, frame, completed_chip_lem, completion, cut_chip_lem, power_cut, Event, sends, completes, cuts, step}
use Rattle.rules.proofs.Bools.{and_split, and_both, or_split, or_left, or_right, not_intro, never}
use Rattle.rules.proofs.Blocks.{block_of_lt, block_placed, holds_at, holds_intro, overlap_at, unlocked_inside, sector_inside, page_inside, block_inside, array_unlocked, unlocked_nowhere}
use Rattle.rules.proofs.LockBits.{Registers, registers_of_lem, registers_right_lem, registers_or, masked_low, read_locks_low, registers_more, registers_powered}
use Rattle.rules.proofs.Numbers.{Accepted, accepted}
use Rattle.rules.proofs.Rows.{opcodes_of, by_kind, at_each, at_one}

-- ---- the test taken apart

pub record Works (p : ℕ) (sec : Bool) (b : List ℕ) (r s : Work) : Type 0 where
  pub running : numbers_right r ≡ true
  pub suspended : numbers_right s ≡ true
  pub kind : suspended_right_lem s ≡ true
  pub beside : beside_right r s ≡ true
  pub running_open : unlocked p (array_range r) ≡ true
  pub suspended_open : unlocked p (array_range s) ≡ true
  pub security : security_right r sec b ≡ true
  pub clean : buffer_right r s b ≡ true

pub works_of_lem : (p : ℕ) (sec : Bool) (b : List ℕ) (r s : Work) → works_right p sec b (works_of r s) ≡ true → Works p sec b r s
unfolding works_right
works_of_lem p sec b r s e =
    let h₇ = and_split _ (buffer_right r s b) e in
    let h₆ = and_split _ (security_right r sec b) h₇.0 in
    let h₅ = and_split _ (unlocked p (array_range s)) h₆.0 in
    let h₄ = and_split _ (unlocked p (array_range r)) h₅.0 in
    let h₃ = and_split _ (beside_right r s) h₄.0 in
    let h₂ = and_split _ (suspended_right_lem s) h₃.0 in
    let h₁ = and_split (numbers_right r) (numbers_right s) h₂.0 in
    record { running = h₁.0; suspended = h₁.1; kind = h₂.1; beside = h₃.1; running_open = h₄.1; suspended_open = h₅.1; security = h₆.1; clean = h₇.1 }

pub works_right_lem : {p : ℕ} {sec : Bool} {b : List ℕ} {r s : Work} → Works p sec b r s → works_right p sec b (works_of r s) ≡ true
unfolding works_right
works_right_lem w = rw (w.running, w.suspended, w.kind, w.beside, w.running_open, w.suspended_open, w.security, w.clean)

pub record Well (c : Chip) : Type 0 where
  pub registers : Registers c.rest.locks.protection c.rest.locks.permanent
  pub works : Works c.rest.locks.protection c.rest.flags.sec c.buffer c.rest.works.running c.rest.works.suspended

pub well_of : (c : Chip) → well_formed c ≡ true → Well c
unfolding well_formed
well_of c e =
    let h = and_split (locks_right c.rest.locks) (works_right c.rest.locks.protection c.rest.flags.sec c.buffer c.rest.works) e in
    record { registers = registers_of_lem _ _ h.0; works = works_of_lem _ _ _ _ _ h.1 }

pub well_right : (c : Chip) → Well c → well_formed c ≡ true
unfolding well_formed
well_right c h = and_both (registers_right_lem _ _ h.registers) (works_right_lem h.works)

-- ---- work

pub nothing : (w : Work) → is_nothing w ≡ true → w ≡ Nothing
nothing Nothing e = refl
nothing (EraseSector n) e = absurd (false≢true e)
nothing (EraseBlock n) e = absurd (false≢true e)
nothing EraseArray e = absurd (false≢true e)
nothing (ProgramPage n) e = absurd (false≢true e)
nothing (ProgramSecurity n) e = absurd (false≢true e)
nothing LockSecurity e = absurd (false≢true e)
nothing (WriteConfiguration i w) e = absurd (false≢true e)
nothing (AddPermanent v) e = absurd (false≢true e)

-- suspended work is nothing, a sector or block erase, or a page program
pub by_suspended : (P : Work → Type 0) → P Nothing → ((n : ℕ) → P (EraseSector n)) → ((n : ℕ) → P (EraseBlock n)) → ((n : ℕ) → P (ProgramPage n))
    → (s : Work) → suspended_right_lem s ≡ true → P s
by_suspended P none sector block page Nothing e = none
by_suspended P none sector block page (EraseSector n) e = sector n
by_suspended P none sector block page (EraseBlock n) e = block n
by_suspended P none sector block page EraseArray e = absurd (false≢true e)
by_suspended P none sector block page (ProgramPage n) e = page n
by_suspended P none sector block page (ProgramSecurity n) e = absurd (false≢true e)
by_suspended P none sector block page LockSecurity e = absurd (false≢true e)
by_suspended P none sector block page (WriteConfiguration i w) e = absurd (false≢true e)
by_suspended P none sector block page (AddPermanent v) e = absurd (false≢true e)

-- nothing runs and nothing is suspended
at_rest : (p : ℕ) (sec : Bool) (b : List ℕ) → first_ff 256 b ≡ true → Works p sec b Nothing Nothing
at_rest p sec b e =
    record { running = refl; suspended = refl; kind = refl; beside = refl; running_open = unlocked_nowhere p; suspended_open = unlocked_nowhere p; security = refl; clean = e }

blank_clean : first_ff 256 blank ≡ true
unfolding blank first_ff
blank_clean = refl

-- the registers that work leaves where it is stopped
module _ (r : Rest) (h : Registers r.locks.protection r.locks.permanent) where
  abbrev RightIn : Rest → Type 0
  RightIn q = Registers q.locks.protection q.locks.permanent

  registers_settled : (w : Work) → RightIn (settled w r)
  registers_settled Nothing = h
  registers_settled (EraseSector n) = h
  registers_settled (EraseBlock n) = h
  registers_settled EraseArray = h
  registers_settled (ProgramPage n) = h
  registers_settled (ProgramSecurity n) = h
  registers_settled LockSecurity = h
  registers_settled (WriteConfiguration i w) = h
  registers_settled (AddPermanent v) = registers_more r.locks.protection r.locks.permanent v h

  registers_stopped : (k : ℕ) → RightIn (settled_first k r)
  registers_stopped k = go (ltb 0 k)
    where
      go : (b : Bool) → RightIn (pick b (settled r.works.running r) r)
      go true = registers_settled r.works.running
      go false = h

-- ---- what a done frame of each opcode says

-- a command that is refused while busy
idle : (b : Bool) → (not b && true) ≡ false → b ≡ true
idle true e = refl
idle false e = absurd (true≢false e)

-- a command that is refused while anything is suspended
alone : (a x y : Bool) → (not a || x || y) ≡ false → a ≡ true
alone true x y e = refl
alone false x y e = absurd (true≢false e)

no_more : (a b x : Bool) → (a || b && (x || false)) ≡ false → (a || b && x) ≡ false
no_more a b true e = e
no_more a b false e = e

-- a page that does not begin in a range of whole pages lies outside it
page_apart : (st sz q : ℕ) → st % 256 ≡ 0 → sz % 256 ≡ 0 → holds (range st sz) (q * 256) ≡ false → overlap (range st sz) (range (q * 256) 256) ≡ false
page_apart st sz q hs hz e =
    never (overlap (range st sz) (range (q * 256) 256))
    (λ o. let g = overlap_at (range st sz) (range (q * 256) 256) o in
    true≢false (sym (holds_intro (range st sz) (q * 256) (omega arith) (omega arith)) ∙ e))

overlap_swap : (r s : Range) → overlap r s ≡ false → overlap s r ≡ false
overlap_swap r s e =
    never (overlap s r)
    (λ o. let g = overlap_at s r o in
    let x : ℕ = max s.start r.start in
    true≢false (sym (Rattle.rules.proofs.Blocks.overlap_intro r s x (holds_intro r x (omega arith) (omega arith)) (holds_intro s x (omega arith) (omega arith))) ∙ e))

-- an erase of a range of whole pages beside suspended work, as 8 allows it
erase_beside : (st sz : ℕ) (s : Work) → st % 256 ≡ 0 → sz % 256 ≡ 0 → suspended_right_lem s ≡ true
    → (is_erase s && true || is_program s && holds (range st sz) (array_range s).start) ≡ false
    → (is_nothing s || (not (overlap (range st sz) (array_range s)) && (is_program s || false))) ≡ true
erase_beside st sz s hs hz k =
    by_suspended
    (λ s. (is_erase s && true || is_program s && holds (range st sz) (array_range s).start) ≡ false
    → (is_nothing s || (not (overlap (range st sz) (array_range s)) && (is_program s || false))) ≡ true)
    (λ e. refl)
    (λ n e. absurd (true≢false e))
    (λ n e. absurd (true≢false e))
    (λ n e. and_both (not_intro _ (page_apart st sz n hs hz e)) refl)
    s k

-- a program of page n beside suspended work, as 8 allows it
program_beside : (a : ℕ) (s : Work) → numbers_right s ≡ true → suspended_right_lem s ≡ true
    → (is_erase s && holds (array_range s) a || is_program s && true) ≡ false
    → (is_nothing s || (not (overlap (range (a / 256 * 256) 256) (array_range s)) && is_erase s)) ≡ true
program_beside a s right k =
    by_suspended
    (λ s. numbers_right s ≡ true → (is_erase s && holds (array_range s) a || is_program s && true) ≡ false
    → (is_nothing s || (not (overlap (range (a / 256 * 256) 256) (array_range s)) && is_erase s)) ≡ true)
    (λ r e. refl)
    (λ n r e. and_both (not_intro _ (outside (n * 4096) 4096 (omega arith) refl (or_split _ false e).0)) refl)
    (λ n r e.
    let f = block_placed n (ltb-true n 40 r) in
    let hs = f.start_aligned in
    let hz = f.size_aligned in
    and_both (not_intro _ (outside (block_at n).start (block_at n).size (omega arith) (omega arith) (or_split _ false e).0)) refl)
    (λ n r e. absurd (true≢false e))
    s k right
  where
    outside : (st sz : ℕ) → st % 256 ≡ 0 → sz % 256 ≡ 0 → holds (range st sz) a ≡ false → overlap (range (a / 256 * 256) 256) (range st sz) ≡ false
    outside st sz hs hz e =
        overlap_swap (range st sz) (range (a / 256 * 256) 256)
        (page_apart st sz (a / 256) hs hz
        (never (holds (range st sz) (a / 256 * 256))
        (λ h. let g = holds_at (range st sz) (a / 256 * 256) h in true≢false (sym (holds_intro (range st sz) a (omega arith) (omega arith)) ∙ e))))

-- ---- the buffer of A5

-- a program that reaches no place below 8 leaves the first eight
fill_front : (ds b : List ℕ) (p q : ℕ) → reaches 0 p ds ≡ false → q < 8 → get_or (fill b p ds) q 0 ≡ get_or b q 0
unfolding fill reaches
fill_front [] b p q e h = refl
fill_front (d ∷ ds) b p q e h =
    let k = or_split (ltb (0 + p % 256) 8) (reaches 0 (p + 1) ds) e in
    let l = ltb-false (0 + p % 256) 8 k.0 in
    fill_front ds (set b (p % 256) d) (p + 1) q k.1 h ∙ get_or-set_other b (p % 256) q d 0 (λ x. omega arith)

first_same : (n : ℕ) (b b' : List ℕ) → ((q : ℕ) → q < n → get_or b q 0 ≡ get_or b' q 0) → first_ff n b ≡ first_ff n b'
unfolding first_ff
first_same zero b b' h = refl
first_same (suc n) b b' h = ap₂ (λ (x : ℕ) (y : Bool). eqb x 0xFF && y) (h n (omega arith)) (first_same n b b' (λ q below. h q (omega arith)))

front : first_ff 8 blank ≡ true
unfolding blank first_ff
front = refl

security_start : (sent : List ℕ) (sec : Bool) → (sec || reaches_first sent) ≡ false
    → (not sec && (not (eqb (security_address sent / 256) 0) || first_ff 8 (security_buffer sent))) ≡ true
unfolding reaches_first security_buffer
security_start sent sec e = and_both (ap not h.0) (go (eqb (security_address sent / 256) 0) refl)
  where
    a : ℕ
    a = security_address sent

    h : (sec ≡ false) × (reaches (a / 256 * 256) (a % 256) (drop 3 sent) ≡ false)
    h = or_split sec (reaches (a / 256 * 256) (a % 256) (drop 3 sent)) e

    go : (x : Bool) → eqb (a / 256) 0 ≡ x → (not x || first_ff 8 (fill blank (a % 256) (drop 3 sent))) ≡ true
    go false q = refl
    go true q =
        let z : a / 256 * 256 ≡ 0 = (let y = eqb-true (a / 256) 0 q in omega arith) in
        first_same 8 (fill blank (a % 256) (drop 3 sent)) blank
        (λ q below. fill_front (drop 3 sent) blank (a % 256) q (subst (λ (n : ℕ). reaches n (a % 256) (drop 3 sent) ≡ false) z h.1) below)
        ∙ front

-- ---- the chip after a done frame

-- the buffer where nothing runs
still_clean : (c : Chip) → Well c → is_nothing c.rest.works.running ≡ true → (is_program c.rest.works.suspended || first_ff 256 c.buffer) ≡ true
still_clean c h i = subst (λ (r : Work). buffer_right r c.rest.works.suspended c.buffer ≡ true) (nothing c.rest.works.running i) h.works.clean

record Starts (c : Chip) (w : Work) (b : List ℕ) : Type 0 where
  numbers : numbers_right w ≡ true
  beside : beside_right w c.rest.works.suspended ≡ true
  bare : unlocked c.rest.locks.protection (array_range w) ≡ true
  security : security_right w c.rest.flags.sec b ≡ true
  clean : buffer_right w c.rest.works.suspended b ≡ true

started : (c : Chip) (w : Work) (b : List ℕ) → Well c → Starts c w b → Works c.rest.locks.protection c.rest.flags.sec b w c.rest.works.suspended
started c w b h s =
    record {
      running = s.numbers;
      suspended = h.works.suspended;
      kind = h.works.kind;
      beside = s.beside;
      running_open = s.bare;
      suspended_open = h.works.suspended_open;
      security = s.security;
      clean = s.clean;
    }

-- work that is no range of the array, beside nothing
beside_nothing : (w s : Work) → is_nothing s ≡ true → beside_right w s ≡ true
beside_nothing w s e = or_left (is_nothing w || is_nothing s) _ (or_right (is_nothing w) (is_nothing s) e)

sector_starts : (c : Chip) (sent : List ℕ) → Well c → Accepted c.rest 0x20 sent → Starts c (EraseSector (address sent / 4096)) c.buffer
unfolding write_locked
sector_starts c sent h a =
    let below : address sent < array_size_lem = omega arith in
    record {
      numbers = lt-ltb (address sent / 4096) 512 (omega arith);
      beside = erase_beside (address sent / 4096 * 4096) 4096 c.rest.works.suspended (omega arith) refl h.works.kind (no_more (is_erase c.rest.works.suspended && true) (is_program c.rest.works.suspended) _ a.apart);
      bare = unlocked_inside c.rest.locks.protection (block_of (address sent)) _ (block_of_lt (address sent) below) (sector_inside (address sent) below) (omega arith)
          ∙ not_intro (write_locked c.rest.locks.protection (address sent)) (or_split (write_locked c.rest.locks.protection (address sent)) false a.bare).0;
      security = refl;
      clean = still_clean c h (idle (is_nothing c.rest.works.running) a.calm);
    }

block_starts : (c : Chip) (sent : List ℕ) → Well c → Accepted c.rest 0xD8 sent → Starts c (EraseBlock (block_of (address sent))) c.buffer
unfolding write_locked
block_starts c sent h a =
    let below : address sent < array_size_lem = omega arith in
    let n : block_of (address sent) < 40 = block_of_lt (address sent) below in
    let f = block_placed (block_of (address sent)) n in
    let hs = f.start_aligned in
    let hz = f.size_aligned in
    record {
      numbers = lt-ltb (block_of (address sent)) 40 n;
      beside = erase_beside (block_at (block_of (address sent))).start (block_at (block_of (address sent))).size c.rest.works.suspended (omega arith) (omega arith) h.works.kind a.apart;
      bare = unlocked_inside c.rest.locks.protection (block_of (address sent)) _ n (block_inside (block_of (address sent))) f.some
          ∙ not_intro (write_locked c.rest.locks.protection (address sent)) (or_split (write_locked c.rest.locks.protection (address sent)) false a.bare).0;
      security = refl;
      clean = still_clean c h (idle (is_nothing c.rest.works.running) a.calm);
    }

array_starts : (c : Chip) (sent : List ℕ) → Well c → Accepted c.rest 0xC7 sent → Starts c EraseArray c.buffer
array_starts c sent h a =
    record {
      numbers = refl;
      beside = beside_nothing EraseArray c.rest.works.suspended (alone (is_nothing c.rest.works.suspended) _ _ a.apart);
      bare = array_unlocked c.rest.locks.protection h.registers.low ∙ not-false _ a.bare;
      security = refl;
      clean = still_clean c h (idle (is_nothing c.rest.works.running) a.calm);
    }

-- 02 and 32
page_starts : (c : Chip) (sent b : List ℕ) → Well c
    → (is_erase c.rest.works.suspended && holds (array_range c.rest.works.suspended) (address sent) || is_program c.rest.works.suspended && true) ≡ false
    → write_locked c.rest.locks.protection (address sent) ≡ false
    → Starts c (ProgramPage (address sent / 256)) b
unfolding write_locked
page_starts c sent b h apart bare =
    let below : address sent < array_size_lem = omega arith in
    record {
      numbers = lt-ltb (address sent / 256) 8192 (omega arith);
      beside = program_beside (address sent) c.rest.works.suspended h.works.suspended h.works.kind apart;
      bare = unlocked_inside c.rest.locks.protection (block_of (address sent)) _ (block_of_lt (address sent) below) (page_inside (address sent) below) (omega arith)
          ∙ not_intro _ bare;
      security = refl;
      clean = refl;
    }

security_starts : (c : Chip) (sent : List ℕ) → Well c → Accepted c.rest 0xA5 sent → Starts c (ProgramSecurity (security_address sent / 256)) (security_buffer sent)
security_starts c sent h a =
    record {
      numbers = lt-ltb (security_address sent / 256) 8 (omega arith);
      beside = beside_nothing (ProgramSecurity (security_address sent / 256)) c.rest.works.suspended (alone (is_nothing c.rest.works.suspended) _ _ a.apart);
      bare = unlocked_nowhere c.rest.locks.protection;
      security = security_start sent c.rest.flags.sec a.opened;
      clean = refl;
    }

-- 85, 01, E8: no range in the array
lone_starts : (c : Chip) (w : Work) → Well c → is_nothing c.rest.works.running ≡ true → is_nothing c.rest.works.suspended ≡ true
    → numbers_right w ≡ true → unlocked c.rest.locks.protection (array_range w) ≡ true → security_right w c.rest.flags.sec c.buffer ≡ true → is_program w ≡ false
    → Starts c w c.buffer
lone_starts c w h i j numbers bare security p =
    record {
      numbers = numbers;
      beside = beside_nothing w c.rest.works.suspended j;
      bare = bare;
      security = security;
      clean = subst (λ (x : Bool). (x || is_program c.rest.works.suspended || first_ff 256 c.buffer) ≡ true) (sym p) (still_clean c h i);
    }

-- 42, 98: the protection register changes where nothing runs or is suspended
relocked : (p : ℕ) (c : Chip) → Well c → is_nothing c.rest.works.running ≡ true → is_nothing c.rest.works.suspended ≡ true → Works p c.rest.flags.sec c.buffer c.rest.works.running c.rest.works.suspended
relocked p c h i j =
    record {
      running = h.works.running;
      suspended = h.works.suspended;
      kind = h.works.kind;
      beside = h.works.beside;
      running_open = ap (λ (w : Work). unlocked p (array_range w)) (nothing c.rest.works.running i) ∙ unlocked_nowhere p;
      suspended_open = ap (λ (w : Work). unlocked p (array_range w)) (nothing c.rest.works.suspended j) ∙ unlocked_nowhere p;
      security = h.works.security;
      clean = h.works.clean;
    }

-- work that can be suspended uses the buffer exactly where it programs, and no Security ID
put_aside : (p : ℕ) (sec : Bool) (b : List ℕ) (r s : Work) → Works p sec b r s → can_suspend r ≡ true → is_nothing s ≡ true → Works p sec b Nothing r
put_aside p sec b r s h k j =
    record {
      running = refl;
      suspended = h.running;
      kind = or_right (is_nothing r) (can_suspend r) k;
      beside = refl;
      running_open = unlocked_nowhere p;
      suspended_open = h.running_open;
      security = refl;
      clean = subst (λ (s : Work). (is_program r || is_program s || first_ff 256 b) ≡ true → (is_program r || first_ff 256 b) ≡ true) (sym (nothing s j)) (shorter (is_program r) (first_ff 256 b)) h.clean;
    }
  where
    shorter : (x y : Bool) → (x || false || y) ≡ true → (x || y) ≡ true
    shorter true y e = refl
    shorter false y e = e

run_again : (p : ℕ) (sec : Bool) (b : List ℕ) (r s : Work) → Works p sec b r s → is_nothing r ≡ true → Works p sec b s Nothing
run_again p sec b r s h i =
    record {
      running = h.suspended;
      suspended = refl;
      kind = refl;
      beside = or_left (is_nothing s || true) _ (or_right (is_nothing s) true refl);
      running_open = h.suspended_open;
      suspended_open = unlocked_nowhere p;
      security = by_suspended (λ s. security_right s sec b ≡ true) refl (λ n. refl) (λ n. refl) (λ n. refl) s h.kind;
      clean = longer (is_program s) (first_ff 256 b) (subst (λ (r : Work). buffer_right r s b ≡ true) (nothing r i) h.clean);
    }
  where
    longer : (x y : Bool) → (x || y) ≡ true → (x || false || y) ≡ true
    longer true y e = refl
    longer false y e = e

-- the chip after a done frame of a kind
abbrev after : Kind → List ℕ → ℕ → Chip → Chip
after k sent n c = chip_of (buffer_after k sent c.buffer) (act k sent n (with_enable false c.rest))

first_of_lem : (a b c d e : Bool) → (a || b || c || d || e) ≡ false → a ≡ false
first_of_lem true b c d e q = absurd (true≢false q)
first_of_lem false b c d e q = refl

module _ (c : Chip) (sent : List ℕ) (n : ℕ) (h : Well c) where
  -- only flags change
  same : (f : Flags) → f.sec ≡ c.rest.flags.sec → Well (chip_of c.buffer (with_flags f c.rest))
  same f e = record { registers = h.registers; works = subst (λ (x : Bool). Works c.rest.locks.protection x c.buffer c.rest.works.running c.rest.works.suspended) (sym e) h.works }

  -- work is started
  starting : {w : Work} {b : List ℕ} → Starts c w b → Well (chip_of b (with_running w (with_enable false c.rest)))
  starting {w} {b} s = record { registers = h.registers; works = started c w b h s }

  -- the protection register changes
  relocking : (wel : Bool) {p : ℕ} → Registers p c.rest.locks.permanent → is_nothing c.rest.works.running ≡ true → is_nothing c.rest.works.suspended ≡ true
      → Well (chip_of c.buffer (with_wel wel (with_protection p (with_enable false c.rest))))
  relocking wel {p} r i j = record { registers = r; works = relocked p c h i j }

  kind_well : (k : Kind) → Each (λ o. Accepted c.rest o sent → Well (after k sent n c)) (opcodes_of k)
  kind_well (Kind.Show s) = at_each (λ o a. same _ refl) (opcodes_of (Kind.Show s))
  kind_well (Kind.Begin Long.Sector) = (λ a. starting (sector_starts c sent h a)) next end
  kind_well (Kind.Begin Long.Block) = (λ a. starting (block_starts c sent h a)) next end
  kind_well (Kind.Begin Long.Array) = (λ a. starting (array_starts c sent h a)) next end
  kind_well (Kind.Begin Long.Page) =
      (λ a. starting (page_starts c sent _ h a.apart (or_split (write_locked c.rest.locks.protection (address sent)) false a.bare).0))
      next (λ a. starting (page_starts c sent _ h a.apart (or_split (write_locked c.rest.locks.protection (address sent)) false a.bare).0))
      next end
  kind_well (Kind.Begin Long.SecurityPage) = (λ a. starting (security_starts c sent h a)) next end
  kind_well (Kind.Begin Long.SecurityLock) =
      (λ a. starting (lone_starts c LockSecurity h (idle _ a.calm) (alone _ _ _ a.apart) refl (unlocked_nowhere c.rest.locks.protection) (ap not (or_split c.rest.flags.sec false a.opened).0) refl))
      next end
  kind_well (Kind.Begin Long.Configuration) =
      (λ a. starting (lone_starts c _ h (idle _ a.calm) (alone _ _ _ a.apart) refl (unlocked_nowhere c.rest.locks.protection) refl refl)) next end
  kind_well (Kind.Begin Long.Permanent) =
      (λ a. starting (lone_starts c _ h (idle _ a.calm) (alone _ _ _ a.apart) refl (unlocked_nowhere c.rest.locks.protection) refl refl)) next end
  kind_well (Kind.Do Short.Nothing) = (λ a. same _ refl) next end
  kind_well (Kind.Do Short.EnableReset) = (λ a. same _ refl) next end
  kind_well (Kind.Do Short.Reset) = (λ a.
      let q = settled_first n (with_enable false c.rest) in
      record { registers = registers_stopped (with_enable false c.rest) h.registers n; works = at_rest q.locks.protection q.flags.sec blank blank_clean })
      next end
  kind_well (Kind.Do Short.ToSqi) = (λ a. same _ refl) next end
  kind_well (Kind.Do Short.ToSpi) = (λ a. same _ refl) next end
  kind_well (Kind.Do Short.SetWel) = (λ a. same _ refl) next end
  kind_well (Kind.Do Short.ClearWel) = (λ a. same _ refl) next end
  kind_well (Kind.Do Short.WriteProtection) =
      (λ a. relocking false (registers_or c.rest.locks.protection c.rest.locks.permanent _ h.registers (masked_low (six sent))) (idle _ a.calm) (alone _ _ _ a.apart)) next end
  kind_well (Kind.Do Short.LockDown) = (λ a. same _ refl) next end
  kind_well (Kind.Do Short.ClearLocks) =
      (λ a. relocking false (registers_or c.rest.locks.protection c.rest.locks.permanent _ h.registers (read_locks_low c.rest.locks.protection c.rest.locks.permanent h.registers)) (idle _ a.calm) (alone _ _ _ a.apart))
      next end
  kind_well (Kind.Do Short.Suspend) =
      (λ a.
      let k = and_split (can_suspend c.rest.works.running) (is_nothing c.rest.works.suspended) (not-false _ (first_of_lem _ _ _ _ _ a.apart)) in
      record { registers = h.registers; works = put_aside c.rest.locks.protection c.rest.flags.sec c.buffer c.rest.works.running c.rest.works.suspended h.works k.0 k.1 })
      next end
  kind_well (Kind.Do Short.Resume) =
      (λ a. record { registers = h.registers; works = run_again c.rest.locks.protection c.rest.flags.sec c.buffer c.rest.works.running c.rest.works.suspended h.works (idle _ a.calm) })
      next end
  kind_well (Kind.Do Short.SetBurst) = (λ a. record { registers = h.registers; works = h.works }) next end

  done_well : Accepted c.rest (opcode sent) sent → Well (after (form_of (opcode sent)).kind sent n c)
  done_well a =
      let k = (form_of (opcode sent)).kind in
      at_one (λ o. Accepted c.rest o sent → Well (after k sent n c)) (opcodes_of k) (opcode sent) (by_kind c.rest.flags.sqi (opcode sent) a.is_listed) (kind_well k) a

frame_well : (n : ℕ) (c : Chip) (f : Frame) → Well c → (n ≡ 0 → Accepted c.rest (opcode f.sent) f.sent) → Well (frame_chip n c f)
unfolding frame_chip
frame_well n c f h a = go (eqb n 0) refl (one_of n (1 ∷ 2 ∷ []))
  where
    go : (x : Bool) → eqb n 0 ≡ x → (y : Bool)
        → Well (pick x (after (form_of (opcode f.sent)).kind f.sent f.circumstances.tear.k c) (pick y c (chip_of c.buffer (with_enable false c.rest))))
    go true e y = done_well c f.sent f.circumstances.tear.k h (a (eqb-true n 0 e))
    go false e true = h
    go false e false = record { registers = h.registers; works = h.works }

-- ---- completion and power cut

-- the work ends, and what is suspended stays
ended : (p : ℕ) (sec sec' : Bool) (b : List ℕ) (r s : Work) → Works p sec b r s → Works p sec' (pick (is_program s) b blank) Nothing s
ended p sec sec' b r s h =
    record {
      running = refl;
      suspended = h.suspended;
      kind = h.kind;
      beside = refl;
      running_open = unlocked_nowhere p;
      suspended_open = h.suspended_open;
      security = refl;
      clean = go (is_program s);
    }
  where
    go : (x : Bool) → (x || first_ff 256 (pick x b blank)) ≡ true
    go true = refl
    go false = blank_clean

-- nothing is suspended beside an E8
lone_permanent : (v : ℕ) (s : Work) → beside_right (AddPermanent v) s ≡ true → is_nothing s ≡ true
lone_permanent v s e = go (is_nothing s) (not (overlap (range 0 0) (array_range s))) e
  where
    go : (x y : Bool) → (x || (y && false)) ≡ true → x ≡ true
    go true y q = refl
    go false true q = q
    go false false q = q

module _ (c : Chip) (h : Well c) where
  -- the chip when the work w has ended
  abbrev over : Work → Chip
  over w = chip_of (buffer_rested c.rest.works.suspended c.buffer) (rested (settled w c.rest))

  works_ended : (sec : Bool) → Works c.rest.locks.protection sec (buffer_rested c.rest.works.suspended c.buffer) Nothing c.rest.works.suspended
  works_ended sec = ended c.rest.locks.protection c.rest.flags.sec sec c.buffer c.rest.works.running c.rest.works.suspended h.works

  ends : (w : Work) → c.rest.works.running ≡ w → Well (over w)
  ends Nothing e = record { registers = h.registers; works = works_ended _ }
  ends (EraseSector n) e = record { registers = h.registers; works = works_ended _ }
  ends (EraseBlock n) e = record { registers = h.registers; works = works_ended _ }
  ends EraseArray e = record { registers = h.registers; works = works_ended _ }
  ends (ProgramPage n) e = record { registers = h.registers; works = works_ended _ }
  ends (ProgramSecurity n) e = record { registers = h.registers; works = works_ended _ }
  ends LockSecurity e = record { registers = h.registers; works = works_ended _ }
  ends (WriteConfiguration i w) e = record { registers = h.registers; works = works_ended _ }
  ends (AddPermanent v) e =
      let j = lone_permanent v c.rest.works.suspended (subst (λ (w : Work). beside_right w c.rest.works.suspended ≡ true) e h.works.beside) in
      let p : ℕ = bit_or c.rest.locks.protection (bit_and v write_locks) in
      let w = works_ended c.rest.flags.sec in
      record {
        registers = registers_more c.rest.locks.protection c.rest.locks.permanent v h.registers;
        works = record {
          running = refl;
          suspended = w.suspended;
          kind = w.kind;
          beside = refl;
          running_open = unlocked_nowhere p;
          suspended_open = ap (λ (w : Work). unlocked p (array_range w)) (nothing c.rest.works.suspended j) ∙ unlocked_nowhere p;
          security = refl;
          clean = w.clean;
        };
      }

  completed_well : (n : ℕ) → Well (completed_chip_lem n c)
  unfolding completed_chip_lem
  completed_well n = go (eqb n 0)
    where
      go : (b : Bool) → Well (pick b (over c.rest.works.running) c)
      go true = ends c.rest.works.running refl
      go false = h

  powered_well : (r : Rest) → Registers r.locks.protection r.locks.permanent → Well (chip_of blank (after_cut r))
  powered_well r g = record { registers = registers_powered r.locks.protection r.locks.permanent g; works = at_rest power_up_locks r.flags.sec blank blank_clean }

  cut_well : (n k : ℕ) → Well (cut_chip_lem n k c)
  unfolding cut_chip_lem
  cut_well n k = go (eqb n 0)
    where
      go : (x : Bool) → Well (pick x (chip_of blank (after_cut (settled_first k c.rest))) c)
      go true = powered_well (settled_first k c.rest) (registers_stopped c.rest h.registers k)
      go false = h

-- ---- the law

pub step_well_formed : (s : State) (e : Event) → well_formed s.chip ≡ true → well_formed (step s e).chip ≡ true
unfolding step frame completion power_cut
step_well_formed s (sends f) h = well_right _ (frame_well (first (frame_tests s f)) s.chip f (well_of s.chip h) (λ e. accepted s f e))
step_well_formed s completes h = well_right _ (completed_well s.chip (well_of s.chip h) (first (completion_tests s)))
step_well_formed s (cuts t) h = well_right _ (cut_well s.chip (well_of s.chip h) (first (cut_tests s)) t.k)

-- a new chip is well-formed, of either part
pub new_well_formed : (ba : Bool) → well_formed (new_of ba) ≡ true
unfolding locks_right
new_well_formed ba = well_right (new_of ba) record { registers = registers_of_lem power_up_locks 0 start; works = at_rest power_up_locks false blank blank_clean }
  where
    start : locks_right (locks_of power_up_locks 0) ≡ true
    start = refl
