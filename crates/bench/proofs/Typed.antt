-- Records that 320 bytes can hold: numbers of 64 bits, and a page of 256 bytes. A record read from bytes is one, a new chip's is one,
-- and every event keeps a record so. Assumes nothing.
use Prim.Native.Nat.{ℕ, zero, suc, ◌+◌, ◌^◌, ◌<◌}
use mathlib.Core.Path.{◌≡◌, refl, ◌∙◌}
use mathlib.Core.Bool.{Bool, true, false}
use mathlib.Core.List.{List, ◌∷◌, []}
use native.Mathlib.Nat.{pow-suc, lt_of_le_of_lt}
use native.Mathlib.Omega.{arith}
use lib.Bits.{bit_and, and_le_r, or_lt}
use lib.Dec.{eqb, ltb, leb, lit<}
use lib.ListN.{length, drop}
use Rattle.rules.specs.declared.Chip.{Chip}
use Rattle.rules.specs.declared.Flags.{Flags}
use Rattle.rules.specs.declared.Kind.{Kind}
use Rattle.rules.specs.declared.Long.{Long}
use Rattle.rules.specs.declared.Rest.{Rest}
use Rattle.rules.specs.declared.Short.{Short}
use Rattle.rules.specs.declared.Work.{Work}
use Rattle.rules.specs.declared.Work.TheVariants.{Nothing, EraseSector, EraseBlock, EraseArray, ProgramPage, ProgramSecurity, LockSecurity, WriteConfiguration, AddPermanent}
use Rattle.rules.specs.Words.{bit, pick, one_of}
use Rattle.rules.specs.Blocks.{array_size_lem, write_locks, read_locks, all_locks}
use Rattle.rules.specs.Frames.{form_of, sent_byte, opcode, address, six}
use Rattle.rules.specs.Bursts.{last_burst}
use Rattle.rules.specs.Programs.{blank, page_buffer, security_buffer}
use Rattle.rules.specs.Fields.{with_running, with_enable, with_flags}
use Rattle.rules.specs.Commands.{new_of, work_of, buffer_of, at_once, act, buffer_at_once, buffer_after, settled, settled_first, rested, buffer_rested, after_cut}
use Rattle.rules.specs.Works.{is_program}
use Rattle.rules.specs.Numbers.{State, first, frame_tests, completion_tests, cut_tests}
use Rattle.rules.specs.Machine.{frame_chip, frame, completed_chip_lem, completion, cut_chip_lem, power_cut, Event, sends, completes, cuts, step}
use Rattle.rules.proofs.Bools.{and_split}
use Rattle.rules.proofs.Blocks.{block_of_lt}
use Rattle.rules.proofs.Fields.{num_small}
use Rattle.rules.proofs.Effects.{fill_length}
use Rattle.record_code.specs.Layout.{record_size, number_at, field_in, is_code, rest_in, chip_in, TypedRest, Typed}
use Rattle.numbering.specs.Numbering.{number_of, work_right}
use Rattle.numbering.proofs.Works.{work_kept}
use Rattle.record_code.proofs.Faithful.{known_length}
use Rattle.bench.specs.Refusals.{OfBytes}
use Rattle.bench.proofs.Calls.{page_size}

-- ---- a record read from bytes

number_small : (l : List ℕ) → OfBytes l → (at n : ℕ) → number_at l at n < 256 ^ n
number_small l small at zero = omega arith
number_small l small at (suc n) =
    let b = small at in
    let v = number_small l small (at + 1) n in
    rw pow-suc (omega arith)

pub read_typed : (l : List ℕ) → OfBytes l → is_code l ≡ true → Typed (chip_in l)
unfolding is_code chip_in rest_in
read_typed l small e =
    let b = and_split _ (leb (field_in l "burst") last_burst) (and_split _ (eqb (field_in l "reserved") 0) (and_split (eqb (length l) record_size) _ e).1).0 in
    let w = and_split (work_right (field_in l "running kind") (field_in l "running number")) _ b.0 in
    record {
      buffer = page_size l (known_length l e);
      rest = record {
        protection = number_small l small 256 8;
        permanent = number_small l small 264 8;
        running = rw (work_kept (field_in l "running number") (field_in l "running kind") w.0).1 (number_small l small 272 8);
        suspended = rw (work_kept (field_in l "suspended number") (field_in l "suspended kind") w.1).1 (number_small l small 280 8);
      };
    }

-- ---- the page

blank_page : length blank ≡ 256
unfolding blank
blank_page = refl

page_typed : (sent : List ℕ) → length (page_buffer sent) ≡ 256
unfolding page_buffer
page_typed sent = fill_length blank _ (drop 4 sent) ∙ blank_page

security_typed : (sent : List ℕ) → length (security_buffer sent) ≡ 256
unfolding security_buffer
security_typed sent = fill_length blank _ (drop 3 sent) ∙ blank_page

begun_page : (l : Long) (sent b : List ℕ) → length b ≡ 256 → length (buffer_of l sent b) ≡ 256
begun_page Long.Sector sent b h = h
begun_page Long.Block sent b h = h
begun_page Long.Array sent b h = h
begun_page Long.Page sent b h = page_typed sent
begun_page Long.SecurityPage sent b h = security_typed sent
begun_page Long.SecurityLock sent b h = h
begun_page Long.Configuration sent b h = h
begun_page Long.Permanent sent b h = h

short_page : (s : Short) (b : List ℕ) → length b ≡ 256 → length (buffer_at_once s b) ≡ 256
short_page Short.Nothing b h = h
short_page Short.EnableReset b h = h
short_page Short.Reset b h = blank_page
short_page Short.ToSqi b h = h
short_page Short.ToSpi b h = h
short_page Short.SetWel b h = h
short_page Short.ClearWel b h = h
short_page Short.WriteProtection b h = h
short_page Short.LockDown b h = h
short_page Short.ClearLocks b h = h
short_page Short.Suspend b h = h
short_page Short.Resume b h = h
short_page Short.SetBurst b h = h

after_page : (k : Kind) (sent b : List ℕ) → length b ≡ 256 → length (buffer_after k sent b) ≡ 256
after_page (Kind.Show s) sent b h = h
after_page (Kind.Begin l) sent b h = begun_page l sent b h
after_page (Kind.Do s) sent b h = short_page s b h

rested_page : (w : Work) (b : List ℕ) → length b ≡ 256 → length (buffer_rested w b) ≡ 256
rested_page w b h = go (is_program w)
  where
    go : (x : Bool) → length (pick x b blank) ≡ 256
    go true = h
    go false = blank_page

-- ---- the rest

-- work that a frame of bytes begins
begun_small : (l : Long) (sent : List ℕ) → OfBytes sent → number_of (work_of l sent) < 2 ^ 64
begun_small Long.Sector sent small = omega arith
begun_small Long.Block sent small = let n = block_of_lt (address sent) (omega arith) in omega arith
begun_small Long.Array sent small = lit< tt
begun_small Long.Page sent small = omega arith
begun_small Long.SecurityPage sent small = omega arith
begun_small Long.SecurityLock sent small = lit< tt
begun_small Long.Configuration sent small = omega (arith, num_small (bit 1 (sent_byte sent 2)), num_small (bit 7 (sent_byte sent 2)))
begun_small Long.Permanent sent small = omega (arith, small 1, small 2, small 3, small 4, small 5, small 6)

module _ (r : Rest) (t : TypedRest r) where
  flags_typed : (f : Flags) → TypedRest (with_flags f r)
  flags_typed f = record { protection = t.protection; permanent = t.permanent; running = t.running; suspended = t.suspended }

  running_typed : (w : Work) → number_of w < 2 ^ 64 → TypedRest (with_running w r)
  running_typed w h = record { protection = t.protection; permanent = t.permanent; running = h; suspended = t.suspended }

  settled_typed : (w : Work) → TypedRest (settled w r)
  settled_typed Nothing = t
  settled_typed (EraseSector n) = t
  settled_typed (EraseBlock n) = t
  settled_typed EraseArray = t
  settled_typed (ProgramPage n) = t
  settled_typed (ProgramSecurity n) = t
  settled_typed LockSecurity = flags_typed _
  settled_typed (WriteConfiguration i w) = flags_typed _
  settled_typed (AddPermanent v) =
      let low : bit_and v write_locks < 2 ^ 64 = lt_of_le_of_lt (and_le_r v write_locks) (lit< tt) in
      record {
        protection = or_lt 64 r.locks.protection (bit_and v write_locks) t.protection low;
        permanent = or_lt 64 r.locks.permanent (bit_and v write_locks) t.permanent low;
        running = t.running;
        suspended = t.suspended;
      }

  settled_first_typed : (k : ℕ) → TypedRest (settled_first k r)
  settled_first_typed k = go (ltb 0 k)
    where
      go : (x : Bool) → TypedRest (pick x (settled r.works.running r) r)
      go true = settled_typed r.works.running
      go false = t

  short_typed : (s : Short) (sent : List ℕ) (k : ℕ) → TypedRest (at_once s sent k r)
  short_typed Short.Nothing sent k = t
  short_typed Short.EnableReset sent k = flags_typed _
  short_typed Short.Reset sent k = let q = settled_first_typed k in record { protection = q.protection; permanent = q.permanent; running = lit< tt; suspended = lit< tt }
  short_typed Short.ToSqi sent k = flags_typed _
  short_typed Short.ToSpi sent k = flags_typed _
  short_typed Short.SetWel sent k = flags_typed _
  short_typed Short.ClearWel sent k = flags_typed _
  short_typed Short.WriteProtection sent k =
      record {
        protection = or_lt 64 (bit_and (six sent) all_locks) r.locks.permanent (lt_of_le_of_lt (and_le_r (six sent) all_locks) (lit< tt)) t.permanent;
        permanent = t.permanent;
        running = t.running;
        suspended = t.suspended;
      }
  short_typed Short.LockDown sent k = flags_typed _
  short_typed Short.ClearLocks sent k =
      record {
        protection = or_lt 64 (bit_and r.locks.protection read_locks) r.locks.permanent (lt_of_le_of_lt (and_le_r r.locks.protection read_locks) (lit< tt)) t.permanent;
        permanent = t.permanent;
        running = t.running;
        suspended = t.suspended;
      }
  short_typed Short.Suspend sent k = record { protection = t.protection; permanent = t.permanent; running = lit< tt; suspended = t.running }
  short_typed Short.Resume sent k = record { protection = t.protection; permanent = t.permanent; running = t.suspended; suspended = lit< tt }
  short_typed Short.SetBurst sent k = record { protection = t.protection; permanent = t.permanent; running = t.running; suspended = t.suspended }

  act_typed : (k : Kind) (sent : List ℕ) (n : ℕ) → OfBytes sent → TypedRest (act k sent n r)
  act_typed (Kind.Show s) sent n small = t
  act_typed (Kind.Begin l) sent n small = running_typed (work_of l sent) (begun_small l sent small)
  act_typed (Kind.Do s) sent n small = short_typed s sent n

-- ---- every event

either : {c d : Chip} (x : Bool) → Typed c → Typed d → Typed (pick x c d)
either true t u = t
either false t u = u

rested_typed : (r : Rest) → TypedRest r → TypedRest (rested r)
rested_typed r t = record { protection = t.protection; permanent = t.permanent; running = lit< tt; suspended = t.suspended }

cut_typed : (r : Rest) → TypedRest r → TypedRest (after_cut r)
cut_typed r t = record { protection = lit< tt; permanent = t.permanent; running = lit< tt; suspended = lit< tt }

pub new_typed : (ba : Bool) → Typed (new_of ba)
new_typed ba = record { buffer = blank_page; rest = record { protection = lit< tt; permanent = lit< tt; running = lit< tt; suspended = lit< tt } }

-- what an event's frame sends
abbrev pub SentBytes : Event → Type 0
SentBytes (sends f) = OfBytes f.sent
SentBytes completes = Unit {0}
SentBytes (cuts t) = Unit {0}

pub step_typed : (s : State) (e : Event) → SentBytes e → Typed s.chip → Typed (step s e).chip
unfolding step frame frame_chip completion completed_chip_lem power_cut cut_chip_lem
step_typed s (sends f) small t =
    let k = (form_of (opcode f.sent)).kind in
    let n = first (frame_tests s f) in
    let used = flags_typed s.chip.rest t.rest _ in
    either (eqb n 0)
    (record { buffer = after_page k f.sent s.chip.buffer t.buffer; rest = act_typed (with_enable false s.chip.rest) used k f.sent f.circumstances.tear.k small })
    (either (one_of n (1 ∷ 2 ∷ [])) t (record { buffer = t.buffer; rest = used }))
step_typed s completes small t =
    either (eqb (first (completion_tests s)) 0)
    (record { buffer = rested_page s.chip.rest.works.suspended s.chip.buffer t.buffer; rest = rested_typed _ (settled_first_typed s.chip.rest t.rest array_size_lem) })
    t
step_typed s (cuts c) small t =
    either (eqb (first (cut_tests s)) 0)
    (record { buffer = blank_page; rest = cut_typed _ (settled_first_typed s.chip.rest t.rest c.k) })
    t
