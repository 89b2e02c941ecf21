-- 01, Long and short; 42, 98, E8; Suspension; Reset; power-up; 02, W-201, C0; W-204, the part; W-205, what 85, 01 and E8 do at a reset: the record after a command, and after work ends.
use Rattle.std.specs.Prelude.{ℕ, ◌/◌, Bool, true, false, List, ltb}
use Rattle.std.specs.Int.Bits.{bit_and, bit_or}
use Rattle.rules.specs.declared.Burst.{Burst}
use Rattle.rules.specs.declared.Chip.{Chip}
use Rattle.rules.specs.declared.Rest.{Rest}
use Rattle.rules.specs.declared.Short.{Short}
use Rattle.rules.specs.declared.Work.{Work}
use Rattle.rules.specs.declared.Long.{Long}
use Rattle.rules.specs.declared.Kind.{Kind}
use Rattle.rules.specs.Words.{bit, pick}
use Rattle.rules.specs.Blocks.{block_of, write_locks, read_locks, all_locks, power_up_locks}
use Rattle.rules.specs.Works.{is_program}
use Rattle.rules.specs.Frames.{sent_byte, address, security_address, six}
use Rattle.rules.specs.Bursts.{burst_of}
use Rattle.rules.specs.Fields.{locks_of, works_of, rest_of, chip_of, no_flags, with_protection, with_permanent, with_running, with_suspended, with_sqi, with_wel, with_ioc, with_wpen, with_wpld, with_sec, with_enable, with_ba, with_burst}
use Rattle.rules.specs.Programs.{blank, page_buffer, security_buffer}

-- ---- power-up and reset

-- by the part: 1 of a BA, 0 of the old one
abbrev pub power_up_ioc : Bool → Bool
power_up_ioc ba = ba

abbrev pub power_up_burst : Burst
power_up_burst = Burst.Eight

-- the power-up state: idle, nothing suspended, every flag 0 but for IOC, the burst 8; the part, SEC, WPEN and the permanent register are what they were
abbrev pub powered_up : Bool → Bool → Bool → ℕ → Rest
powered_up ba sec wpen permanent =
    with_ba ba (with_sec sec (with_wpen wpen (with_ioc (power_up_ioc ba) (rest_of (locks_of power_up_locks permanent) (works_of Work.Nothing Work.Nothing) no_flags power_up_burst))))

-- a new chip of a part
abbrev pub new_of : Bool → Chip
new_of ba = chip_of blank (powered_up ba false false 0)

-- "Make that the default. A bench call that names the old part still gets 0."
abbrev pub new_chip : Chip
new_chip = new_of true

abbrev pub new_old_chip : Chip
new_old_chip = new_of false

-- running and suspended work dropped; the part, WPLD, SEC, WPEN and both protection registers stay
abbrev pub after_reset : Rest → Rest
after_reset r = with_running Work.Nothing (with_suspended Work.Nothing (with_sqi false (with_wel false (with_ioc (power_up_ioc r.flags.ba) (with_burst power_up_burst r)))))

-- ---- long commands

-- the work that a long command starts
abbrev pub work_of : Long → List ℕ → Work
work_of Long.Sector sent = Work.EraseSector (address sent / 4096)
work_of Long.Block sent = Work.EraseBlock (block_of (address sent))
work_of Long.Array sent = Work.EraseArray
work_of Long.Page sent = Work.ProgramPage (address sent / 256)
work_of Long.SecurityPage sent = Work.ProgramSecurity (security_address sent / 256)
work_of Long.SecurityLock sent = Work.LockSecurity
work_of Long.Configuration sent = Work.WriteConfiguration (bit 1 (sent_byte sent 2)) (bit 7 (sent_byte sent 2))
work_of Long.Permanent sent = Work.AddPermanent (six sent)

-- the buffer that it starts with
abbrev pub buffer_of : Long → List ℕ → List ℕ → List ℕ
buffer_of Long.Sector sent b = b
buffer_of Long.Block sent b = b
buffer_of Long.Array sent b = b
buffer_of Long.Page sent b = page_buffer sent
buffer_of Long.SecurityPage sent b = security_buffer sent
buffer_of Long.SecurityLock sent b = b
buffer_of Long.Configuration sent b = b
buffer_of Long.Permanent sent b = b

-- ---- work that ends or is stopped

-- the registers that finished work sets
abbrev pub settled : Work → Rest → Rest
settled Work.Nothing r = r
settled (Work.EraseSector n) r = r
settled (Work.EraseBlock n) r = r
settled Work.EraseArray r = r
settled (Work.ProgramPage n) r = r
settled (Work.ProgramSecurity n) r = r
settled Work.LockSecurity r = with_sec true r
settled (Work.WriteConfiguration i w) r = with_ioc i (with_wpen w r)
settled (Work.AddPermanent v) r =
    with_protection (bit_or r.locks.protection (bit_and v write_locks)) (with_permanent (bit_or r.locks.permanent (bit_and v write_locks)) r)

-- the registers once the first k bytes are finished: 85, 01 and E8 act fully if k is 1 or more, else not
abbrev pub settled_first : ℕ → Rest → Rest
settled_first k r = pick (ltb 0 k) (settled r.works.running r) r

-- ---- the record after a done frame, whose enable is used up; it carries k, of which only a reset makes use

abbrev pub at_once : Short → List ℕ → ℕ → Rest → Rest
at_once Short.Nothing sent k r = r
at_once Short.EnableReset sent k r = with_enable true r
at_once Short.Reset sent k r = after_reset (settled_first k r)
at_once Short.ToSqi sent k r = with_sqi true r
at_once Short.ToSpi sent k r = with_sqi false r
at_once Short.SetWel sent k r = with_wel true r
at_once Short.ClearWel sent k r = with_wel false r
at_once Short.WriteProtection sent k r = with_wel false (with_protection (bit_or (bit_and (six sent) all_locks) r.locks.permanent) r)
at_once Short.LockDown sent k r = with_wel false (with_wpld true r)
at_once Short.ClearLocks sent k r = with_wel false (with_protection (bit_or (bit_and r.locks.protection read_locks) r.locks.permanent) r)
at_once Short.Suspend sent k r = with_suspended r.works.running (with_running Work.Nothing r)
at_once Short.Resume sent k r = with_running r.works.suspended (with_suspended Work.Nothing r)
at_once Short.SetBurst sent k r = with_burst (burst_of (sent_byte sent 1)) r

abbrev pub act : Kind → List ℕ → ℕ → Rest → Rest
act (Kind.Show s) sent k r = r
act (Kind.Begin l) sent k r = with_running (work_of l sent) r
act (Kind.Do s) sent k r = at_once s sent k r

-- its buffer: a reset drops it with the work
abbrev pub buffer_at_once : Short → List ℕ → List ℕ
buffer_at_once Short.Nothing b = b
buffer_at_once Short.EnableReset b = b
buffer_at_once Short.Reset b = blank
buffer_at_once Short.ToSqi b = b
buffer_at_once Short.ToSpi b = b
buffer_at_once Short.SetWel b = b
buffer_at_once Short.ClearWel b = b
buffer_at_once Short.WriteProtection b = b
buffer_at_once Short.LockDown b = b
buffer_at_once Short.ClearLocks b = b
buffer_at_once Short.Suspend b = b
buffer_at_once Short.Resume b = b
buffer_at_once Short.SetBurst b = b

abbrev pub buffer_after : Kind → List ℕ → List ℕ → List ℕ
buffer_after (Kind.Show s) sent b = b
buffer_after (Kind.Begin l) sent b = buffer_of l sent b
buffer_after (Kind.Do s) sent b = buffer_at_once s b

-- ---- the record after a completion and after a power cut

-- completion: BUSY and WEL 0
abbrev pub rested : Rest → Rest
rested r = with_running Work.Nothing (with_wel false r)

-- the buffer stays only for a suspended program
abbrev pub buffer_rested : Work → List ℕ → List ℕ
buffer_rested suspended b = pick (is_program suspended) b blank

-- power-up after a cut
abbrev pub after_cut : Rest → Rest
after_cut r = powered_up r.flags.ba r.flags.sec r.flags.wpen r.locks.permanent
