-- The chip record from its parts, and with one field set: antt has no record update. The flags as one number.
use Rattle.std.specs.Prelude.{ℕ, ◌+◌, ◌*◌, Bool, false, List}
use Rattle.rules.specs.declared.Burst.{Burst}
use Rattle.rules.specs.declared.Chip.{Chip}
use Rattle.rules.specs.declared.Flags.{Flags}
use Rattle.rules.specs.declared.Locks.{Locks}
use Rattle.rules.specs.declared.Rest.{Rest}
use Rattle.rules.specs.declared.Work.{Work}
use Rattle.rules.specs.declared.Works.{Works}
use Rattle.rules.specs.Words.{bit, num}

-- ---- from the parts, in their order

abbrev pub locks_of : ℕ → ℕ → Locks
locks_of p q = record { protection = p; permanent = q }

abbrev pub works_of : Work → Work → Works
works_of r s = record { running = r; suspended = s }

abbrev pub flags_of : Bool → Bool → Bool → Bool → Bool → Bool → Bool → Bool → Flags
flags_of sqi wel ioc wpen wpld sec enable ba = record { sqi = sqi; wel = wel; ioc = ioc; wpen = wpen; wpld = wpld; sec = sec; enable = enable; ba = ba }

abbrev pub no_flags : Flags
no_flags = flags_of false false false false false false false false

abbrev pub rest_of : Locks → Works → Flags → Burst → Rest
rest_of l w f b = record { locks = l; works = w; flags = f; burst = b }

abbrev pub chip_of : List ℕ → Rest → Chip
chip_of b r = record { buffer = b; rest = r }

-- ---- with one field set

abbrev pub with_protection : ℕ → Rest → Rest
with_protection p r = rest_of (locks_of p r.locks.permanent) r.works r.flags r.burst

abbrev pub with_permanent : ℕ → Rest → Rest
with_permanent q r = rest_of (locks_of r.locks.protection q) r.works r.flags r.burst

abbrev pub with_running : Work → Rest → Rest
with_running w r = rest_of r.locks (works_of w r.works.suspended) r.flags r.burst

abbrev pub with_suspended : Work → Rest → Rest
with_suspended w r = rest_of r.locks (works_of r.works.running w) r.flags r.burst

abbrev pub with_flags : Flags → Rest → Rest
with_flags f r = rest_of r.locks r.works f r.burst

abbrev pub with_sqi : Bool → Rest → Rest
with_sqi b r = with_flags (flags_of b r.flags.wel r.flags.ioc r.flags.wpen r.flags.wpld r.flags.sec r.flags.enable r.flags.ba) r

abbrev pub with_wel : Bool → Rest → Rest
with_wel b r = with_flags (flags_of r.flags.sqi b r.flags.ioc r.flags.wpen r.flags.wpld r.flags.sec r.flags.enable r.flags.ba) r

abbrev pub with_ioc : Bool → Rest → Rest
with_ioc b r = with_flags (flags_of r.flags.sqi r.flags.wel b r.flags.wpen r.flags.wpld r.flags.sec r.flags.enable r.flags.ba) r

abbrev pub with_wpen : Bool → Rest → Rest
with_wpen b r = with_flags (flags_of r.flags.sqi r.flags.wel r.flags.ioc b r.flags.wpld r.flags.sec r.flags.enable r.flags.ba) r

abbrev pub with_wpld : Bool → Rest → Rest
with_wpld b r = with_flags (flags_of r.flags.sqi r.flags.wel r.flags.ioc r.flags.wpen b r.flags.sec r.flags.enable r.flags.ba) r

abbrev pub with_sec : Bool → Rest → Rest
with_sec b r = with_flags (flags_of r.flags.sqi r.flags.wel r.flags.ioc r.flags.wpen r.flags.wpld b r.flags.enable r.flags.ba) r

abbrev pub with_enable : Bool → Rest → Rest
with_enable b r = with_flags (flags_of r.flags.sqi r.flags.wel r.flags.ioc r.flags.wpen r.flags.wpld r.flags.sec b r.flags.ba) r

abbrev pub with_ba : Bool → Rest → Rest
with_ba b r = with_flags (flags_of r.flags.sqi r.flags.wel r.flags.ioc r.flags.wpen r.flags.wpld r.flags.sec r.flags.enable b) r

abbrev pub with_burst : Burst → Rest → Rest
with_burst b r = rest_of r.locks r.works r.flags b

-- ---- the flags as bits, from bit 0 on: SQI, WEL, IOC, WPEN, WPLD, SEC, whether a 99 is taken next, and the part, 1 for BA

abbrev pub flags_number : Flags → ℕ
flags_number f =
    num f.sqi + 2 * num f.wel + 4 * num f.ioc + 8 * num f.wpen + 16 * num f.wpld + 32 * num f.sec + 64 * num f.enable
    + 128 * num f.ba

abbrev pub flags_in : ℕ → Flags
flags_in x = flags_of (bit 0 x) (bit 1 x) (bit 2 x) (bit 3 x) (bit 4 x) (bit 5 x) (bit 6 x) (bit 7 x)
