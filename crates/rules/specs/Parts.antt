-- 02, W-204, the BA part: what tells the two parts apart, that no event changes the part, and cases of each part beside each other. Proved in proofs/Parts.
use Rattle.std.specs.Prelude.{◌+◌, ◌≡◌, Bool, true, false, ◌&&◌, List, [], ◌∷◌, eqb}
use Rattle.rules.specs.Words.{pick}
use Rattle.rules.specs.Frames.{opcode}
use Rattle.rules.specs.Fields.{chip_of, with_ioc, with_ba}
use Rattle.rules.specs.Commands.{power_up_ioc}
use Rattle.rules.specs.Numbers.{State}
use Rattle.rules.specs.Machine.{Outcome, Event, sends, completes, cuts, step, run}
use Rattle.rules.specs.Promises.{Bench, Returned}
use Rattle.rules.specs.Demands.{Call, Chain, outcomes_of}
use Rattle.rules.specs.Cases.{Section, old, ba, either, section, ◌on◌, ◌gives◌, ◌is◌, number, byte, mark, place, flags, runs, aside, burst, replies, leaves, IOC, WEL, WPEN, WPLD, SEC, ENABLE, SQI, BA, Holds}

-- ---- "IOC is 1 after power-up and after reset", and 0 on the old part: nothing else tells them apart

-- the same bench, its chip of a part
abbrev pub of_part : Bool → State → State
of_part p s = record { chip = chip_of s.chip.buffer (with_ba p s.chip.rest); array = s.array; security = s.security }

-- a done power cut, a done 99
abbrev pub powers_up : State → Event → Bool
powers_up s (sends f) = eqb (step s (sends f)).number 0 && eqb (opcode f.sent) 0x99
powers_up s completes = false
powers_up s (cuts t) = eqb (step s (cuts t)).number 0

-- the same outcome, of a part, where IOC is its power-up value or what it was
abbrev pub outcome_of_part : Bool → Bool → Outcome → Outcome
outcome_of_part p up o =
    record {
      number = o.number;
      chip = chip_of o.chip.buffer (with_ba p (with_ioc (pick up (power_up_ioc p) o.chip.rest.flags.ioc) o.chip.rest));
      array = o.array;
      security = o.security;
      reply = o.reply;
      marks = o.marks;
    }

-- whatever part a chip is, of a part p it would have given and left the same, but for the part and, after power-up and after reset, IOC
abbrev pub PartTells : Type 0
PartTells = (p : Bool) (s : State) (e : Event) → step (of_part p s) e ≡ outcome_of_part p (powers_up s e) (step s e)

abbrev pub IocPowersUp : Type 0
IocPowersUp = (s : State) (e : Event) → powers_up s e ≡ true → (step s e).chip.rest.flags.ioc ≡ power_up_ioc s.chip.rest.flags.ba

-- ---- "The chip record keeps the part"

abbrev pub PartStays : Type 0
PartStays = (s : State) (e : Event) → (step s e).chip.rest.flags.ba ≡ s.chip.rest.flags.ba

-- after every event of a run
abbrev pub AllOfPart : Bool → List Outcome → Type 0
AllOfPart p [] = Unit {0}
AllOfPart p (o ∷ os) = (o.chip.rest.flags.ba ≡ p) × AllOfPart p os

abbrev pub PartKept : Type 0
PartKept = (s : State) (es : List Event) → AllOfPart s.chip.rest.flags.ba (run s es)

-- the same of code: outcomes that meet the public guarantees, one behind the other
abbrev pub PartKeptOfCode : Type 0
PartKeptOfCode = (b : Bench) (es : List Call) (gs : List Returned) → Chain b es gs → AllOfPart b.chip.rest.flags.ba (outcomes_of gs)

-- ---- cases: what 01 says of IOC 0 at power-up is said of the old part, and beside it stands BA

unfoldable pub parts : List Section
parts =
    section ba "Make that the default: a new chip" "" (
    ("IOC is 1 after power-up" on "00" gives leaves (IOC + BA) 0x5555_FFFF_FFFF 0 0x00 0x00)
    ∷ ("a new BA chip's 35 reads 0A" on "35" gives (byte 0 is 0x0A ∷ byte 1 is 0x0A ∷ byte 15 is 0x0A ∷ []))
    ∷ ("in SQI too" on "38, 35 00" gives (byte 0 is 0x0A ∷ []))
    ∷ ("6B is done" on "6B 00 00 00 00" gives (number is 0 ∷ byte 0 is 0xFF ∷ mark 0 is 1 ∷ []))
    ∷ ("EC is done" on "EC 00 00 00 00 00 00" gives (number is 0 ∷ byte 0 is 0xFF ∷ mark 0 is 1 ∷ []))
    ∷ ("32 needs WEL" on "32 00 10 00 5A" gives (number is 9 ∷ []))
    ∷ ("and no write lock" on "06, 32 00 10 00 5A" gives (number is 11 ∷ []))
    ∷ ("open, 32 is done" on "open, 06, 32 00 10 00 5A" gives (number is 0 ∷ runs is 0x02 ∷ flags is (WEL + IOC + BA) ∷ []))
    ∷ ("open, 32 is done" on "open, 06, 32 00 10 00 5A, completion" gives (number is 0 ∷ place 0x1000 is 0x5A ∷ flags is (IOC + BA) ∷ []))
    ∷ [])
    ∷ section old "A bench call that names the old part still gets 0" "" (
    ("IOC is 0 at power-up" on "00" gives leaves 0 0x5555_FFFF_FFFF 0 0x00 0x00)
    ∷ ("35 gives 08" on "35" gives (byte 0 is 0x08 ∷ byte 1 is 0x08 ∷ byte 15 is 0x08 ∷ []))
    ∷ ("in SQI too" on "38, 35 00" gives (byte 0 is 0x08 ∷ []))
    ∷ ("a new chip refuses 6B with 7" on "6B 00 00 00 00" gives (number is 7 ∷ byte 0 is 0xFF ∷ mark 0 is 0 ∷ []))
    ∷ ("EC with 7" on "EC 00 00 00 00 00 00" gives (number is 7 ∷ byte 0 is 0xFF ∷ mark 0 is 0 ∷ []))
    ∷ ("32 with 7" on "32 00 10 00 5A" gives (number is 7 ∷ []))
    ∷ ("32 with 7" on "06, 32 00 10 00 5A" gives (number is 7 ∷ []))
    ∷ ("open too" on "open, 06, 32 00 10 00 5A" gives (number is 7 ∷ runs is 0x00 ∷ flags is WEL ∷ []))
    ∷ [])
    ∷ section ba "IOC is 1 after reset, WPEN stays" "06, 01 00 80, completion" (
    ("01 sets IOC to 0 on BA too" on "35" gives (byte 0 is 0x88 ∷ flags is (WPEN + BA) ∷ []))
    ∷ ("after reset" on "66, 99" gives (number is 0 ∷ flags is (IOC + WPEN + BA) ∷ []))
    ∷ ("after reset" on "66, 99, 35" gives (byte 0 is 0x8A ∷ []))
    ∷ ("after reset, from SQI" on "38, 66, 99, 35" gives (byte 0 is 0x8A ∷ []))
    ∷ ("a reset that is refused leaves IOC" on "99" gives (number is 6 ∷ flags is (WPEN + BA) ∷ []))
    ∷ ("01 dropped does not act" on "06, 01 00 02, 66, 99" gives (flags is (IOC + WPEN + BA) ∷ runs is 0x00 ∷ []))
    ∷ ("01 dropped does not act" on "06, 01 00 00, 66, 99" gives (flags is (IOC + WPEN + BA) ∷ runs is 0x00 ∷ []))
    ∷ [])
    ∷ section old "IOC at its power-up value after reset, WPEN stays" "06, 01 00 82, completion" (
    ("01 sets IOC to 1" on "35" gives (byte 0 is 0x8A ∷ flags is (IOC + WPEN) ∷ []))
    ∷ ("after reset" on "66, 99" gives (number is 0 ∷ flags is WPEN ∷ []))
    ∷ ("after reset" on "66, 99, 35" gives (byte 0 is 0x88 ∷ []))
    ∷ ("after reset, from SQI" on "38, 66, 99, 35" gives (byte 0 is 0x88 ∷ []))
    ∷ ("a reset that is refused leaves IOC" on "99" gives (number is 6 ∷ flags is (IOC + WPEN) ∷ []))
    ∷ ("01 dropped does not act" on "06, 01 00 02, 66, 99" gives (flags is WPEN ∷ runs is 0x00 ∷ []))
    ∷ ("where a BA has 8A: reset tells apart what differs in the part alone" on "06, 01 00 80, completion, 66, 99, 35" gives (byte 0 is 0x88 ∷ []))
    ∷ [])
    ∷ section ba "IOC is 1 after a power cut; WPEN is 01's if k is 1 or more" "06" (
    ("01 in flight, k 0" on "01 00 80, cut 0" gives (number is 0 ∷ flags is (IOC + BA) ∷ runs is 0x00 ∷ []))
    ∷ ("01 in flight, k 1" on "01 00 80, cut 1" gives (number is 0 ∷ flags is (IOC + WPEN + BA) ∷ runs is 0x00 ∷ []))
    ∷ ("01 in flight, k 1" on "01 00 00, cut 1" gives (flags is (IOC + BA) ∷ []))
    ∷ ("01 in flight, k beyond" on "01 00 80, cut 9, 35" gives (byte 0 is 0x8A ∷ []))
    ∷ ("after 01" on "01 00 00, completion, cut 0" gives (flags is (IOC + BA) ∷ []))
    ∷ ("after 01" on "01 00 80, completion, 35" gives (byte 0 is 0x88 ∷ []))
    ∷ ("after 01" on "01 00 80, completion, cut 0, 35" gives (byte 0 is 0x8A ∷ []))
    ∷ ("WPEN 1, then 01 in flight, k 0" on "01 00 80, completion, 06, 01 00 00, cut 0" gives (flags is (IOC + WPEN + BA) ∷ []))
    ∷ ("WPEN 1, then 01 in flight, k 1" on "01 00 80, completion, 06, 01 00 00, cut 1" gives (flags is (IOC + BA) ∷ []))
    ∷ ("other work" on "85, cut 1" gives (flags is (IOC + SEC + BA) ∷ []))
    ∷ [])
    ∷ section old "IOC is 0 after a power cut; WPEN is 01's if k is 1 or more" "06" (
    ("01 in flight, k 0" on "01 00 82, cut 0" gives (number is 0 ∷ flags is 0 ∷ runs is 0x00 ∷ []))
    ∷ ("01 in flight, k 1" on "01 00 82, cut 1" gives (number is 0 ∷ flags is WPEN ∷ runs is 0x00 ∷ []))
    ∷ ("01 in flight, k 1" on "01 00 02, cut 1" gives (flags is 0 ∷ []))
    ∷ ("01 in flight, k beyond" on "01 00 82, cut 9, 35" gives (byte 0 is 0x88 ∷ []))
    ∷ ("after 01" on "01 00 02, completion, cut 0" gives (flags is 0 ∷ []))
    ∷ ("after 01" on "01 00 82, completion, 35" gives (byte 0 is 0x8A ∷ []))
    ∷ ("after 01" on "01 00 82, completion, cut 0, 35" gives (byte 0 is 0x88 ∷ []))
    ∷ ("WPEN 1, then 01 in flight, k 0" on "01 00 82, completion, 06, 01 00 02, cut 0" gives (flags is WPEN ∷ []))
    ∷ ("WPEN 1, then 01 in flight, k 1" on "01 00 82, completion, 06, 01 00 02, cut 1" gives (flags is 0 ∷ []))
    ∷ [])
    ∷ section ba "The chip record keeps the part" "open, 06" (
    ("01" on "01 00 00, completion" gives (flags is BA ∷ []))
    ∷ ("01" on "01 FF FF, completion" gives (flags is (IOC + WPEN + BA) ∷ []))
    ∷ ("85" on "85, completion" gives (flags is (IOC + SEC + BA) ∷ []))
    ∷ ("E8" on "E8 FF FF FF FF FF FF, completion" gives (flags is (IOC + BA) ∷ []))
    ∷ ("C7" on "C7, completion" gives (flags is (IOC + BA) ∷ []))
    ∷ ("20, B0" on "20 00 10 00, B0" gives (flags is (WEL + IOC + BA) ∷ aside is 0x20 ∷ []))
    ∷ ("20, B0, 30" on "20 00 10 00, B0, 30" gives (flags is (WEL + IOC + BA) ∷ runs is 0x20 ∷ []))
    ∷ ("42" on "42 FF FF FF FF FF FF" gives (flags is (IOC + BA) ∷ []))
    ∷ ("8D" on "8D" gives (flags is (IOC + WPLD + BA) ∷ []))
    ∷ ("38" on "38" gives (flags is (SQI + WEL + IOC + BA) ∷ []))
    ∷ ("FF" on "38, FF" gives (flags is (WEL + IOC + BA) ∷ []))
    ∷ ("66" on "66" gives (flags is (WEL + IOC + ENABLE + BA) ∷ []))
    ∷ ("C0" on "C0 03" gives (flags is (WEL + IOC + BA) ∷ burst is 64 ∷ []))
    ∷ ("an empty frame" on "empty" gives (number is 2 ∷ flags is (WEL + IOC + BA) ∷ []))
    ∷ [])
    -- 002 prints one row for both
    ∷ section either "The identity bytes are those of either part" "" (
    ("9F" on "9F" gives replies "BF 26 51 BF")
    ∷ ("AF" on "38, AF 00" gives replies "BF 26 51 BF")
    ∷ [])
    ∷ []

-- with how many values the cases of each section look at
abbrev pub PartsHold : Type 0
PartsHold = Holds parts (23 ∷ 20 ∷ 12 ∷ 11 ∷ 14 ∷ 13 ∷ 18 ∷ 8 ∷ [])
