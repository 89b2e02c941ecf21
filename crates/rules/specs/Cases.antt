-- How a case is written: a chip, events sent to it, and what is seen after the last of them. The tables are Starred, Sentences and Opcodes.
use Rattle.std.specs.Prelude.{ℕ, ◌+◌, ◌-◌, ◌*◌, ◌≡◌, Bool, true, false, List, [], ◌∷◌, ◌++◌, eqb, ltb, length, get_or, replicate}
use Prim.Native.Char.{code}
use Prim.Native.String.{String}
use Rattle.rules.specs.declared.Flags.{Flags}
use Rattle.rules.specs.declared.Tear.{Tear}
use Rattle.rules.specs.declared.Work.{Work}
use Rattle.rules.specs.declared.Work.TheVariants.{Nothing, EraseSector, EraseBlock, EraseArray, ProgramPage, ProgramSecurity, LockSecurity, WriteConfiguration, AddPermanent}
use Rattle.rules.specs.Words.{num, pick, Each, written}
use Rattle.rules.specs.Texts.{ascii}
use Rattle.rules.specs.Blocks.{array_size_lem, security_size_lem}
use Rattle.rules.specs.Works.{array_range, tear_of}
use Rattle.rules.specs.Bursts.{burst_length}
use Rattle.rules.specs.Commands.{new_of}
use Rattle.rules.specs.Numbers.{State}
use Rattle.rules.specs.Machine.{Outcome, Event, sends, completes, cuts, step, left, run}

-- ---- events as a text: "open, 06, 02 00 01 FE 11 22 33, completion, cut 5 F0, 66, 99 torn 5 F0"
-- A frame is its bytes in hexadecimal, "11*3" for 11 11 11, "empty" for none; "open" is 06, 98. A power cut names k, in decimal, and m; so does a frame behind
-- "torn". Where they are not named they are 0

-- a letter in front of the first part; the separator begins a part of its own
abbrev pub in_front : ℕ → ℕ → List (List ℕ) → List (List ℕ)
in_front separator c [] = []
in_front separator c (w ∷ ws) = pick (eqb c separator) ([] ∷ w ∷ ws) ((c ∷ w) ∷ ws)

-- the parts of a text between separators
abbrev pub split : ℕ → List ℕ → List (List ℕ)
split separator [] = [] ∷ []
split separator (c ∷ cs) = in_front separator c (split separator cs)

abbrev pub filled_only : List (List ℕ) → List (List ℕ)
filled_only [] = []
filled_only ([] ∷ ws) = filled_only ws
filled_only ((c ∷ w) ∷ ws) = (c ∷ w) ∷ filled_only ws

abbrev pub words : List ℕ → List (List ℕ)
words t = filled_only (split (code " ") t)

abbrev pub digit_of : ℕ → ℕ
digit_of c = pick (ltb c (code "A")) (c - code "0") (c - code "A" + 10)

-- a number to a base, its first digits read already
abbrev pub numeral : ℕ → ℕ → List ℕ → ℕ
numeral base n [] = n
numeral base n (c ∷ cs) = numeral base (n * base + digit_of c) cs

-- the bytes of the words "5A" and "5A*3"
abbrev pub bytes_of : List (List ℕ) → List ℕ
bytes_of [] = []
bytes_of ([] ∷ ws) = bytes_of ws
bytes_of ((a ∷ []) ∷ ws) = bytes_of ws
bytes_of ((a ∷ b ∷ []) ∷ ws) = numeral 16 0 (a ∷ b ∷ []) ∷ bytes_of ws
bytes_of ((a ∷ b ∷ star ∷ n) ∷ ws) = replicate (numeral 10 0 n) (numeral 16 0 (a ∷ b ∷ [])) ++ bytes_of ws

-- k and m
abbrev pub tear_in : List (List ℕ) → Tear
tear_in ws = tear_of (numeral 10 0 (get_or ws 0 [])) (numeral 16 0 (get_or ws 1 []))

-- the words in front of "torn", which no other word begins like, and those behind it
abbrev pub until_torn : List (List ℕ) → List (List ℕ)
until_torn [] = []
until_torn (w ∷ ws) = pick (eqb (get_or w 0 0) (code "t")) [] (w ∷ until_torn ws)

abbrev pub behind_torn : List (List ℕ) → List (List ℕ)
behind_torn [] = []
behind_torn (w ∷ ws) = pick (eqb (get_or w 0 0) (code "t")) ws (behind_torn ws)

-- a frame, with sixteen bytes lent for the reply and its marks
abbrev pub send_torn : Tear → List ℕ → Event
send_torn t bytes = sends (record { sent = bytes; reply = written 16 (λ i. 0x5A); marks = written 16 (λ i. 0xA5); circumstances = record { tear = t } })

abbrev pub send : List ℕ → Event
send bytes = send_torn (tear_in []) bytes

-- the events of one part, by the first letters of its first word
abbrev pub events_in : List (List ℕ) → List Event
events_in [] = []
events_in (w ∷ ws) =
    let frame = send_torn (tear_in (behind_torn ws)) (bytes_of (w ∷ until_torn ws)) ∷ [] in
    let cut = cuts (tear_in ws) ∷ [] in
    pick (eqb (get_or w 0 0) (code "o")) (send (0x06 ∷ []) ∷ send (0x98 ∷ []) ∷ [])
    (pick (eqb (get_or w 0 0) (code "e")) (send [] ∷ [])
    (pick (eqb (get_or w 0 0) (code "c")) (pick (eqb (get_or w 1 0) (code "o")) (completes ∷ []) cut)
    frame))

abbrev pub events_in_all : List (List ℕ) → List Event
events_in_all [] = []
events_in_all (t ∷ ts) = events_in (words t) ++ events_in_all ts

abbrev pub events : String → List Event
events t = events_in_all (split (code ",") (ascii t))

-- ---- what is looked at

-- number; byte i of the reply, and its mark; a place of the array, of the Security ID; the first and last place of the running range;
-- the flags; the two registers; the opcode of what runs, and of what is suspended (00: nothing); byte i of the page buffer; the bytes of a burst
pub data Look : Type 0 where
  number : Look
  byte : ℕ → Look
  mark : ℕ → Look
  place : ℕ → Look
  secured : ℕ → Look
  from : Look
  to : Look
  flags : Look
  protected : Look
  permanent : Look
  runs : Look
  aside : Look
  buffered : ℕ → Look
  burst : Look

-- the flags of a record, each a number, to be added up
abbrev pub SQI : ℕ
SQI = 1

abbrev pub WEL : ℕ
WEL = 2

abbrev pub IOC : ℕ
IOC = 4

abbrev pub WPEN : ℕ
WPEN = 8

abbrev pub WPLD : ℕ
WPLD = 16

abbrev pub SEC : ℕ
SEC = 32

abbrev pub ENABLE : ℕ
ENABLE = 64

abbrev pub BA : ℕ
BA = 128

abbrev pub flags_sum : Flags → ℕ
flags_sum f =
    SQI * num f.sqi + WEL * num f.wel + IOC * num f.ioc + WPEN * num f.wpen + WPLD * num f.wpld + SEC * num f.sec
    + ENABLE * num f.enable + BA * num f.ba

-- 32 runs as 02 does
abbrev pub opcode_of : Work → ℕ
opcode_of Nothing = 0x00
opcode_of (EraseSector n) = 0x20
opcode_of (EraseBlock n) = 0xD8
opcode_of EraseArray = 0xC7
opcode_of (ProgramPage n) = 0x02
opcode_of (ProgramSecurity n) = 0xA5
opcode_of LockSecurity = 0x85
opcode_of (WriteConfiguration i w) = 0x01
opcode_of (AddPermanent v) = 0xE8

abbrev pub seen_in : Outcome → Look → ℕ
seen_in o number = o.number
seen_in o (byte i) = o.reply.byte i
seen_in o (mark i) = o.marks.byte i
seen_in o (place a) = o.array.byte a
seen_in o (secured a) = o.security.byte a
seen_in o from = (array_range o.chip.rest.works.running).start
seen_in o to = (array_range o.chip.rest.works.running).start + (array_range o.chip.rest.works.running).size - 1
seen_in o flags = flags_sum o.chip.rest.flags
seen_in o protected = o.chip.rest.locks.protection
seen_in o permanent = o.chip.rest.locks.permanent
seen_in o runs = opcode_of o.chip.rest.works.running
seen_in o aside = opcode_of o.chip.rest.works.suspended
seen_in o (buffered i) = get_or o.chip.buffer i 0
seen_in o burst = burst_length o.chip.rest.burst

pub record Seen : Type 0 where
  pub look : Look
  pub value : ℕ

infixl 90 ◌is◌
abbrev pub ◌is◌ : Look → ℕ → Seen
l is v = record { look = l; value = v }

-- the reply begins with these bytes; its marks with these
abbrev pub in_a_row : (ℕ → Look) → ℕ → List ℕ → List Seen
in_a_row l i [] = []
in_a_row l i (b ∷ bs) = (l i is b) ∷ in_a_row l (i + 1) bs

abbrev pub replies : String → List Seen
replies t = in_a_row byte 0 (bytes_of (words (ascii t)))

abbrev pub marked : String → List Seen
marked t = in_a_row mark 0 (bytes_of (words (ascii t)))

-- what the record holds: its flags, both registers, what runs and what is suspended
abbrev pub leaves : ℕ → ℕ → ℕ → ℕ → ℕ → List Seen
leaves f p q r s = flags is f ∷ protected is p ∷ permanent is q ∷ runs is r ∷ aside is s ∷ []

-- ---- cases

-- the sentence of 01 that it reads, its events, and what is seen after the last
pub record Case : Type 0 where
  pub sentence : String
  pub events : List Event
  pub seen : List Seen

pub record Asked : Type 0 where
  pub sentence : String
  pub events : List Event

infixl 30 ◌on◌
abbrev pub ◌on◌ : String → String → Asked
s on t = record { sentence = s; events = events t }

infixl 20 ◌gives◌
abbrev pub ◌gives◌ : Asked → List Seen → Case
a gives ss = record { sentence = a.sentence; events = a.events; seen = ss }

-- the part that a new chip is: the old one, BA, or each of the two
abbrev pub old : List Bool
old = false ∷ []

abbrev pub ba : List Bool
ba = true ∷ []

abbrev pub either : List Bool
either = false ∷ true ∷ []

-- cases of one part of a paper, on what a new chip is after some events
pub record Section : Type 0 where
  pub parts : List Bool
  pub title : String
  pub start : List Event
  pub cases : List Case

abbrev pub section : List Bool → String → String → List Case → Section
section ps t start cs = record { parts = ps; title = t; start = events start; cases = cs }

-- ---- the statement over a table

-- a chip of a part, new, the array and the Security ID FF
abbrev pub new_state : Bool → State
new_state p = record { chip = new_of p; array = written array_size_lem (λ i. 0xFF); security = written security_size_lem (λ i. 0xFF) }

unfoldable pub state_after : State → List Event → State
state_after s [] = s
state_after s (e ∷ es) = state_after (left (step s e)) es

-- the outcome of the last event of a run
abbrev pub last_of : Outcome → List Outcome → Outcome
last_of before [] = before
last_of before (o ∷ os) = last_of o os

abbrev pub outcome_after : State → List Event → Outcome
outcome_after s es = last_of (step s completes) (run s es)

abbrev pub AllSeen : Outcome → List Seen → Type 0
AllSeen o xs = Each (λ x. seen_in o x.look ≡ x.value) xs

abbrev pub CasesHold : State → List Case → Type 0
CasesHold s cs = Each (λ c. AllSeen (outcome_after s c.events) c.seen) cs

abbrev pub SectionsHold : List Section → Type 0
SectionsHold ts = Each (λ t. Each (λ p. CasesHold (state_after (new_state p) t.start) t.cases) t.parts) ts

-- how many values the cases of each section look at
abbrev pub values_of : List Case → ℕ
values_of [] = 0
values_of (c ∷ cs) = length c.seen + values_of cs

abbrev pub values : List Section → List ℕ
values [] = []
values (t ∷ ts) = values_of t.cases ∷ values ts

-- every case of the table holds of the machine, and no line of it is missing
pub record Holds (ts : List Section) (counts : List ℕ) : Type 0 where
  pub hold : SectionsHold ts
  pub whole : values ts ≡ counts
