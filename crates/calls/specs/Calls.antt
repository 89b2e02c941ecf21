-- The calls: store and lookup on what the bench lends, and the one read on a copy of its record.
use Rattle.std.specs.Prelude.{ℕ, min, ◌≡◌, List, [], ◌∷◌, ◌++◌, length, drop, set, replicate}
use Rattle.rules.specs.Words.{lent}
use Rattle.stations.specs.declared.StoreRecord.{StoreRecord}
use Rattle.stations.specs.Calls.{list_size}
use Rattle.stations.specs.Promises.{Desk, desk_of, StorePromise, LookupPromise}
use Rattle.script.specs.declared.Line.{Line}
use Rattle.grammar.specs.Slots as slots
use Rattle.grammar.specs.declared.Verb.{Verb}
use Rattle.standing.specs.declared.Bench.{Bench}
use Rattle.chip.specs.declared.events.Event.{Event}
use Rattle.standing.specs.Benches.{front}
use Rattle.lending.specs.Lending.{over, outcome}

-- ---- what a call is lent, and what it leaves

-- the record: the number and the polls of an earlier call are not looked at
abbrev pub opened : Bench → StoreRecord
opened b = record { chip = b.chip; number = 0; polls = 0 }

-- as much of the memories as is lent, and of reply and marks as much as the list has
abbrev pub lent_desk : Bench → List ℕ → List ℕ → List ℕ → List ℕ → Desk
lent_desk b array security reply marks = desk_of (front b.array array) (front b.security security) (front list_size reply) (front list_size marks)

-- what stands behind it stays
pub record Left (b : Bench) (array security reply marks : List ℕ) (d : Desk) (array' security' reply' marks' : List ℕ) : Type 0 where
  pub array_is : array' ≡ d.array ++ drop (min b.array (length array)) array
  pub security_is : security' ≡ d.security ++ drop (min b.security (length security)) security
  pub reply_is : reply' ≡ d.reply ++ drop (min list_size (length reply)) reply
  pub marks_are : marks' ≡ d.marks ++ drop (min list_size (length marks)) marks

pub record Stored (b : Bench) (n : ℕ) (bytes : List ℕ) (allowance : ℕ) (list array security reply marks : List ℕ) (r : StoreRecord) (array' security' reply' marks' : List ℕ) : Type 0 where
  pub desk : Desk
  pub promise : StorePromise (opened b) (lent_desk b array security reply marks) n bytes allowance list r desk
  pub left : Left b array security reply marks desk array' security' reply' marks'

pub record Found (b : Bench) (n : ℕ) (buffer array security reply marks : List ℕ) (r : StoreRecord) (buffer' array' security' reply' marks' : List ℕ) : Type 0 where
  pub desk : Desk
  pub promise : LookupPromise (opened b) (lent_desk b array security reply marks) n buffer r desk buffer'
  pub left : Left b array security reply marks desk array' security' reply' marks'

-- ---- the one read, as the line 03 01 00 00 > 65536 makes it: the bench's chip and its memories stay as they are

abbrev pub read_bytes : List ℕ
read_bytes = 0x03 ∷ 0x01 ∷ 0x00 ∷ 0x00 ∷ []

abbrev pub read_line : Line
read_line =
    record {
      verb = Verb.Frame;
      slots = set (replicate 24 0) slots.wanted list_size;
      sent = 4;
      expected = 0;
      remark = 0;
      place = 0;
      word = replicate 24 0;
      length = 0;
      column = 0;
    }

pub record Shown (b : Bench) (array security reply marks : List ℕ) (number : ℕ) (array' security' reply' marks' : List ℕ) : Type 0 where
  pub number_is : number ≡ (outcome Event.Frame b read_line array security read_bytes reply marks).number
  pub reply_is : lent reply' ≡ over (outcome Event.Frame b read_line array security read_bytes reply marks).reply reply
  pub marks_are : lent marks' ≡ over (outcome Event.Frame b read_line array security read_bytes reply marks).marks marks
  pub array_is : array' ≡ array
  pub security_is : security' ≡ security
