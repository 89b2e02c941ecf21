-- A line with a call: what it asks for, what becomes of the bench, and what is told of it.
use Rattle.std.specs.Prelude.{ℕ, ◌≡◌, Bool, false, not, List, [], eqb, length, replicate, Option, Some, None}
use Rattle.rules.specs.declared.Chip.{Chip}
use Rattle.rules.specs.Words.{pick}
use Rattle.stations.specs.declared.StoreRecord.{StoreRecord}
use Rattle.stations.specs.Slots.{slot_count, data_size, shown_in}
use Rattle.stations.specs.Calls.{list_size}
use Rattle.census.specs.declared.Counts.{Counts}
use Rattle.census.specs.Census.{counts_below, cut_after}
use Rattle.script.specs.declared.Line.{Line}
use Rattle.script.specs.Lines.{line_of}
use Rattle.expecting.specs.declared.Expected.{Expected}
use Rattle.expecting.specs.declared.Verdict.{Verdict}
use Rattle.expecting.specs.Expectations.{Judged, unmet}
use Rattle.tallies.specs.Tallies.{after_event}
use Rattle.standing.specs.declared.Call.{Call}
use Rattle.standing.specs.declared.Deed.{Deed}
use Rattle.standing.specs.declared.Playing.{Playing}
use Rattle.standing.specs.Deeds.{deed_of}
use Rattle.standing.specs.Benches.{front, bench_of, unjudged}
use Rattle.standing.specs.Expected.{number_expected, expectation}
use Rattle.calling.specs.declared.Account.{Account}
use Rattle.calling.specs.declared.Called.{Called}
use Rattle.calls.specs.Lists.{station_of, data_of, allowance_of, list_of, writes_ended}
use Rattle.calls.specs.Calls.{Stored, Found, Shown}

-- ---- what a line asks for

abbrev pub asks : Deed → Option Call
asks Deed.Nothing = None
asks (Deed.Event e) = None
asks (Deed.Setting s) = None
asks (Deed.Question q) = None
asks (Deed.Post f) = None
asks (Deed.Call k) = Some k
asks Deed.Wrong = None

-- the line that ended last
abbrev pub errand_of : Playing → Option Call
errand_of p = pick (not p.reading.ended) None (asks (deed_of (line_of p.reading).verb))

-- ---- what it comes to

abbrev pub no_counts : Counts
no_counts = record { empty = 0; live = 0; passed = 0; dead = 0 }

abbrev pub account_of : ℕ → ℕ → List ℕ → Verdict → Counts → ℕ → Account
account_of polls writes bytes v counts cut = record { polls = polls; writes = writes; bytes = bytes; verdict = v; counts = counts; cut = cut }

abbrev pub no_bytes : List ℕ
no_bytes = replicate data_size 0

abbrev pub no_account : Account
no_account = account_of 0 0 no_bytes unjudged no_counts 0

abbrev pub called_of : Playing → Account → Called
called_of p a = record { playing = p; account = a }

-- the record that a call gave back
abbrev pub came : Called → StoreRecord
came r = record { chip = r.playing.bench.chip; number = r.playing.number; polls = r.account.polls }

-- that the number is not as expected is told as for an event; of what was found other rows tell
abbrev pub number_of : Verdict → Verdict
number_of v = record { number = v.number; strict = v.strict; length = false; kept = false; place = 0; compared = 0 }

-- store and find are events
abbrev pub ended : Playing → ℕ → Chip → Verdict → Playing
ended p number chip v =
    record {
      bench = bench_of chip (after_event p.bench.tally number (unmet v)) p.bench.line p.bench.array p.bench.security p.bench.full p.bench.strict;
      reading = p.reading;
      before = p.before;
      number = number;
      verdict = number_of v;
      held = p.held;
    }

-- ---- store

abbrev pub StoreJudged : Playing → Line → ℕ → Verdict → Type 0
StoreJudged p l number v =
    Judged (record { number = number_expected l.slots; reply = Expected.Nothing }) p.bench.strict number [] [] [] [] v

pub record StorePlayed (p : Playing) (l : Line) (array security sent expected known reply marks : List ℕ) (r : Called) (array' security' reply' marks' : List ℕ) : Type 0 where
  pub stored : Stored p.bench (station_of l.slots) (data_of l.slots sent) (allowance_of l.slots) (list_of l.slots expected known) array security reply marks (came r) array' security' reply' marks'
  pub judged : StoreJudged p l r.playing.number r.account.verdict
  pub is : r ≡ called_of (ended p r.playing.number r.playing.bench.chip r.account.verdict)
      (account_of r.account.polls (writes_ended (allowance_of l.slots) (list_of l.slots expected known)) no_bytes r.account.verdict no_counts 0)

-- ---- find: what is expected is compared with what was found, which a refused call has not

abbrev pub found_bytes : ℕ → List ℕ → List ℕ
found_bytes number bytes = front (pick (eqb number 0) data_size 0) bytes

abbrev pub FindJudged : Playing → Line → List ℕ → List ℕ → ℕ → List ℕ → Verdict → Type 0
FindJudged p l expected known number bytes v =
    Judged (expectation l.slots (length expected)) p.bench.strict number
    (found_bytes number bytes) (found_bytes number (replicate data_size 1)) expected known v

pub record FindPlayed (p : Playing) (l : Line) (array security expected known reply marks : List ℕ) (r : Called) (array' security' reply' marks' : List ℕ) : Type 0 where
  pub found : Found p.bench (station_of l.slots) no_bytes array security reply marks (came r) r.account.bytes array' security' reply' marks'
  pub judged : FindJudged p l expected known r.playing.number r.account.bytes r.account.verdict
  pub is : r ≡ called_of (ended p r.playing.number r.playing.bench.chip r.account.verdict)
      (account_of r.account.polls 0 r.account.bytes r.account.verdict no_counts 0)

-- ---- stations: no event

abbrev pub answered : Playing → ℕ → Playing
answered p number = record { bench = p.bench; reading = p.reading; before = p.before; number = number; verdict = p.verdict; held = p.held }

-- 32 stations are shown, or all
abbrev pub account_shown : Bool → List ℕ → List ℕ → Account
account_shown full reply marks =
    account_of 0 0 no_bytes unjudged (counts_below (shown_in reply marks) slot_count) (pick full slot_count (cut_after (shown_in reply marks) 32))

pub record StationsPlayed (p : Playing) (array security reply marks : List ℕ) (r : Called) (array' security' reply' marks' : List ℕ) : Type 0 where
  pub shown : Shown p.bench array security reply marks r.playing.number array' security' reply' marks'
  pub is : r ≡ called_of (answered p r.playing.number) (pick (eqb r.playing.number 0) (account_shown p.bench.full (front list_size reply') (front list_size marks')) no_account)

-- ---- by the line

pub record Untouched (array security reply marks array' security' reply' marks' : List ℕ) : Type 0 where
  pub array_is : array' ≡ array
  pub security_is : security' ≡ security
  pub reply_is : reply' ≡ reply
  pub marks_are : marks' ≡ marks

abbrev pub PlayedCall : Call → Playing → Line → List ℕ → List ℕ → List ℕ → List ℕ → List ℕ → List ℕ → List ℕ → Called → List ℕ → List ℕ → List ℕ → List ℕ → Type 0
PlayedCall Call.Store p l array security sent expected known reply marks r array' security' reply' marks' =
    StorePlayed p l array security sent expected known reply marks r array' security' reply' marks'
PlayedCall Call.Find p l array security sent expected known reply marks r array' security' reply' marks' =
    FindPlayed p l array security expected known reply marks r array' security' reply' marks'
PlayedCall Call.Stations p l array security sent expected known reply marks r array' security' reply' marks' =
    StationsPlayed p array security reply marks r array' security' reply' marks'

abbrev pub Played : Option Call → Playing → Line → List ℕ → List ℕ → List ℕ → List ℕ → List ℕ → List ℕ → List ℕ → Called → List ℕ → List ℕ → List ℕ → List ℕ → Type 0
Played None p l array security sent expected known reply marks r array' security' reply' marks' =
    (r ≡ called_of p no_account) × Untouched array security reply marks array' security' reply' marks'
Played (Some k) p l array security sent expected known reply marks r array' security' reply' marks' =
    PlayedCall k p l array security sent expected known reply marks r array' security' reply' marks'

-- the line's bytes, and what it expects
abbrev pub CallPlayed : Playing → List ℕ → List ℕ → List ℕ → List ℕ → List ℕ → List ℕ → List ℕ → Called → List ℕ → List ℕ → List ℕ → List ℕ → Type 0
CallPlayed p array security frame expected known reply marks r array' security' reply' marks' =
    let l = line_of p.reading in
    Played (errand_of p) p l array security (front l.sent frame) (front l.expected expected) (front l.expected known) reply marks r array' security' reply' marks'
