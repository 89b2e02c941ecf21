-- A line with a file: what it asks for, when it is a difference, and what a raw file does. docs/PLAYER.md: "A `save` or `load` that is not done, a comparison that
-- finds a difference, and a file that cannot be opened, read or written are differences, unless `!` expects the number".
use Rattle.std.specs.Prelude.{ℕ, min, ◌≡◌, Bool, false, not, ◌||◌, List, ◌++◌, eqb, length, get_or, drop, Option, None, Some, is_some}
use Rattle.rules.specs.Words.{pick, num}
use Rattle.grammar.specs.Slots as slots
use Rattle.script.specs.Lines.{line_of}
use Rattle.expecting.specs.declared.Verdict.{Verdict}
use Rattle.tallies.specs.Tallies.{after_unmet}
use Rattle.standing.specs.declared.Deed.{Deed}
use Rattle.standing.specs.declared.Playing.{Playing}
use Rattle.standing.specs.declared.Post.{Post}
use Rattle.standing.specs.Deeds.{deed_of}
use Rattle.standing.specs.Benches.{front, bench_of}
use Rattle.image.specs.declared.Fault.{Fault}
use Rattle.raw_image.specs.declared.Difference.{Difference}
use Rattle.raw_image.specs.Raw.{whole, raw_number, compare_raw}
use Rattle.posting.specs.declared.Carried.{Carried}
use Rattle.posting.specs.declared.Report.{Report}
use Rattle.posting.specs.declared.Trouble.{Trouble}

-- ---- what a line asks for

abbrev pub asks : Deed → Option Post
asks (Deed.Post f) = Some f
asks other = None

-- the line that ended last
abbrev pub post_of : Playing → Option Post
post_of p = pick (not p.reading.ended) None (asks (deed_of (line_of p.reading).verb))

-- ---- what it comes to

abbrev pub verdict_of : Bool → Verdict
verdict_of unmet = record { number = unmet; strict = false; length = false; kept = false; place = 0; compared = 0 }

-- the system refused, or another number came than the line expects: 0 where it says none
abbrev pub unmet : Playing → Option Trouble → ℕ → Bool
unmet p t number = is_some t || not (eqb number (get_or (line_of p.reading).slots slots.refused 0))

-- no event; one difference where the number is not met or bytes differ
abbrev pub judged_as : Playing → ℕ → Bool → Bool → Playing
judged_as p number u differs =
    record {
      bench = bench_of p.bench.chip (after_unmet p.bench.tally (num (u || differs))) p.bench.line p.bench.array p.bench.security p.bench.full p.bench.strict;
      reading = p.reading;
      before = p.before;
      number = number;
      verdict = verdict_of u;
      held = 0;
    }

unfoldable pub judged : Playing → Option Trouble → ℕ → Bool → Playing
judged p t number differs = judged_as p number (unmet p t number) differs

abbrev pub report_of : Option Trouble → ℕ → Option Fault → Option Difference → Report
report_of t length fault difference = record { trouble = t; length = length; fault = fault; difference = difference }

abbrev pub carried_of : Playing → Report → Carried
carried_of p r = record { playing = p; report = r }

-- a file of so many bytes was written or read, or none was
abbrev pub ended : Playing → Option Trouble → ℕ → ℕ → Carried
ended p t number length = carried_of (judged p t number false) (report_of t length None None)

-- a line without a file
abbrev pub untouched : Playing → Carried
untouched p = carried_of p (report_of None 0 None None)

-- ---- raw files: the array alone, as much of it as is lent

-- the record and the Security ID stay
pub record RawLoaded (p : Playing) (array file : List ℕ) (r : Carried) (array' : List ℕ) : Type 0 where
  pub outcome : r ≡ ended p None (raw_number (length (front p.bench.array array)) (length file)) (length file)
  pub array_is : array' ≡ pick (whole (length (front p.bench.array array)) (length file)) file (front p.bench.array array) ++ drop (min p.bench.array (length array)) array

abbrev pub raw_compared : Playing → List ℕ → List ℕ → Carried
raw_compared p array file =
    carried_of
    (judged p None (raw_number (length (front p.bench.array array)) (length file)) (is_some (compare_raw (front p.bench.array array) file)))
    (report_of None (length file) None (compare_raw (front p.bench.array array) file))
