-- The bench between two lines: where a script begins, and where its next line does.
use Rattle.std.specs.Prelude.{ℕ, ◌+◌, ◌%◌, min, Bool, false, List, length, take}
use Rattle.rules.specs.declared.Chip.{Chip}
use Rattle.rules.specs.Blocks.{array_size_lem, security_size_lem}
use Rattle.rules.specs.Commands.{new_chip}
use Rattle.script.specs.declared.Reading.{Reading}
use Rattle.script.specs.Lines.{fresh}
use Rattle.tallies.specs.declared.Tally.{Tally}
use Rattle.expecting.specs.declared.Verdict.{Verdict}
use Rattle.tallies.specs.Tallies.{untold, after_wrong}
use Rattle.standing.specs.declared.Bench.{Bench}
use Rattle.standing.specs.declared.Playing.{Playing}

-- the first n places of a memory, or all of it
abbrev pub front : ℕ → List ℕ → List ℕ
front n l = take (min n (length l)) l

abbrev pub bench_of : Chip → Tally → ℕ → ℕ → ℕ → Bool → Bool → Bench
bench_of chip tally line array security full strict =
    record { chip = chip; tally = tally; line = line; array = array; security = security; full = full; strict = strict }

abbrev pub unjudged : Verdict
unjudged = record { number = false; strict = false; length = false; kept = false; place = 0; compared = 0 }

-- nothing is read: a new chip, and all memory lent
abbrev pub begun : Bool → Playing
begun strict =
    record { bench = bench_of new_chip untold 0 array_size_lem security_size_lem false strict; reading = fresh 0; before = new_chip; number = 0; verdict = unjudged; held = 0 }

abbrev pub with_reading : Playing → Reading → Playing
with_reading p r = record { bench = p.bench; reading = r; before = p.before; number = p.number; verdict = p.verdict; held = p.held }

abbrev pub with_bench : Playing → Bench → Playing
with_bench p b = record { bench = b; reading = p.reading; before = p.before; number = p.number; verdict = p.verdict; held = p.held }

-- the next line begins: nothing came of it yet. The lines are counted modulo 2^64
abbrev pub next_line : Playing → Playing
next_line p =
    record {
      bench = bench_of p.bench.chip p.bench.tally ((p.bench.line + 1) % 18446744073709551616) p.bench.array p.bench.security p.bench.full p.bench.strict;
      reading = p.reading;
      before = p.bench.chip;
      number = 0;
      verdict = unjudged;
      held = 0;
    }

-- a line that is none of the language is counted
abbrev pub wrong_counted : Playing → Playing
wrong_counted p =
    with_bench p
    (bench_of p.bench.chip (after_wrong p.bench.tally) p.bench.line p.bench.array p.bench.security p.bench.full p.bench.strict)
