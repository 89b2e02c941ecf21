-- What a script sets: a new chip, memories, the record, what is lent, how rows are shown.
use Rattle.std.specs.Prelude.{ℕ, ◌+◌, ◌-◌, ◌/◌, ◌%◌, min, ◌≡◌, Bool, true, false, List, ◌++◌, eqb, length, take, drop, replicate}
use Rattle.std.specs.Int.Bits.{bit_xor}
use Rattle.rules.specs.Words.{pick, Lent, lent, written}
use Rattle.rules.specs.Blocks.{array_size_lem, security_size_lem}
use Rattle.rules.specs.Fields.{chip_of}
use Rattle.rules.specs.Commands.{new_of}
use Rattle.grammar.specs.Slots as slots
use Rattle.fields.specs.Records.{slot, record_of}
use Rattle.standing.specs.declared.Bench.{Bench}
use Rattle.standing.specs.declared.Playing.{Playing}
use Rattle.standing.specs.declared.Setting.{Setting}
use Rattle.standing.specs.Benches.{bench_of, with_bench}

-- ---- memories

-- n bytes from a place on are v, as far as there are so many
unfoldable pub filled : ℕ → ℕ → ℕ → List ℕ → List ℕ
filled from n v l =
    let start = min from (length l) in
    let count = min n (length l - start) in
    take start l ++ (replicate count v ++ drop (start + count) l)

-- a pattern in which neighbours, and the same places of two pages, differ
unfoldable pub pattern_at : ℕ → ℕ
pattern_at i = bit_xor (bit_xor i (i / 256)) (i / 32768) % 256

-- the array, and the Security ID: `of_id` tells which one is filled
abbrev pub memory_after : Bool → Setting → List ℕ → List ℕ → Lent
memory_after here Setting.New s l = lent (replicate (length l) 0xFF)
memory_after here Setting.Fill s l = pick here (lent (filled (slot s slots.from) (slot s slots.size) (slot s slots.filling % 256) l)) (lent l)
memory_after here Setting.Pattern s l = written (length l) pattern_at
memory_after here Setting.Buffer s l = lent l
memory_after here Setting.Lend s l = lent l
memory_after here Setting.Record s l = lent l
memory_after here Setting.Full s l = lent l
memory_after here Setting.Short s l = lent l
memory_after here Setting.Strict s l = lent l

pub record Arranged (s : Setting) (slots₀ array security array' security' : List ℕ) : Type 0 where
  pub array_is : lent array' ≡ memory_after (eqb (slot slots₀ slots.of_id) 0) s slots₀ array
  pub security_is : lent security' ≡ memory_after (pick (eqb (slot slots₀ slots.of_id) 0) false true) s slots₀ security

-- ---- the bench

-- a new chip, a BA unless the line says `old`, has all memory lent; `record` says the whole record, `buffer` a part of its page buffer
abbrev pub bench_set : Setting → Bench → List ℕ → Bench
bench_set Setting.New b s = bench_of (new_of (eqb (slot s slots.old) 0)) b.tally b.line array_size_lem security_size_lem b.full b.strict
bench_set Setting.Fill b s = b
bench_set Setting.Pattern b s = b
bench_set Setting.Buffer b s =
    bench_of (chip_of (filled (slot s slots.from) (slot s slots.size) (slot s slots.filling % 256) b.chip.buffer) b.chip.rest) b.tally b.line b.array b.security b.full b.strict
bench_set Setting.Lend b s = bench_of b.chip b.tally b.line (slot s slots.from) (slot s slots.size) b.full b.strict
bench_set Setting.Record b s = bench_of (record_of s) b.tally b.line b.array b.security b.full b.strict
bench_set Setting.Full b s = bench_of b.chip b.tally b.line b.array b.security true b.strict
bench_set Setting.Short b s = bench_of b.chip b.tally b.line b.array b.security false b.strict
bench_set Setting.Strict b s = bench_of b.chip b.tally b.line b.array b.security b.full true

-- ---- the whole

pub record SettingPlayed (p : Playing) (s : Setting) (slots₀ array security : List ℕ) (p' : Playing) (array' security' : List ℕ) : Type 0 where
  pub arranged : Arranged s slots₀ array security array' security'
  pub playing : p' ≡ with_bench p (bench_set s p.bench slots₀)
