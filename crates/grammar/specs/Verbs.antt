-- What a line is, by its first word: the number in the slot `verb`.
use Rattle.std.specs.Prelude.{ℕ, eqb}
use Rattle.rules.specs.Words.{pick}
use Rattle.grammar.specs.declared.Verb.{Verb}

-- nothing, or only a remark
abbrev pub blank : ℕ
blank = 0

abbrev pub frame : ℕ
frame = 1

abbrev pub done : ℕ
done = 2

abbrev pub cut : ℕ
cut = 3

abbrev pub new : ℕ
new = 4

abbrev pub status : ℕ
status = 5

abbrev pub work : ℕ
work = 6

abbrev pub locks : ℕ
locks = 7

abbrev pub dump : ℕ
dump = 8

abbrev pub full : ℕ
full = 9

abbrev pub short : ℕ
short = 10

abbrev pub strict : ℕ
strict = 11

abbrev pub fill : ℕ
fill = 12

abbrev pub buffer : ℕ
buffer = 13

abbrev pub lend : ℕ
lend = 14

abbrev pub records : ℕ
records = 15

abbrev pub is : ℕ
is = 16

abbrev pub pattern : ℕ
pattern = 17

abbrev pub save : ℕ
save = 18

abbrev pub load : ℕ
load = 19

abbrev pub save_raw : ℕ
save_raw = 20

abbrev pub load_raw : ℕ
load_raw = 21

abbrev pub compare_raw : ℕ
compare_raw = 22

abbrev pub store : ℕ
store = 23

abbrev pub find : ℕ
find = 24

abbrev pub stations : ℕ
stations = 25

-- a mistake was met, or the line ended too early
abbrev pub wrong : ℕ
wrong = 31

-- ---- the verb of a number; any other number is none

unfoldable pub verb_of : ℕ → Verb
verb_of n =
    (pick (eqb n blank) Verb.Blank
    (pick (eqb n frame) Verb.Frame
    (pick (eqb n done) Verb.Done
    (pick (eqb n cut) Verb.Cut
    (pick (eqb n new) Verb.New
    (pick (eqb n status) Verb.Status
    (pick (eqb n work) Verb.Work
    (pick (eqb n locks) Verb.Locks
    (pick (eqb n dump) Verb.Dump
    (pick (eqb n full) Verb.Full
    (pick (eqb n short) Verb.Short
    (pick (eqb n strict) Verb.Strict
    (pick (eqb n fill) Verb.Fill
    (pick (eqb n buffer) Verb.Buffer
    (pick (eqb n lend) Verb.Lend
    (pick (eqb n records) Verb.Record
    (pick (eqb n is) Verb.Is
    (pick (eqb n pattern) Verb.Pattern
    (pick (eqb n save) Verb.Save
    (pick (eqb n load) Verb.Load
    (pick (eqb n save_raw) Verb.SaveRaw
    (pick (eqb n load_raw) Verb.LoadRaw
    (pick (eqb n compare_raw) Verb.CompareRaw
    (pick (eqb n store) Verb.Store
    (pick (eqb n find) Verb.Find
    (pick (eqb n stations) Verb.Stations
    Verb.Wrong))))))))))))))))))))))))))

-- and its number
abbrev pub number : Verb → ℕ
number Verb.Blank = blank
number Verb.Frame = frame
number Verb.Done = done
number Verb.Cut = cut
number Verb.New = new
number Verb.Status = status
number Verb.Work = work
number Verb.Locks = locks
number Verb.Dump = dump
number Verb.Full = full
number Verb.Short = short
number Verb.Strict = strict
number Verb.Fill = fill
number Verb.Buffer = buffer
number Verb.Lend = lend
number Verb.Record = records
number Verb.Is = is
number Verb.Pattern = pattern
number Verb.Save = save
number Verb.Load = load
number Verb.SaveRaw = save_raw
number Verb.LoadRaw = load_raw
number Verb.CompareRaw = compare_raw
number Verb.Store = store
number Verb.Find = find
number Verb.Stations = stations
number Verb.Wrong = wrong
