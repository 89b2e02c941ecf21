-- The input as a fold over its bytes: what one byte does, what a word's end does, what is stored, and what a line says at its end.
use Rattle.std.specs.Prelude.{ℕ, zero, suc, ◌+◌, ◌-◌, ◌/◌, ◌%◌, min, ◌≡◌, Bool, true, false, not, ◌&&◌, ◌||◌, List, [], ◌∷◌, eqb, ltb, get_or, set, replicate}
use Rattle.rules.specs.Words.{pick}
use Rattle.std.specs.Prelude.{Option, Some, None}
use Rattle.grammar.specs.declared.Entry.{Entry}
use Rattle.grammar.specs.declared.Store.{Store}
use Rattle.grammar.specs.declared.Verb.{Verb}
use Rattle.script.specs.declared.Mode.{Mode}
use Rattle.spelling.specs.Words.{blank, line_end, ends_words, one_more_lem, no_word, word_with, is_sign, byte_of}
use Rattle.spelling.specs.declared.Word.{Word}
use Rattle.grammar.specs.Places.{line_start, takes_name}
use Rattle.grammar.specs.Slots.{verb}
use Rattle.grammar.specs.Verbs as verbs
use Rattle.grammar.specs.Table.{next_of, can_end, slots_with}
use Rattle.script.specs.declared.Reading.{Reading}
use Rattle.script.specs.declared.Line.{Line}

-- ---- modes

-- words may come

abbrev pub in_words : Mode
in_words = Mode.Open

-- the rest of the line is a remark
abbrev pub in_remark : Mode
in_remark = Mode.Remark

-- a mistake was met
abbrev pub wrong : Mode
wrong = Mode.Wrong

abbrev pub is_open : Mode → Bool
is_open Mode.Open = true
is_open Mode.Remark = false
is_open Mode.Wrong = false

abbrev pub is_wrong : Mode → Bool
is_wrong Mode.Open = false
is_wrong Mode.Remark = false
is_wrong Mode.Wrong = true

-- ---- counts, and the byte that is stored

-- one more, or as many as make n in all, or no more: at most 65,537
unfoldable pub count_after : ℕ → Bool → Bool → ℕ → ℕ
count_after at one again n = pick (not one && not again) at (pick one (min (at + 1) 65537) (min (at + (n - 1)) 65537))

-- the frame's bytes after a word, by what its row stores and its number
unfoldable pub sent_after : ℕ → Store → ℕ → ℕ
sent_after at Store.Sends n = count_after at true false n
sent_after at Store.SendsAgain n = count_after at false true n
sent_after at Store.Forgets n = 0
sent_after at s n = at

-- the expected bytes after a word; the entries of a list stand in their place, since no line has both
abbrev pub expected_after : ℕ → Store → ℕ → ℕ
expected_after at Store.Expects n = count_after at true false n
expected_after at Store.ExpectsAny n = count_after at true false n
expected_after at Store.ExpectsUnknown n = count_after at true false n
expected_after at Store.Enters n = count_after at true false n
expected_after at Store.ExpectsAgain n = count_after at false true n
expected_after at s n = at

-- the byte that is stored: the word's own, 0 for any, the high one of an entry n, or the last one again
unfoldable pub byte_after : Store → ℕ → ℕ → ℕ → ℕ
byte_after Store.Sends own n last = own
byte_after Store.Expects own n last = own
byte_after Store.ExpectsUnknown own n last = own
byte_after Store.ExpectsAny own n last = 0
byte_after Store.Enters own n last = n / 256 % 256
byte_after s own n last = last

-- an expected byte's kind: 1 where it is known, 2 where it is to be unknown, 0 where any byte will do; of an entry n its low byte
unfoldable pub kind_after : Store → ℕ → ℕ → ℕ
kind_after Store.Expects n last = 1
kind_after Store.ExpectsAny n last = 0
kind_after Store.ExpectsUnknown n last = 2
kind_after Store.Enters n last = n % 256
kind_after s n last = last

-- ---- a byte of a line

-- a line of which nothing is read. `mark`: how many bytes of the byte order mark EF BB BF have come at the input's very start; 3 after that
abbrev pub fresh : ℕ → Reading
fresh mark =
    record { mode = in_words; place = line_start; read = 0; shown = replicate 24 0; word = no_word 0; sent = 0; expected = 0; last = 0; kind = 0; remark = 0; slots = replicate 24 0; ended = false; cr = false; mark = mark }

-- a blank, or any byte after a mistake: only counted
abbrev pub passed_by : Reading → ℕ → Reading
passed_by r m =
    record { mode = r.mode; place = r.place; read = one_more_lem r.read; shown = r.shown; word = r.word; sent = r.sent; expected = r.expected; last = r.last; kind = r.kind; remark = r.remark; slots = r.slots; ended = r.ended; cr = r.cr; mark = m }

-- a byte of a remark
abbrev pub remarked : Reading → ℕ → Reading
remarked r m =
    record { mode = r.mode; place = r.place; read = one_more_lem r.read; shown = r.shown; word = r.word; sent = r.sent; expected = r.expected; last = r.last; kind = r.kind; remark = count_after r.remark true false 0; slots = r.slots; ended = r.ended; cr = r.cr; mark = m }

-- a remark begins, where no word is
abbrev pub remark_from : Reading → ℕ → Reading
remark_from r m =
    record { mode = in_remark; place = r.place; read = one_more_lem r.read; shown = r.shown; word = no_word (one_more_lem r.read); sent = r.sent; expected = r.expected; last = r.last; kind = r.kind; remark = r.remark; slots = r.slots; ended = r.ended; cr = r.cr; mark = m }

-- the word's first bytes with one more, as long as there is room
abbrev pub shown_with : List ℕ → ℕ → ℕ → List ℕ
shown_with l n b = pick (ltb n 24) (set l n b) l

-- the byte that is stored last: one of a name, or what it was
unfoldable pub last_after : Bool → ℕ → ℕ → ℕ
last_after named b last = pick named b last

-- the word goes on, or begins; a byte of a name is stored as it comes
abbrev pub goes_on_lem : Reading → ℕ → ℕ → Reading
goes_on_lem r b m =
    record { mode = r.mode; place = r.place; read = one_more_lem r.read; shown = shown_with r.shown r.word.length b; word = word_with r.word b (one_more_lem r.read); sent = count_after r.sent (takes_name r.place) false 0; expected = r.expected; last = last_after (takes_name r.place) b r.last; kind = r.kind; remark = r.remark; slots = r.slots; ended = r.ended; cr = r.cr; mark = m }

unfoldable pub mark_after : ℕ → ℕ → ℕ
mark_after m b = pick (eqb m 0 && eqb b 0xEF) 1 (pick (eqb m 1 && eqb b 0xBB) 2 3)

-- # begins a remark, but not inside a name
abbrev pub begins_remark : Reading → ℕ → Bool
begins_remark r b = eqb b 0x23 && not (takes_name r.place && not (eqb r.word.length 0))

-- while the line is open: # or a blank, where no word is, or a byte of a word
unfoldable pub taken_open : Reading → ℕ → ℕ → Reading
taken_open r b m = pick (begins_remark r b) (remark_from r m) (pick (blank b) (passed_by r m) (goes_on_lem r b m))

unfoldable pub taken : Reading → ℕ → ℕ → Reading
taken r b m = taken_in r.mode
  where
    taken_in : Mode → Reading
    taken_in Mode.Open = taken_open r b m
    taken_in Mode.Remark = remarked r m
    taken_in Mode.Wrong = passed_by r m

-- ---- a word's end

-- a word that cannot stand where it does is a mistake, and no remark
abbrev pub mistaken : Reading → Reading
mistaken r =
    record { mode = wrong; place = r.place; read = r.read; shown = r.shown; word = r.word; sent = r.sent; expected = r.expected; last = r.last; kind = r.kind; remark = r.remark; slots = r.slots; ended = r.ended; cr = r.cr; mark = r.mark }

-- the word may stand where it does: what its row says, and that row's place comes next
abbrev pub went_to : Reading → Entry → Reading
went_to r e =
    record { mode = r.mode; place = e.next; read = r.read; shown = replicate 24 0; word = no_word 0; sent = sent_after r.sent e.store r.word.number; expected = expected_after r.expected e.store r.word.number; last = byte_after e.store (byte_of r.word) r.word.number r.last; kind = kind_after e.store r.word.number r.kind; remark = r.remark; slots = slots_with r.slots e r.word; ended = r.ended; cr = r.cr; mark = r.mark }

unfoldable pub went : Reading → Option Entry → Reading
went r None = mistaken r
went r (Some e) = went_to r e

-- the word w at the place p is over before the byte b: a name before a blank or the line's end; any other where b ends words, and a sign before any byte
unfoldable pub word_ends : ℕ → Word → ℕ → Bool
word_ends p w b = pick (takes_name p) (blank b || line_end b) (ends_words b || is_sign w)

-- a word stands before the byte b, and is over
abbrev pub over_at : Reading → ℕ → Bool
over_at r b = (is_open r.mode && not (eqb r.word.length 0)) && word_ends r.place r.word b

-- the line before the byte b: after a line's end a line begins
unfoldable pub closed : Reading → ℕ → Reading
closed r b = pick r.ended (fresh 3) (pick (over_at r b) (went r (next_of r.place r.word)) r)

-- ---- a byte of the input

abbrev pub ended_by : Reading → ℕ → Reading
ended_by r b =
    record { mode = r.mode; place = r.place; read = r.read; shown = r.shown; word = r.word; sent = r.sent; expected = r.expected; last = r.last; kind = r.kind; remark = r.remark; slots = r.slots; ended = true; cr = eqb b 0x0D; mark = 3 }

-- where the word before the byte b is closed in q: a line's end, but no LF right after a CR; the last byte of a byte order mark; or a byte of the line
unfoldable pub taken_into : Reading → Reading → ℕ → Reading
taken_into r q b =
    pick (line_end b)
    (pick (r.ended && (r.cr && eqb b 0x0A)) (fresh 3) (ended_by q b))
    (pick (eqb r.mark 2 && eqb b 0xBF) (fresh 3) (taken q b (mark_after r.mark b)))

unfoldable pub advanced : Reading → ℕ → Reading
advanced r b = taken_into r (closed r b) b

-- ---- what is stored

-- v at n places from there on
unfoldable pub filled : ℕ → List ℕ → ℕ → ℕ → List ℕ
filled zero l at v = l
filled (suc n) l at v = filled n (set l at v) (at + 1) v

-- v at the places from `from` to `to`
unfoldable pub stored : List ℕ → ℕ → ℕ → ℕ → List ℕ
stored l from to v = filled (min to 65537 - from) l from v

-- what is held while the input is read: the reading, the bytes of the frame, the expected bytes and the kind of each of these
pub record Held : Type 0 where
  pub reading : Reading
  pub frame : List ℕ
  pub expected : List ℕ
  pub known : List ℕ

abbrev pub held : Reading → List ℕ → List ℕ → List ℕ → Held
held r f e k = record { reading = r; frame = f; expected = e; known = k }

-- from the reading r to q: bytes are stored as their counts go up
abbrev pub kept : Reading → Reading → Held → Held
kept r q h =
    held q
    (stored h.frame r.sent q.sent q.last)
    (stored h.expected r.expected q.expected q.last)
    (stored h.known r.expected q.expected q.kind)

-- one byte
unfoldable pub stepped : Held → ℕ → Held
stepped h b = kept h.reading (advanced h.reading b) h

-- and the bytes of the remark, without its #
unfoldable pub remark_after : Reading → ℕ → List ℕ → List ℕ
remark_after r b l = stored l r.remark (advanced r b).remark b

-- the input's end ends its last line
abbrev pub finished : Held → Held
finished h = stepped h 0x0A

unfoldable pub read_on : Held → List ℕ → Held
read_on h [] = h
read_on h (b ∷ bs) = read_on (stepped h b) bs

-- ---- what a line says

-- a mistake, or a line that ends too early, is wrong. Where a line ends too early, its end is the mistake's column, or the # of a remark
unfoldable pub line_of : Reading → Line
line_of r =
    record {
      verb = pick (is_wrong r.mode) Verb.Wrong (pick (can_end r.place) (verbs.verb_of (get_or r.slots verb 0 % 256)) Verb.Wrong);
      slots = r.slots;
      sent = r.sent;
      expected = r.expected;
      remark = r.remark;
      place = r.place;
      word = r.shown;
      length = r.word.length;
      column = pick (is_open r.mode) (one_more_lem r.read) r.word.column;
    }

-- ---- the promises

-- what one byte of the input gives back and leaves
pub record StepPromise (r : Reading) (b : ℕ) (frame expected known remark : List ℕ) (r' : Reading) (frame' expected' known' remark' : List ℕ) : Type 0 where
  pub outcome : held r' frame' expected' known' ≡ stepped (held r frame expected known) b
  pub remarks : remark' ≡ remark_after r b remark

-- what the input's end gives back and leaves
pub record FinishPromise (r : Reading) (frame expected known : List ℕ) (r' : Reading) (frame' expected' known' : List ℕ) : Type 0 where
  pub outcome : held r' frame' expected' known' ≡ finished (held r frame expected known)
