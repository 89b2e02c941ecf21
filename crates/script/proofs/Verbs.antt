-- A line's verb says the number in its slot, whole: whatever the input, what stands there is the number of a verb. Assumes nothing.
use Prim.Native.Nat.{ℕ, ◌%◌}
use mathlib.Core.Path.{◌≡◌, refl}
use mathlib.Core.Bool.{Bool, true, false, ◌&&◌}
use mathlib.Core.List.{List, [], ◌∷◌}
use lib.Dec.{eqb}
use lib.ListN.{get_or}
use Rattle.std.specs.Prelude.{Option, Some, None}
use Rattle.rules.specs.Words.{pick}
use Rattle.spelling.specs.Words.{blank, line_end}
use Rattle.grammar.specs.declared.Entry.{Entry}
use Rattle.grammar.specs.declared.Verb.{Verb}
use Rattle.grammar.specs.Slots.{verb}
use Rattle.grammar.specs.Verbs as verbs
use Rattle.grammar.specs.Verbs.{verb_of, number}
use Rattle.grammar.specs.Table.{next_of, can_end}
use Rattle.grammar.proofs.Verbs.{found_right, next_right, HoldsVerb, slots_right, slot_whole}
use Rattle.script.specs.declared.Mode.{Mode}
use Rattle.script.specs.declared.Reading.{Reading}
use Rattle.script.specs.Lines.{is_wrong, fresh, passed_by, remark_from, goes_on_lem, begins_remark, taken_open, taken, mark_after, went, over_at, closed, ended_by, taken_into, advanced, Held, held, stepped, finished, read_on, line_of}

-- the slot of the verb holds the number of a verb
pub record SaysVerb (r : Reading) : Type 0 where
  pub slots : HoldsVerb r.slots

-- ---- one byte

-- a choice of two readings
chosen : (t : Bool) (p q : Reading) → SaysVerb p → SaysVerb q → SaysVerb (pick t p q)
chosen true p q x y = x
chosen false p q x y = y

-- nothing is read
pub fresh_says : (mark : ℕ) → SaysVerb (fresh mark)
unfolding verb_of
fresh_says mark = record { slots = record { is = refl } }

-- a word's end
went_says : (r : Reading) (o : Option Entry) → found_right o ≡ true → SaysVerb r → SaysVerb (went r o)
unfolding went
went_says r None e h = record { slots = h.slots }
went_says r (Some x) e h = record { slots = slots_right r.slots x r.word e h.slots }

-- the line before a byte
closed_says : (r : Reading) (b : ℕ) → SaysVerb r → SaysVerb (closed r b)
unfolding closed
closed_says r b h =
    chosen r.ended _ _ (fresh_says 3) (chosen (over_at r b) _ r (went_says r (next_of r.place r.word) (next_right r.place r.word) h) h)

-- a byte of a line
open_says : (r : Reading) (b m : ℕ) → SaysVerb r → SaysVerb (taken_open r b m)
unfolding taken_open
open_says r b m h =
    chosen (begins_remark r b) (remark_from r m) _ (record { slots = h.slots })
    (chosen (blank b) (passed_by r m) (goes_on_lem r b m) (record { slots = h.slots }) (record { slots = h.slots }))

-- the same by the mode
taken_in_says : (x : Mode) (r : Reading) (b m : ℕ) → SaysVerb r → SaysVerb (taken (record r { mode = x }) b m)
unfolding taken
taken_in_says Mode.Open r b m h = open_says (record r { mode = Mode.Open }) b m (record { slots = h.slots })
taken_in_says Mode.Remark r b m h = record { slots = h.slots }
taken_in_says Mode.Wrong r b m h = record { slots = h.slots }

-- whatever the mode
taken_says : (r : Reading) (b m : ℕ) → SaysVerb r → SaysVerb (taken r b m)
taken_says r b m h = taken_in_says r.mode r b m h

-- a byte of the input, where the word before it is closed in q
into_says : (r q : Reading) (b : ℕ) → SaysVerb q → SaysVerb (taken_into r q b)
unfolding taken_into
into_says r q b h =
    chosen (line_end b) _ _
    (chosen (r.ended && (r.cr && eqb b 0x0A)) (fresh 3) (ended_by q b) (fresh_says 3) (record { slots = h.slots }))
    (chosen (eqb r.mark 2 && eqb b 0xBF) (fresh 3) _ (fresh_says 3) (taken_says q b (mark_after r.mark b) h))

-- one byte whole
pub advanced_says : (r : Reading) (b : ℕ) → SaysVerb r → SaysVerb (advanced r b)
unfolding advanced
advanced_says r b h = into_says r (closed r b) b (closed_says r b h)

-- ---- all input

-- one byte, and what is stored with it
pub stepped_says : (h : Held) (b : ℕ) → SaysVerb h.reading → SaysVerb (stepped h b).reading
unfolding stepped
stepped_says h b p = advanced_says h.reading b p

-- any bytes
pub read_on_says : (bs : List ℕ) (h : Held) → SaysVerb h.reading → SaysVerb (read_on h bs).reading
unfolding read_on
read_on_says [] h p = p
read_on_says (b ∷ bs) h p = read_on_says bs (stepped h b) (stepped_says h b p)

-- the input's end
pub finished_says : (h : Held) → SaysVerb h.reading → SaysVerb (finished h).reading
finished_says h p = stepped_says h 0x0A p

-- ---- what a line says

-- the byte in the slot is a verb's number
abbrev pub SlotSays : Reading → Type 0
SlotSays r = number (verb_of (get_or r.slots verb 0 % 256)) ≡ get_or r.slots verb 0 % 256

-- the line's verb is that byte, unless the line is wrong
abbrev pub LineSays : Reading → Type 0
LineSays r = number (line_of r).verb ≡ pick (is_wrong r.mode) verbs.wrong (pick (can_end r.place) (get_or r.slots verb 0 % 256) verbs.wrong)

-- the line is wrong, or its verb is x, whose number is n
number_chosen : (a b : Bool) (x : Verb) (n : ℕ) → number x ≡ n → number (pick a Verb.Wrong (pick b x Verb.Wrong)) ≡ pick a verbs.wrong (pick b n verbs.wrong)
number_chosen true b x n e = refl
number_chosen false true x n e = e
number_chosen false false x n e = refl

-- where the slot holds a verb's number, its byte is one
pub slot_says : (r : Reading) → SaysVerb r → SlotSays r
slot_says r h = slot_whole r.slots h.slots

-- and the line's verb is that byte, unless the line is wrong
pub line_says : (r : Reading) → SaysVerb r → LineSays r
unfolding line_of
line_says r h = number_chosen (is_wrong r.mode) (can_end r.place) _ _ (slot_says r h)

-- ---- so it is of every reading that bytes give

-- the bytes bs are read from where a line or the input begins, whatever bytes are lent
module _ (mark : ℕ) (f e k bs : List ℕ) where
  -- what they give, and the input's end after them
  abbrev pub given : Held
  given = read_on (held (fresh mark) f e k) bs

  -- the slot holds a verb's number
  pub given_holds : SaysVerb given.reading
  given_holds = read_on_says bs (held (fresh mark) f e k) (fresh_says mark)

  -- at the input's end too
  pub ended_holds : SaysVerb (finished given).reading
  ended_holds = finished_says given given_holds

  -- its byte is one
  pub given_slot : SlotSays given.reading
  given_slot = slot_says given.reading given_holds

  -- at the input's end too
  pub ended_slot : SlotSays (finished given).reading
  ended_slot = slot_says (finished given).reading ended_holds

  -- the line's verb is that byte, unless the line is wrong
  pub given_line : LineSays given.reading
  given_line = line_says given.reading given_holds

  -- at the input's end too
  pub ended_line : LineSays (finished given).reading
  ended_line = line_says (finished given).reading ended_holds
