-- What a row writes into the slot of the verb is the number of a verb, so that a line's verb says it whole: of the table by computing, and so of the slots after
-- any word that the table lets stand. Assumes nothing.
use Prim.Native.Nat.{ℕ, zero, suc, ◌%◌}
use mathlib.Core.Path.{◌≡◌, refl, sym, ap, ◌∙◌}
use mathlib.Core.Bool.{Bool, true, false, not, ◌&&◌, ◌||◌, false≢true}
use mathlib.Core.List.{List, [], ◌∷◌}
use lib.Dec.{eqb, ltb}
use lib.ListN.{get_or, set}
use borrow.Author.Tests.{eqb-true}
use Rattle.std.specs.Prelude.{Option, Some, None}
use Rattle.rules.specs.Words.{pick, every}
use Rattle.rules.proofs.Bools.{and_split, or_map}
use Rattle.spelling.specs.declared.Word.{Word}
use Rattle.grammar.specs.declared.Entry.{Entry}
use Rattle.grammar.specs.declared.Source.{Source}
use Rattle.grammar.specs.declared.Verb.{Verb}
use Rattle.grammar.specs.Slots.{verb}
use Rattle.grammar.specs.Verbs.{verb_of, number}
use Rattle.grammar.specs.Table.{Row, table, first_of, next_of, called, value_of, writes, slots_with}

-- ---- the table

-- a source gives a verb's number, or nothing
abbrev pub says_whole : Source → Bool
says_whole Source.Nothing = true
says_whole Source.Number = false
says_whole Source.Hex = false
says_whole Source.Byte = false
says_whole (Source.Says c) = eqb (number (verb_of c)) c

-- what an entry writes there is a verb's number, or nothing
abbrev pub entry_right : Entry → Bool
entry_right e = not (eqb e.slot verb) || says_whole e.source

-- and what a row does
abbrev pub verb_right : Row → Bool
verb_right r = entry_right r.entry

-- so it is of each row of the table
pub verbs_whole : every verb_right table ≡ true
unfolding verb_of table
verbs_whole = refl

-- ---- what is found in it

-- where an entry is found, it is right
abbrev pub found_right : Option Entry → Bool
found_right None = true
found_right (Some e) = entry_right e

-- a choice of right ones is right
chosen_right : (t : Bool) (a b : Option Entry) → found_right a ≡ true → found_right b ≡ true → found_right (pick t a b) ≡ true
chosen_right true a b p q = p
chosen_right false a b p q = q

-- what is found among right rows is the entry of one of them
first_right : (rs : List Row) (p : ℕ) (w : Word) (n : ℕ) → every verb_right rs ≡ true → found_right (first_of rs p w n) ≡ true
unfolding first_of
first_right [] p w n e = refl
first_right (r ∷ rs) p w n e =
    let h = and_split (verb_right r) (every verb_right rs) e in
    chosen_right _ (Some r.entry) (first_of rs p w n) h.0 (first_right rs p w n h.1)

-- so it is with what follows a place and a word
pub next_right : (p : ℕ) (w : Word) → found_right (next_of p w) ≡ true
unfolding next_of
next_right p w = first_right table p w (called w) verbs_whole

-- ---- the slots

-- the slot of the verb holds the number of a verb
pub record HoldsVerb (l : List ℕ) : Type 0 where
  pub is : number (verb_of (get_or l verb 0)) ≡ get_or l verb 0

-- a number is written into another slot, or it is a verb's
set_right : (l : List ℕ) (s v : ℕ) → (not (eqb s verb) || eqb (number (verb_of v)) v) ≡ true → HoldsVerb l → HoldsVerb (set l s v)
set_right [] s v e h = h
set_right (x ∷ l) zero v e h = record { is = eqb-true _ _ e }
set_right (x ∷ l) (suc s) v e h = record { is = h.is }

-- a number that is written, or none
set_or_not : (t : Bool) (l : List ℕ) (s v : ℕ) → HoldsVerb (set l s v) → HoldsVerb l → HoldsVerb (pick t (set l s v) l)
set_or_not true l s v p q = p
set_or_not false l s v p q = q

-- a word's own number goes into another slot, whatever it is
other_right : (l : List ℕ) (s v : ℕ) → (not (eqb s verb) || false) ≡ true → HoldsVerb l → HoldsVerb (set l s v)
other_right l s v e h = set_right l s v (or_map (not (eqb s verb)) false (eqb (number (verb_of v)) v) e (λ z. absurd (false≢true z))) h

-- what a source gives
written_right : (l : List ℕ) (s : ℕ) (o : Source) (w : Word) → (not (eqb s verb) || says_whole o) ≡ true → HoldsVerb l
    → HoldsVerb (pick (writes o && ltb s 24) (set l s (value_of o w)) l)
unfolding value_of
written_right l s Source.Nothing w e h = h
written_right l s Source.Number w e h = set_or_not (ltb s 24) l s w.number (other_right l s w.number e h) h
written_right l s Source.Hex w e h = set_or_not (ltb s 24) l s w.hex (other_right l s w.hex e h) h
written_right l s Source.Byte w e h = set_or_not (ltb s 24) l s _ (other_right l s _ e h) h
written_right l s (Source.Says c) w e h = set_or_not (ltb s 24) l s c (set_right l s c e h) h

-- a right entry leaves a verb's number there
pub slots_right : (l : List ℕ) (e : Entry) (w : Word) → entry_right e ≡ true → HoldsVerb l → HoldsVerb (slots_with l e w)
unfolding slots_with
slots_right l e w p h = written_right l e.slot e.source w p h

-- ---- the number in the slot

-- a verb's number is a byte
number_byte : (v : Verb) → number v % 256 ≡ number v
number_byte Verb.Blank = refl
number_byte v = refl

-- so the slot's number is one
pub slot_byte : (l : List ℕ) → HoldsVerb l → get_or l verb 0 % 256 ≡ get_or l verb 0
slot_byte l h = ap (λ (n : ℕ). n % 256) (sym h.is) ∙ number_byte (verb_of (get_or l verb 0)) ∙ h.is

-- and as a byte it is a verb's too
pub slot_whole : (l : List ℕ) → HoldsVerb l → number (verb_of (get_or l verb 0 % 256)) ≡ get_or l verb 0 % 256
slot_whole l h = rw (slot_byte l h) h.is
