-- The definitions give each row of the tables: computed. Assumes nothing.
use mathlib.Core.Path.{◌≡◌, refl}
use mathlib.Core.List.{map}
use lib.ListN.{replicate}
use Rattle.spelling.specs.Words.{digit_of, most, one_more_lem, tens_of, word_with}
use Rattle.grammar.specs.Table.{word_list, keys, position, called_long, called, has_class, table, ends, first_of, next_of, value_of, slots_with}
use Rattle.grammar.specs.Verbs.{verb_of}
use Rattle.script.specs.Lines.{count_after, sent_after, byte_after, kind_after, last_after, word_ends, mark_after, taken_open, taken, went, closed, taken_into, advanced, filled, stored, stepped, remark_after, read_on, line_of, fresh}
use Rattle.hinting.specs.Hints.{lower, lowered, stands, takes_byte, of_digits, hint_of}
use Rattle.script.specs.Listing.{Row, WrongRow, HintRow, EndRow, show_line, show_mistake, show_hint, verbs_from, remark_from, lines, wrong_lines, hints, line_ends, remarks}

pub lines_say : map (λ (r : Row). show_line r.text) lines ≡ map (λ (r : Row). r.is) lines
unfolding digit_of most one_more_lem tens_of word_with word_list keys position called_long called has_class table ends first_of next_of value_of slots_with count_after sent_after byte_after kind_after last_after word_ends mark_after taken_open taken went closed taken_into verb_of advanced filled stored stepped read_on line_of lines
lines_say = refl

pub wrong_lines_say : map (λ (r : WrongRow). show_mistake r.text) wrong_lines ≡ map (λ (r : WrongRow). r.is) wrong_lines
unfolding digit_of most one_more_lem tens_of word_with word_list keys position called_long called has_class table ends first_of next_of value_of slots_with count_after sent_after byte_after kind_after last_after word_ends mark_after taken_open taken went closed taken_into verb_of advanced filled stored stepped read_on line_of wrong_lines
wrong_lines_say = refl

pub hints_say : map (λ (r : HintRow). show_hint r.text) hints ≡ map (λ (r : HintRow). r.is) hints
unfolding digit_of most one_more_lem tens_of word_with word_list keys position called_long called has_class table ends first_of next_of value_of slots_with count_after sent_after byte_after kind_after last_after word_ends mark_after taken_open taken went closed taken_into verb_of advanced filled stored stepped read_on line_of lower lowered stands takes_byte of_digits hint_of hints
hints_say = refl

pub line_ends_say : map (λ (r : EndRow). verbs_from (fresh 0) r.text) line_ends ≡ map (λ (r : EndRow). r.is) line_ends
unfolding digit_of most one_more_lem tens_of word_with word_list keys position called_long called has_class table ends first_of next_of value_of slots_with count_after sent_after byte_after kind_after last_after word_ends mark_after taken_open taken went closed taken_into verb_of advanced filled stored stepped read_on line_of verbs_from line_ends
line_ends_say = refl

pub remarks_say : map (λ (r : EndRow). remark_from (fresh 0) (replicate 8 0) r.text) remarks ≡ map (λ (r : EndRow). r.is) remarks
unfolding digit_of most one_more_lem tens_of word_with word_list keys position called_long called has_class table ends first_of next_of value_of slots_with count_after sent_after byte_after kind_after last_after word_ends mark_after taken_open taken went closed taken_into verb_of advanced filled stored stepped read_on line_of remark_from remark_after remarks
remarks_say = refl
