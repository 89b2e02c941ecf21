-- The starred cases, those of bursts and those of every sentence hold of the machine, and no line of a table is missing. Assumes nothing.
use mathlib.Core.Path.{refl}
use Rattle.rules.specs.Words.{bit, end, ◌next◌, holds}
use Rattle.rules.specs.Blocks.{wide, blocks, seek, block_of, block_at, write_locked, read_locked}
use Rattle.rules.specs.Works.{finish}
use Rattle.rules.specs.Frames.{frames, find, form_of}
use Rattle.rules.specs.Bursts.{burst_place}
use Rattle.rules.specs.Reading.{place_cell, shown}
use Rattle.rules.specs.Programs.{blank, fill, page_buffer, security_buffer, reaches, reaches_first}
use Rattle.rules.specs.Numbers.{command_tests}
use Rattle.rules.specs.Machine.{frame_chip, frame_cell_lem, frame_reply, frame_marks, worked_array_lem, worked_security_lem, completed_chip_lem, cut_chip_lem}
use Rattle.rules.specs.Starred.{starred, StarredHold}
use Rattle.rules.specs.CasesOfBursts.{bursts, BurstsHold}
use Rattle.rules.specs.CasesOfReading.{sentences_of_reading}
use Rattle.rules.specs.CasesOfWriting.{sentences_of_writing}
use Rattle.rules.specs.CasesOfEnding.{sentences_of_ending}
use Rattle.rules.specs.Sentences.{SentencesHold}
use Rattle.rules.proofs.Refusals.{framed, completed, cut}
use Rattle.rules.proofs.Quick.{read_chip, quick, onward, quick_after, quick_last}
use Rattle.rules.proofs.Cases.{case_holds_lem, failing_of, failing, NoneFails, sections_hold}

-- ---- computed, section by section

of_starred : NoneFails starred
unfolding starred bit holds wide blocks seek block_of block_at write_locked read_locked finish frames find form_of place_cell shown blank fill page_buffer security_buffer reaches reaches_first command_tests frame_chip frame_cell_lem frame_reply frame_marks worked_array_lem worked_security_lem completed_chip_lem cut_chip_lem framed completed cut quick read_chip onward quick_after quick_last case_holds_lem failing_of failing
of_starred =
    refl
    next refl
    next refl
    next refl
    next refl
    next refl
    next refl
    next refl
    next refl
    next refl
    next refl
    next end

of_bursts : NoneFails bursts
unfolding bursts bit holds wide blocks seek block_of block_at write_locked read_locked finish frames find form_of burst_place place_cell shown blank fill page_buffer security_buffer reaches reaches_first command_tests frame_chip frame_cell_lem frame_reply frame_marks worked_array_lem worked_security_lem completed_chip_lem cut_chip_lem framed completed cut quick read_chip onward quick_after quick_last case_holds_lem failing_of failing
of_bursts =
    refl
    next refl
    next refl
    next refl
    next refl
    next refl
    next refl
    next end

of_reading : NoneFails sentences_of_reading
unfolding sentences_of_reading bit holds wide blocks seek block_of block_at write_locked read_locked finish frames find form_of place_cell shown blank fill page_buffer security_buffer reaches reaches_first command_tests frame_chip frame_cell_lem frame_reply frame_marks worked_array_lem worked_security_lem completed_chip_lem cut_chip_lem framed completed cut quick read_chip onward quick_after quick_last case_holds_lem failing_of failing
of_reading =
    refl
    next refl
    next refl
    next refl
    next refl
    next refl
    next refl
    next refl
    next refl
    next refl
    next refl
    next end

of_writing : NoneFails sentences_of_writing
unfolding sentences_of_writing bit holds wide blocks seek block_of block_at write_locked read_locked finish frames find form_of place_cell shown blank fill page_buffer security_buffer reaches reaches_first command_tests frame_chip frame_cell_lem frame_reply frame_marks worked_array_lem worked_security_lem completed_chip_lem cut_chip_lem framed completed cut quick read_chip onward quick_after quick_last case_holds_lem failing_of failing
of_writing =
    refl
    next refl
    next refl
    next refl
    next refl
    next refl
    next refl
    next end

of_ending : NoneFails sentences_of_ending
unfolding sentences_of_ending bit holds wide blocks seek block_of block_at write_locked read_locked finish frames find form_of place_cell shown blank fill page_buffer security_buffer reaches reaches_first command_tests frame_chip frame_cell_lem frame_reply frame_marks worked_array_lem worked_security_lem completed_chip_lem cut_chip_lem framed completed cut quick read_chip onward quick_after quick_last case_holds_lem failing_of failing
of_ending =
    refl
    next refl
    next refl
    next refl
    next refl
    next refl
    next refl
    next refl
    next refl
    next refl
    next refl
    next refl
    next refl
    next refl
    next refl
    next end

-- ---- the statements

pub starred_hold : StarredHold
unfolding starred
starred_hold = record { hold = sections_hold of_starred; whole = refl }

pub bursts_hold : BurstsHold
unfolding bursts
bursts_hold = record { hold = sections_hold of_bursts; whole = refl }

pub sentences_hold : SentencesHold
unfolding sentences_of_reading sentences_of_writing sentences_of_ending
sentences_hold =
    record {
      of_reading = record { hold = sections_hold of_reading; whole = refl };
      of_writing = record { hold = sections_hold of_writing; whole = refl };
      of_ending = record { hold = sections_hold of_ending; whole = refl };
    }
