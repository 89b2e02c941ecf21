-- Why a number was given, behind a row: from the record before the event and the frame.
use Rattle.std.specs.Prelude.{ℕ, ◌^◌, Bool, not, List, [], ◌∷◌, eqb, ltb, length}
use Rattle.std.specs.Int.Bits.{bit_and}
use Rattle.rules.specs.declared.Chip.{Chip}
use Rattle.rules.specs.declared.Rest.{Rest}
use Rattle.rules.specs.declared.Works.{Works}
use Rattle.rules.specs.declared.Locks.{Locks}
use Rattle.rules.specs.Words.{pick, one_of}
use Rattle.rules.specs.Blocks.{read_locks, unlocked}
use Rattle.rules.specs.Works.{array_range}
use Rattle.rules.specs.Frames.{form_of, least_length, sent_byte, opcode}
use Rattle.rules.specs.WellFormed.{numbers_right, suspended_right_lem, beside_right, security_right}
use Rattle.writing.specs.declared.Row.{Row}
use Rattle.page.specs.Page.{form}
use Rattle.suspension.specs.Suspension.{suspension_why}
use Rattle.locked.specs.Locked.{locked_why}
use Rattle.describing.specs.Works.{told, work, places}

-- 3: not listed, or listed in the other protocol
unfoldable pub not_listed_why : ℕ → Row → Row
not_listed_why o r = form (pick (eqb (form_of o).spi 0) (pick (eqb (form_of o).sqi 0) 53 55) 54) o 0 0 r

-- 4: how many bytes were sent, and how many the opcode takes in this protocol
unfoldable pub length_why : Bool → ℕ → ℕ → Row → Row
length_why sqi o n r = form (pick (form_of o).more (pick sqi 59 58) (pick sqi 57 56)) n o (least_length sqi (form_of o)) r

-- 10, which of the three
unfoldable pub closed_why : Bool → ℕ → Row → Row
closed_why sec o r = form (pick (one_of o (0x42 ∷ 0x98 ∷ [])) 73 (pick sec 74 75)) 0 0 0 r

-- of the numbers from 2 on; the number's own words stand in forms 24 and on
unfoldable pub why : ℕ → Rest → List ℕ → Row → Row
why n c sent r =
    pick (eqb n 2) (form 52 0 0 0 r)
    (pick (eqb n 3) (not_listed_why (opcode sent) r)
    (pick (eqb n 4) (length_why c.flags.sqi (opcode sent) (length sent) r)
    (pick (eqb n 5) (form 60 0 0 0 (places (told c.works.running) (work (told c.works.running) r)))
    (pick (eqb n 6) (form 61 0 0 0 r)
    (pick (eqb n 7) (form 62 0 0 0 r)
    (pick (eqb n 8) (suspension_why c.works.running c.works.suspended (opcode sent) r)
    (pick (eqb n 9) (form 72 0 0 0 r)
    (pick (eqb n 10) (closed_why c.flags.sec (opcode sent) r)
    (pick (eqb n 11) (locked_why c (opcode sent) sent r)
    (pick (eqb n 13) (form 79 (sent_byte sent 1) 0 0 r)
    (form 63 0 0 0 r)))))))))))

-- ---- 1: which length, or which sentence of a well-formed record

-- the form of the first sentence that does not hold, 85 and on in their order there: of the registers (89: all hold),
unfoldable pub locks_sentence : Locks → ℕ
locks_sentence l =
    pick (not (ltb l.protection (2 ^ 48))) 85
    (pick (not (ltb l.permanent (2 ^ 48))) 86
    (pick (not (eqb (bit_and l.permanent read_locks) 0)) 87
    (pick (not (eqb (bit_and l.permanent l.protection) l.permanent)) 88 89)))

-- of the sectors, blocks and pages (91: all hold),
unfoldable pub numbers_sentence : Works → ℕ
numbers_sentence w = pick (not (numbers_right w.running)) 89 (pick (not (numbers_right w.suspended)) 90 91)

-- and of the work, the last one where the others hold
unfoldable pub works_sentence : ℕ → Bool → List ℕ → Works → ℕ
works_sentence p sec b w =
    pick (not (suspended_right_lem w.suspended)) 91
    (pick (not (beside_right w.running w.suspended)) 92
    (pick (not (unlocked p (array_range w.running))) 93
    (pick (not (unlocked p (array_range w.suspended))) 94
    (pick (not (security_right w.running sec b)) 95 96))))

unfoldable pub sentence : Chip → ℕ
sentence c =
    pick (ltb (locks_sentence c.rest.locks) 89) (locks_sentence c.rest.locks)
    (pick (ltb (numbers_sentence c.rest.works) 91) (numbers_sentence c.rest.works)
    (works_sentence c.rest.locks.protection c.rest.flags.sec c.buffer c.rest.works))

-- the lengths lent: of the array and the Security ID, and of a frame, its reply and its marks (all 0 of the other events)
unfoldable pub malformed_why : ℕ → ℕ → ℕ → ℕ → ℕ → Chip → Row → Row
malformed_why array security sent reply marks c r =
    pick (not (eqb array 2097152)) (form 80 array 0 0 r)
    (pick (not (eqb security 2048)) (form 81 security 0 0 r)
    (pick (ltb 65536 sent) (form 82 0 0 0 r)
    (pick (ltb 65536 reply) (form 83 0 0 0 r)
    (pick (not (eqb reply marks)) (form 84 reply marks 0 r)
    (form (sentence c) 0 0 0 r)))))
