-- Which opcodes are listed, over all 256 bytes; and the number of each, chip by chip, computed line by line. Assumes nothing.
use Prim.Native.Nat.{ℕ, ◌<◌}
use mathlib.Core.Path.{◌≡◌, refl, sym, ap, ◌∙◌}
use mathlib.Core.Bool.{Bool, true, false, not, ◌&&◌, beq}
use mathlib.Core.List.{List, [], ◌∷◌}
use Rattle.rules.specs.Words.{bit, pick, one_of, every, Each, end, ◌next◌, holds}
use Rattle.rules.specs.Blocks.{wide, blocks, seek, block_of, block_at, write_locked, read_locked}
use Rattle.rules.specs.Works.{finish}
use Rattle.rules.specs.Frames.{frames, find, form_of, listed}
use Rattle.rules.specs.Programs.{blank, fill, page_buffer, security_buffer, reaches, reaches_first}
use Rattle.rules.specs.Numbers.{State, state_right, command_tests}
use Rattle.rules.specs.Machine.{frame_chip, worked_array_lem, worked_security_lem, completed_chip_lem, cut_chip_lem, step}
use Rattle.rules.specs.Cases.{send, new_state, state_after}
use Rattle.rules.specs.CasesOfOpcodes.{spi_opcodes, sqi_opcodes, ListedOpcodes, in_spi_lem, in_sqi_lem, Line, numbers_on, numbers_by_opcode, NumbersByOpcode}
use Rattle.rules.proofs.Bools.{and_split, same_flag, upto, upto_at}
use Rattle.rules.proofs.Refusals.{framed, completed, cut}
use Rattle.rules.proofs.Quick.{read_chip, quick, fits, onward, quick_after, quick_is, after_is, after_right, new_right}

-- ---- the listed opcodes

-- two tests agree at each byte
abbrev agree : (ℕ → Bool) → (ℕ → Bool) → Bool
agree f g = upto 256 (λ o. beq (f o) (g o))

agree_at : (f g : ℕ → Bool) → agree f g ≡ true → (o : ℕ) → o < 256 → f o ≡ g o
agree_at f g e o h = same_flag (f o) (g o) (upto_at 256 (λ o. beq (f o) (g o)) e o h)

in_spi_law : agree (λ o. listed false (form_of o)) (λ o. one_of o spi_opcodes) ≡ true
unfolding form_of find frames spi_opcodes
in_spi_law = refl

in_sqi_law : agree (λ o. listed true (form_of o)) (λ o. one_of o sqi_opcodes) ≡ true
unfolding form_of find frames sqi_opcodes
in_sqi_law = refl

or_more : agree (λ o. (form_of o).more) (λ o. one_of o (0x02 ∷ 0x32 ∷ 0xA5 ∷ [])) ≡ true
unfolding form_of find frames
or_more = refl

pub listed_opcodes : ListedOpcodes
listed_opcodes = record { in_protocol = λ r o h. ap not (by r.flags.sqi o h); or_more = agree_at _ _ or_more }
  where
    by : (q : Bool) (o : ℕ) → o < 256 → listed q (form_of o) ≡ one_of o (pick q sqi_opcodes spi_opcodes)
    by true = agree_at (λ o. listed true (form_of o)) (λ o. one_of o sqi_opcodes) in_sqi_law
    by false = agree_at (λ o. listed false (form_of o)) (λ o. one_of o spi_opcodes) in_spi_law

-- ---- the numbers, chip by chip

quick_numbers : State → List (List ℕ) → List ℕ
quick_numbers s [] = []
quick_numbers s (f ∷ fs) = quick s (send f) (λ o. o.number ∷ quick_numbers s fs)

-- what antt computes of a line
abbrev Computed : Line → Type 0
Computed l =
    (every fits l.start && every (λ f. fits (send f)) l.tried ≡ true) × Each (λ p. quick_after (new_state p) l.start (λ s. quick_numbers s l.tried) ≡ l.numbers) l.parts

computed : Each Computed numbers_by_opcode
unfolding quick_numbers numbers_by_opcode in_spi_lem in_sqi_lem bit holds wide blocks seek block_of block_at write_locked read_locked finish frames find form_of blank fill page_buffer security_buffer reaches reaches_first command_tests frame_chip worked_array_lem worked_security_lem completed_chip_lem cut_chip_lem framed completed cut quick read_chip onward quick_after
computed =
    (refl, refl next end)
    next (refl, refl next refl next end)
    next (refl, refl next end)
    next (refl, refl next end)
    next (refl, refl next end)
    next (refl, refl next end)
    next (refl, refl next end)
    next (refl, refl next end)
    next (refl, refl next end)
    next (refl, refl next end)
    next (refl, refl next end)
    next (refl, refl next end)
    next (refl, refl next end)
    next (refl, refl next end)
    next (refl, refl next end)
    next (refl, refl next refl next end)
    next (refl, refl next refl next end)
    next (refl, refl next refl next end)
    next (refl, refl next end)
    next (refl, refl next end)
    next (refl, refl next end)
    next (refl, refl next end)
    next (refl, refl next refl next end)
    next (refl, refl next refl next end)
    next (refl, refl next refl next end)
    next (refl, refl next refl next end)
    next (refl, refl next refl next end)
    next (refl, refl next refl next end)
    next (refl, refl next refl next end)
    next (refl, refl next refl next end)
    next (refl, refl next end)
    next (refl, refl next refl next end)
    next (refl, refl next refl next end)
    next (refl, refl next refl next end)
    next (refl, refl next refl next end)
    next (refl, refl next refl next end)
    next (refl, refl next refl next end)
    next (refl, refl next refl next end)
    next (refl, refl next refl next end)
    next (refl, refl next refl next end)
    next (refl, refl next refl next end)
    next (refl, refl next refl next end)
    next (refl, refl next refl next end)
    next end

-- the same of the machine itself
numbers_are : (s : State) (fs : List (List ℕ)) → state_right s ≡ true → every (λ f. fits (send f)) fs ≡ true → numbers_on s fs ≡ quick_numbers s fs
unfolding quick_numbers
numbers_are s [] r h = refl
numbers_are s (f ∷ fs) r h =
    let k = and_split (fits (send f)) (every (λ f. fits (send f)) fs) h in
    ap (λ (ns : List ℕ). (step s (send f)).number ∷ ns) (numbers_are s fs r k.1) ∙ sym (quick_is s (send f) (λ o. o.number ∷ quick_numbers s fs) r k.0)

line_holds : (l : Line) (ps : List Bool) → every fits l.start ≡ true → every (λ f. fits (send f)) l.tried ≡ true
    → Each (λ p. quick_after (new_state p) l.start (λ s. quick_numbers s l.tried) ≡ l.numbers) ps
    → Each (λ p. numbers_on (state_after (new_state p) l.start) l.tried ≡ l.numbers) ps
line_holds l [] f g end = end
line_holds l (p ∷ ps) f g (e next es) =
    (numbers_are (state_after (new_state p) l.start) l.tried (after_right (new_state p) l.start (new_right p)) g
    ∙ sym (after_is (new_state p) l.start (λ s. quick_numbers s l.tried) (new_right p) f)
    ∙ e)
    next line_holds l ps f g es

lines_hold : {ls : List Line} → Each Computed ls → Each (λ l. Each (λ p. numbers_on (state_after (new_state p) l.start) l.tried ≡ l.numbers) l.parts) ls
lines_hold end = end
lines_hold (◌next◌ {x = l} e es) =
    let k = and_split (every fits l.start) (every (λ f. fits (send f)) l.tried) e.0 in line_holds l l.parts k.0 k.1 e.1
    next lines_hold es

pub numbers_by_opcode_lem : NumbersByOpcode
unfolding numbers_by_opcode
numbers_by_opcode_lem = record { hold = lines_hold computed; whole = refl }
