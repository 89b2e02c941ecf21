-- Why refusal 8 was given, behind a row: from the work before the event and the opcode.
use Rattle.std.specs.Prelude.{ℕ, [], ◌∷◌, eqb}
use Rattle.rules.specs.declared.Work.{Work}
use Rattle.rules.specs.Words.{pick, one_of}
use Rattle.rules.specs.Works.{is_nothing, is_erase}
use Rattle.writing.specs.declared.Row.{Row}
use Rattle.page.specs.Page.{form}
use Rattle.describing.specs.Works.{told, work, places}

-- 8, clause by clause: what is suspended, or what B0 cannot put aside
unfoldable pub suspend_why : Work → Work → Row → Row
suspend_why running suspended r =
    pick (is_nothing suspended) (pick (is_nothing running) (form 63 0 0 0 r) (form 64 0 0 0 (work (told running) r))) (form 65 0 0 0 (work (told suspended) r))

-- the clause of a suspended erase and of a suspended program
unfoldable pub clause : Work → ℕ → ℕ
clause suspended o =
    pick (one_of o (0xC7 ∷ 0x01 ∷ 0x42 ∷ 0x8D ∷ 0xE8 ∷ 0x98 ∷ 0xA5 ∷ 0x85 ∷ [])) 67
    (pick (is_erase suspended) (pick (one_of o (0x20 ∷ 0xD8 ∷ [])) 68 69) (pick (one_of o (0x02 ∷ 0x32 ∷ [])) 70 71))

unfoldable pub suspension_why : Work → Work → ℕ → Row → Row
suspension_why running suspended o r =
    pick (eqb o 0xB0) (suspend_why running suspended r)
    (pick (eqb o 0x30) (form 66 0 0 0 r) (form (clause suspended o) 0 0 0 (places (told suspended) (work (told suspended) r))))
