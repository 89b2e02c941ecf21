-- W-205: the rows of what a line stopped, and of the byte that it tore. docs/PLAYER.md: "a reset and a power cut say after how much of what ran they came, and,
-- where m is said, which byte was torn and what it is now; what is said and not used is told to be so".
use Rattle.std.specs.Prelude.{ℕ, ◌+◌, ◌%◌, Bool, not, ◌&&◌, ◌||◌, List, eqb, ltb, get_or}
use Rattle.rules.specs.declared.Work.{Work}
use Rattle.rules.specs.Words.{pick}
use Rattle.rules.specs.Works.{is_nothing}
use Rattle.rules.specs.Frames.{opcode}
use Rattle.grammar.specs.Slots as slots
use Rattle.grammar.specs.Verbs as verbs
use Rattle.fields.specs.Records.{slot}
use Rattle.writing.specs.declared.Row.{Row}
use Rattle.writing.specs.Rows.{blank}
use Rattle.page.specs.Page.{form}
use Rattle.describing.specs.Works.{Told, told, work, cut_after}
use Rattle.rows.specs.Events.{below}

-- a power cut or a 99 that came to 0, where something ran before it
unfoldable pub stops : ℕ → ℕ → Work → List ℕ → Bool
stops verb number ran sent = eqb number 0 && not (is_nothing ran) && (eqb verb verbs.cut || eqb verb verbs.frame && eqb (opcode sent) 0x99)

-- of a 99, after how much of what ran it came; the row of a power cut says that itself
unfoldable pub stopped_row : ℕ → ℕ → Work → ℕ → List ℕ → Row
stopped_row verb number ran k sent = pick (eqb verb verbs.frame && stops verb number ran sent) (cut_after (told ran) k (work (told ran) (form 1 0 0 0 blank))) blank

-- the torn byte's place, in the array or the Security ID (316), m, and what it is now
unfoldable pub byte_row : Told → ℕ → ℕ → List ℕ → List ℕ → Row
byte_row t k m array security =
    pick (eqb t.security 0) (below 315 (t.start + k) m (get_or array (t.start + k) 0)) (below 316 (t.start + k) m (get_or security (t.start + k) 0))

-- the range may have no byte k
unfoldable pub torn_of : Told → ℕ → ℕ → List ℕ → List ℕ → Row
torn_of t k m array security = pick (ltb k t.size) (byte_row t k m array security) (below 317 m k 0)

-- v is the slot of the byte: 0 where none is said, else 256 more than it. A frame that says k or m and stops nothing; a power cut that says m, where nothing runs
unfoldable pub unused : ℕ → ℕ → ℕ → ℕ → Row
unused verb number k v =
    pick (eqb verb verbs.frame && (not (eqb k 0) || not (eqb v 0))) (below 318 0 0 0)
    (pick (eqb verb verbs.cut && eqb number 0 && not (eqb v 0)) (below 317 (v % 256) k 0) blank)

unfoldable pub torn_row : ℕ → ℕ → Work → List ℕ → List ℕ → List ℕ → List ℕ → Row
torn_row verb number ran s sent array security =
    pick (stops verb number ran sent)
    (pick (eqb (slot s slots.tearing) 0) blank (torn_of (told ran) (slot s slots.from) (slot s slots.tearing % 256) array security))
    (unused verb number (slot s slots.from) (slot s slots.tearing))
