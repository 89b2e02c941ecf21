-- Demands 2 and 3 over calls of the exported functions in a row. Proved in proofs/Runs.
use Rattle.std.specs.Prelude.{ℕ, ◌<◌, ◌≡◌, true, false, List, [], ◌∷◌, length, get_or}
use Rattle.rules.specs.Words.{Each, lent}
use Rattle.rules.specs.Blocks.{array_size_lem}
use Rattle.rules.specs.WellFormed.{well_formed}
use Rattle.rules.specs.Machine.{Outcome, run}
use Rattle.rules.specs.Demands.{Call, frame_call, completion_call, cut_call, events_of, key_place, TwoChips, Uncut}
use Rattle.record_code.specs.Layout.{code, decode}
use Rattle.bench.specs.Boundary.{LentBench, Came, lent_bench_of, state_in, CallPromise}
use Rattle.bench.specs.Refusals.{OfBytes}

-- ---- calls in a row

-- what a call leaves to the next
abbrev pub leaves : Came → LentBench
leaves g = lent_bench_of g.bytes g.array g.security

-- each call's guarantee holds at the bytes that the call before it left
abbrev pub CallChain : LentBench → List Call → List Came → Type 0
CallChain b [] [] = Unit {0}
CallChain b [] (g ∷ gs) = ⊥
CallChain b (e ∷ es) [] = ⊥
CallChain b (e ∷ es) (g ∷ gs) = CallPromise b e g × CallChain (leaves g) es gs

-- each frame sends bytes
abbrev pub SendsBytes : Call → Type 0
SendsBytes (frame_call f) = OfBytes f.sent
SendsBytes completion_call = Unit {0}
SendsBytes (cut_call t) = Unit {0}

-- the record's bytes are a code, and what is lent is bytes
pub record Start (b : LentBench) (es : List Call) : Type 0 where
  pub known : (decode b.bytes).known ≡ true
  pub of_bytes : OfBytes b.bytes
  pub sent : Each SendsBytes es

-- ---- Demand 2: it is the rule book, over every run of calls

-- what came as an outcome of the machine, its record read from its code
abbrev pub outcome_in : Came → Outcome
outcome_in g =
    record {
      number = g.number;
      chip = (decode g.bytes).chip;
      array = lent g.array;
      security = lent g.security;
      reply = lent g.reply;
      marks = lent g.marks;
    }

abbrev pub outcomes_in : List Came → List Outcome
outcomes_in [] = []
outcomes_in (g ∷ gs) = outcome_in g ∷ outcomes_in gs

-- the bytes left are the code of the record in them
pub record LeavesCode (g : Came) : Type 0 where
  pub known : (decode g.bytes).known ≡ true
  pub back : code (decode g.bytes).chip ≡ g.bytes

-- every outcome is the machine's, call by call; every record left is a code, and well-formed if the first one is
pub record Demand2OfBytes (b : LentBench) (es : List Call) (gs : List Came) : Type 0 where
  pub machine : outcomes_in gs ≡ run (state_in b) (events_of es)
  pub codes : Each LeavesCode gs
  pub formed : well_formed (state_in b).chip ≡ true → Each (λ g. well_formed (decode g.bytes).chip ≡ true) gs

-- ---- Demand 3: it keeps keys

-- after a call: nothing lent tells the two apart but the key bytes, and each chip's own are what they were at the start
pub record KeptBytes (b d : LentBench) (g h : Came) : Type 0 where
  pub same_number : g.number ≡ h.number
  pub same_bytes : g.bytes ≡ h.bytes
  pub same_security : g.security ≡ h.security
  pub same_reply : g.reply ≡ h.reply
  pub same_marks : g.marks ≡ h.marks
  pub same_size : length g.array ≡ length h.array
  pub alike : (a : ℕ) → a < array_size_lem → key_place (state_in b).chip.rest.locks.protection a ≡ false → get_or g.array a 0 ≡ get_or h.array a 0
  pub first_keys : (a : ℕ) → a < array_size_lem → key_place (state_in b).chip.rest.locks.protection a ≡ true → get_or g.array a 0 ≡ get_or b.array a 0
  pub second_keys : (a : ℕ) → a < array_size_lem → key_place (state_in b).chip.rest.locks.protection a ≡ true → get_or h.array a 0 ≡ get_or d.array a 0

abbrev pub AllKeptBytes : LentBench → LentBench → List Came → List Came → Type 0
AllKeptBytes b d [] [] = Unit {0}
AllKeptBytes b d [] (h ∷ hs) = ⊥
AllKeptBytes b d (g ∷ gs) [] = ⊥
AllKeptBytes b d (g ∷ gs) (h ∷ hs) = KeptBytes b d g h × AllKeptBytes b d gs hs

-- two benches with the same calls, frames and completions; TwoChips says how they are alike
abbrev pub Demand3OfBytes : Type 0
Demand3OfBytes =
    (b d : LentBench) (es : List Call) (gs hs : List Came) → Start b es → Start d es
    → TwoChips key_place true (state_in b) (state_in d) → Uncut (events_of es) → CallChain b es gs → CallChain d es hs
    → AllKeptBytes b d gs hs
