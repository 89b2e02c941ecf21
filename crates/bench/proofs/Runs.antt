-- Demands 2 and 3 over calls in a row: the bytes that a call leaves are the code of the machine's record, so that the next call reads that
-- record. The machine's runs then say the rest. Assumes nothing.
use Prim.Native.Nat.{ℕ, ◌<◌}
use mathlib.Core.Path.{◌≡◌, refl, sym, ap, ◌∙◌, subst}
use mathlib.Core.Bool.{Bool, true, false}
use mathlib.Core.List.{List, [], ◌∷◌}
use native.Mathlib.Decide.{dec_lt}
use native.Mathlib.Omega.{arith}
use lib.Dec.{eqb, ltb, lit<}
use lib.ListN.{length, get_or, get_or-eq_default}
use borrow.Author.Tests.{ltb-true}
use Rattle.rules.specs.declared.Chip.{Chip}
use Rattle.rules.specs.Words.{pick, every, Each, end, ◌next◌}
use Rattle.rules.specs.Programs.{blank}
use Rattle.rules.specs.Commands.{new_of}
use Rattle.rules.specs.WellFormed.{well_formed}
use Rattle.rules.specs.Machine.{Outcome, step, run, left}
use Rattle.rules.specs.Promises.{bench_of, state_of}
use Rattle.rules.specs.Demands.{Call, frame_call, completion_call, cut_call, event_of, events_of, key_place, Kept, AllKept}
use Rattle.rules.proofs.Bools.{every_at}
use Rattle.rules.proofs.Promises.{lent_one}
use Rattle.rules.proofs.WellFormed.{step_well_formed}
use Rattle.rules.proofs.Keys.{demand_3}
use Rattle.record_code.specs.Layout.{record_size, bytes, rest_code, code, is_code, chip_in, decode, Typed}
use Rattle.record_code.proofs.Faithful.{code_known, code_back}
use Rattle.bench.specs.Boundary.{LentBench, Came, lent_bench_of, state_in, Seen, CallPromise, new_bytes, NewPromise}
use Rattle.bench.specs.Refusals.{OfBytes}
use Rattle.bench.specs.Demands.{leaves, CallChain, SendsBytes, Start, outcome_in, outcomes_in, LeavesCode, Demand2OfBytes, KeptBytes, AllKeptBytes, Demand3OfBytes}
use Rattle.bench.proofs.Outcomes.{of_code}
use Rattle.bench.proofs.Typed.{read_typed, new_typed, SentBytes, step_typed}

-- ---- one call

-- bytes that are the code of a record that they can hold
record Holds (l : List ℕ) : Type 0 where
  known : is_code l ≡ true
  typed : Typed (chip_in l)

sent_bytes : (e : Call) → SendsBytes e → SentBytes (event_of e)
sent_bytes (frame_call f) h = h
sent_bytes completion_call h = tt
sent_bytes (cut_call t) h = tt

module _ (b : LentBench) (e : Call) (g : Came) (h : Holds b.bytes) (small : SendsBytes e) (p : CallPromise b e g) where
  abbrev out : Outcome
  out = step (state_in b) (event_of e)

  out_typed : Typed out.chip
  out_typed = step_typed (state_in b) (event_of e) (sent_bytes e small) h.typed

  bytes_left : g.bytes ≡ code out.chip
  bytes_left = ap (λ (s : Seen). s.bytes) (of_code b e g p h.known)

  record_left : chip_in g.bytes ≡ out.chip
  record_left = ap chip_in bytes_left ∙ code_back out.chip out_typed

  holds_after : Holds g.bytes
  holds_after = record { known = ap is_code bytes_left ∙ code_known out.chip out_typed; typed = subst Typed (sym record_left) out_typed }

  leaves_code : LeavesCode g
  leaves_code = record { known = holds_after.known; back = ap code record_left ∙ sym bytes_left }

  one_step : outcome_in g ≡ out
  one_step =
      let s = of_code b e g p h.known in
      λ i. record { number = (s i).number; chip = record_left i; array = (s i).array; security = (s i).security; reply = (s i).reply; marks = (s i).marks }

-- ---- calls in a row

chain_machine : (b : LentBench) (es : List Call) (gs : List Came) → Holds b.bytes → Each SendsBytes es → CallChain b es gs → outcomes_in gs ≡ run (state_in b) (events_of es)
unfolding run
chain_machine b [] [] h small p = refl
chain_machine b [] (g ∷ gs) h small p = absurd p
chain_machine b (e ∷ es) [] h small p = absurd p
chain_machine b (e ∷ es) (g ∷ gs) h (s next ss) p =
    ap (λ (os : List Outcome). outcome_in g ∷ os) (chain_machine (leaves g) es gs (holds_after b e g h s p.0) ss p.1)
    ∙ ap (λ (o : Outcome). o ∷ run (left o) (events_of es)) (one_step b e g h s p.0)

chain_codes : (b : LentBench) (es : List Call) (gs : List Came) → Holds b.bytes → Each SendsBytes es → CallChain b es gs → Each LeavesCode gs
chain_codes b [] [] h small p = end
chain_codes b [] (g ∷ gs) h small p = absurd p
chain_codes b (e ∷ es) [] h small p = absurd p
chain_codes b (e ∷ es) (g ∷ gs) h (s next ss) p = leaves_code b e g h s p.0 next chain_codes (leaves g) es gs (holds_after b e g h s p.0) ss p.1

chain_formed : (b : LentBench) (es : List Call) (gs : List Came) → Holds b.bytes → Each SendsBytes es → CallChain b es gs
    → well_formed (state_in b).chip ≡ true → Each (λ g. well_formed (decode g.bytes).chip ≡ true) gs
chain_formed b [] [] h small p w = end
chain_formed b [] (g ∷ gs) h small p w = absurd p
chain_formed b (e ∷ es) [] h small p w = absurd p
chain_formed b (e ∷ es) (g ∷ gs) h (s next ss) p w =
    let f : well_formed (chip_in g.bytes) ≡ true = ap well_formed (record_left b e g h s p.0) ∙ step_well_formed (state_in b) (event_of e) w in
    f next chain_formed (leaves g) es gs (holds_after b e g h s p.0) ss p.1 f

start_holds : (b : LentBench) (es : List Call) → Start b es → Holds b.bytes
start_holds b es s = record { known = s.known; typed = read_typed b.bytes s.of_bytes s.known }

pub demand_2_of_bytes : (b : LentBench) (es : List Call) (gs : List Came) → Start b es → CallChain b es gs → Demand2OfBytes b es gs
demand_2_of_bytes b es gs s p =
    let h = start_holds b es s in
    record { machine = chain_machine b es gs h s.sent p; codes = chain_codes b es gs h s.sent p; formed = chain_formed b es gs h s.sent p }

-- ---- from a new chip

-- bytes, by a test of each
all_bytes : (l : List ℕ) → every (λ x. ltb x 256) l ≡ true → OfBytes l
all_bytes l e i = go (dec_lt i (length l))
  where
    go : Dec (i < length l) → get_or l i 0 < 256
    go (yes h) = ltb-true (get_or l i 0) 256 (every_at (λ x. ltb x 256) 0 l e i h)
    go (no h) = rw (get_or-eq_default l 0 {n = i} (omega arith)) (lit< tt)

new_tested : (ba : Bool) → every (λ x. ltb x 256) (code (new_of ba)) ≡ true
unfolding code rest_code bytes blank
new_tested true = refl
new_tested false = refl

-- what fulkibono_new and fulkibono_new_old write
new_code : (ba : Bool) (bytes l : List ℕ) → NewPromise ba bytes 0 l → l ≡ code (new_of ba)
unfolding new_bytes
new_code ba bytes l p = go (eqb (length bytes) record_size) p.outcome
  where
    go : (x : Bool) → ◌≡◌ {A = ℕ × List ℕ} (0, l) (pick x (0, code (new_of ba)) (1, bytes)) → l ≡ code (new_of ba)
    go true e = ap (λ (q : ℕ × List ℕ). q.1) e
    go false e = absurd (let z : ◌≡◌ {A = ℕ} 0 1 = ap (λ (q : ℕ × List ℕ). q.0) e in omega arith)

-- calls in a row, the first of them fulkibono_new's or fulkibono_new_old's, are the machine's run from a new chip of that part
pub run_from_new : (ba : Bool) (bytes l array security : List ℕ) (es : List Call) (gs : List Came) → NewPromise ba bytes 0 l → Each SendsBytes es → CallChain (lent_bench_of l array security) es gs
    → outcomes_in gs ≡ run (state_of (bench_of (new_of ba) array security)) (events_of es)
run_from_new ba bytes l array security es gs p small q =
    let e = new_code ba bytes l p in
    (demand_2_of_bytes (lent_bench_of l array security) es gs (record { known = ap is_code e ∙ code_known (new_of ba) (new_typed ba); of_bytes = subst OfBytes (sym e) (all_bytes (code (new_of ba)) (new_tested ba)); sent = small }) q).machine
    ∙ ap (λ (c : Chip). run (state_of (bench_of c array security)) (events_of es)) (ap chip_in e ∙ code_back (new_of ba) (new_typed ba))

-- ---- two benches

kept_bytes : (b d : LentBench) (g h : Came) → LeavesCode g → LeavesCode h → Kept key_place (state_in b) (state_in d) (outcome_in g) (outcome_in h) → KeptBytes b d g h
kept_bytes b d g h c k q =
    record {
      same_number = q.same_number;
      same_bytes = sym c.back ∙ ap code q.same_record ∙ k.back;
      same_security = lent_one g.security h.security q.same_security;
      same_reply = lent_one g.reply h.reply q.same_reply;
      same_marks = lent_one g.marks h.marks q.same_marks;
      same_size = q.same_size;
      alike = q.alike;
      first_keys = q.first_keys;
      second_keys = q.second_keys;
    }

all_kept : (b d : LentBench) (gs hs : List Came) → Each LeavesCode gs → Each LeavesCode hs
    → AllKept key_place (state_in b) (state_in d) (outcomes_in gs) (outcomes_in hs) → AllKeptBytes b d gs hs
all_kept b d [] [] cs ks q = tt
all_kept b d [] (h ∷ hs) cs ks q = absurd q
all_kept b d (g ∷ gs) [] cs ks q = absurd q
all_kept b d (g ∷ gs) (h ∷ hs) (c next cs) (k next ks) q = (kept_bytes b d g h c k q.0, all_kept b d gs hs cs ks q.1)

pub demand_3_of_bytes : Demand3OfBytes
demand_3_of_bytes b d es gs hs s z c u p q =
    let m = demand_2_of_bytes b es gs s p in
    let n = demand_2_of_bytes d es hs z q in
    all_kept b d gs hs m.codes n.codes
    (subst (λ (os : List Outcome). AllKept key_place (state_in b) (state_in d) os (outcomes_in hs)) (sym m.machine)
    (subst (λ (os : List Outcome). AllKept key_place (state_in b) (state_in d) (run (state_in b) (events_of es)) os) (sym n.machine)
    (demand_3 (state_in b) (state_in d) (events_of es) c u)))
