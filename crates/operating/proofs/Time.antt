-- When the completion comes: not before the first status read of a busy chip, and before the second. Assumes nothing.
use Prim.Native.Nat.{ℕ, ◌≤◌}
use mathlib.Core.Path.{◌≡◌, refl, sym, ap, ◌∙◌, subst}
use mathlib.Core.Bool.{Bool, true, false, ◌&&◌, ◌||◌}
use native.Mathlib.Omega.{arith}
use lib.Dec.{eqb}
use borrow.Author.Tests.{eqb-true, ne_eqb}
use Rattle.rules.specs.declared.Chip.{Chip}
use Rattle.rules.specs.Registers.{busy}
use Rattle.rules.specs.Frames.{opcode}
use Rattle.rules.specs.Numbers.{State, Frame}
use Rattle.rules.specs.Machine.{frame, completion, left}
use Rattle.rules.specs.Tears.{with_tear, cleanly, DropsAs01}
use Rattle.rules.proofs.Tears.{frames_leave, reset_as_01}
use Rattle.operating.specs.declared.Bench.{Bench}
use Rattle.operating.specs.Operations.{due_before, reads_after, settled_state, finished, operated, untorn, NothingTorn}

neither : (b : Bool) → (b && false) ≡ false
neither true = refl
neither false = refl

-- ---- what an operation is

-- with no status read counted, the frame alone
pub first_read : (b : Bench) (s : State) (f : Frame) → b.reads ≡ 0 → operated b s f ≡ finished b (opcode f.sent) (frame s f)
unfolding operated
first_read b s f e =
    ap (λ (t : Bool). finished b (opcode f.sent) (frame (settled_state t s) f))
    (ap (λ (n : ℕ). due_before (busy b.chip.rest) n (opcode f.sent)) e ∙ neither (busy b.chip.rest && eqb (opcode f.sent) 0x05))

-- a second status read of a busy chip: the completion, and then the frame
pub second_read : (b : Bench) (s : State) (f : Frame) → busy b.chip.rest ≡ true → b.reads ≡ 1 → opcode f.sent ≡ 0x05
    → operated b s f ≡ finished b (opcode f.sent) (frame (left (completion s)) f)
unfolding operated
second_read b s f eb er eo =
    ap (λ (t : Bool). finished b (opcode f.sent) (frame (settled_state t s) f)) (λ i. due_before (eb i) (er i) (eo i))

-- any other frame: the frame alone
pub other_frame : (b : Bench) (s : State) (f : Frame) → (opcode f.sent ≡ 0x05 → ⊥) → operated b s f ≡ finished b (opcode f.sent) (frame s f)
unfolding operated
other_frame b s f n =
    ap (λ (t : Bool). finished b (opcode f.sent) (frame (settled_state t s) f))
    (ap (λ (t : Bool). busy b.chip.rest && t && eqb b.reads 1) (ne_eqb (opcode f.sent) 0x05 n) ∙ ap (λ (t : Bool). t && eqb b.reads 1) (neither (busy b.chip.rest)))

-- ---- the count

-- a status read that leaves the chip busy is counted, another frame is not, and an idle chip has none
pub counted : (n : ℕ) → reads_after true n 0x05 ≡ 1
counted n = refl

pub not_counted : (n op : ℕ) → (op ≡ 0x05 → ⊥) → reads_after true n op ≡ n
not_counted n op h = rw (ne_eqb op 0x05 h)

pub idle : (n op : ℕ) → reads_after false n op ≡ 0
idle n op = refl

pub reads_few : (t : Bool) (n op : ℕ) → n ≤ 1 → reads_after t n op ≤ 1
reads_few false n op h = omega arith
reads_few true n op h = go (eqb op 0x05) refl
  where
    go : (u : Bool) → eqb op 0x05 ≡ u → reads_after true n op ≤ 1
    go true e = rw e (omega arith)
    go false e = rw e h

-- ---- a reset tears nothing

pub nothing_torn : NothingTorn
unfolding operated
nothing_torn b s f same array security = go (eqb (opcode f.sent) 0x99) refl
  where
    g : Frame
    g = with_tear (untorn b).tear f

    t : State
    t = settled_state (due_before (busy b.chip.rest) b.reads (opcode f.sent)) s

    -- 99 is no status read
    reset : opcode f.sent ≡ 0x99 → due_before (busy b.chip.rest) b.reads (opcode f.sent) ≡ false
    reset o = ap (λ (t : Bool). busy b.chip.rest && t && eqb b.reads 1) (ap (λ (x : ℕ). eqb x 0x05) o) ∙ ap (λ (t : Bool). t && eqb b.reads 1) (neither (busy b.chip.rest))

    as_01 : DropsAs01 s (frame s g) f.sent
    as_01 = subst (λ (c : Chip). DropsAs01 s (frame s (with_tear (cleanly c.rest.works.running 0) f)) f.sent) same (reset_as_01 s f array security)

    go : (x : Bool) → eqb (opcode f.sent) 0x99 ≡ x → ((frame t g).array ≡ t.array) × ((frame t g).security ≡ t.security)
    go true e =
        let d = ap (λ (x : Bool). settled_state x s) (reset (eqb-true (opcode f.sent) 0x99 e)) in
        (ap (λ (q : State). (frame q g).array) d ∙ as_01.array ∙ ap (λ (q : State). q.array) (sym d), ap (λ (q : State). (frame q g).security) d ∙ as_01.security ∙ ap (λ (q : State). q.security) (sym d))
    go false e = frames_leave t g (ap (λ (x : Bool). eqb (frame t g).number 0 && (x || false) && busy t.chip.rest) e ∙ ap (λ (x : Bool). x && busy t.chip.rest) (neither (eqb (frame t g).number 0)))
