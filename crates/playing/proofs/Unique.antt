-- No second outcome: whatever meets the guarantee of a public function of this crate at the same input is the same result and the same lent memory.
-- What a byte leaves of the line read is one; a line is played by what it asks for, each of which leaves one outcome. Assumes nothing.
use Prim.Native.Nat.{ℕ}
use mathlib.Core.Path.{◌≡◌, subst}
use mathlib.Core.Bool.{Bool, true, false}
use mathlib.Core.List.{List}
use Rattle.rules.proofs.Promises.{one, lent_one}
use Rattle.rules.proofs.Outcomes.{OneOutcome}
use Rattle.script.specs.declared.Line.{Line}
use Rattle.script.specs.Lines.{Held, held, line_of}
use Rattle.standing.specs.declared.Deed.{Deed}
use Rattle.standing.specs.declared.Playing.{Playing}
use Rattle.standing.specs.Deeds.{deed_of}
use Rattle.standing.specs.Benches.{with_reading, next_line}
use Rattle.asking.proofs.Unique.{question_one}
use Rattle.happening.proofs.Unique.{Same, event_one}
use Rattle.playing.specs.Lines.{Untouched, Done, PlayedIf}
use Rattle.playing.proofs.take.Reads as take

-- ---- a line

untouched_one : {r r' : Playing} {A S R M A₁ A₂ S₁ S₂ R₁ R₂ M₁ M₂ : List ℕ} → r ≡ r' → Untouched A S R M A₁ S₁ R₁ M₁ → Untouched A S R M A₂ S₂ R₂ M₂ → Same r r' A₁ A₂ S₁ S₂ R₁ R₂ M₁ M₂
untouched_one e h k =
    record { result = e; array_same = one h.array_is k.array_is; security_same = one h.security_is k.security_is; reply_same = one h.reply_is k.reply_is; marks_same = one h.marks_are k.marks_are }

done_one : (d : Deed) (p : Playing) (l : Line) (A S F E K R M : List ℕ) (r r' : Playing) (A₁ A₂ S₁ S₂ R₁ R₂ M₁ M₂ : List ℕ)
    → Done d p l A S F E K R M r A₁ S₁ R₁ M₁ → Done d p l A S F E K R M r' A₂ S₂ R₂ M₂ → Same r r' A₁ A₂ S₁ S₂ R₁ R₂ M₁ M₂
done_one Deed.Nothing p l A S F E K R M r r' A₁ A₂ S₁ S₂ R₁ R₂ M₁ M₂ h k = untouched_one (one h.0 k.0) h.1 k.1
done_one (Deed.Event e) p l A S F E K R M r r' A₁ A₂ S₁ S₂ R₁ R₂ M₁ M₂ h k = event_one p e l A S F E K R M r r' A₁ A₂ S₁ S₂ R₁ R₂ M₁ M₂ h k
done_one (Deed.Setting s) p l A S F E K R M r r' A₁ A₂ S₁ S₂ R₁ R₂ M₁ M₂ h k =
    record {
      result = one h.0.playing k.0.playing;
      array_same = lent_one A₁ A₂ (one h.0.arranged.array_is k.0.arranged.array_is);
      security_same = lent_one S₁ S₂ (one h.0.arranged.security_is k.0.arranged.security_is);
      reply_same = one h.1.0 k.1.0;
      marks_same = one h.1.1 k.1.1;
    }
done_one (Deed.Question q) p l A S F E K R M r r' A₁ A₂ S₁ S₂ R₁ R₂ M₁ M₂ h k = untouched_one (question_one q p l A S E K r r' h.0 k.0) h.1 k.1
done_one (Deed.Post f) p l A S F E K R M r r' A₁ A₂ S₁ S₂ R₁ R₂ M₁ M₂ h k = untouched_one (one h.0 k.0) h.1 k.1
done_one (Deed.Call f) p l A S F E K R M r r' A₁ A₂ S₁ S₂ R₁ R₂ M₁ M₂ h k = untouched_one (one h.0 k.0) h.1 k.1
done_one Deed.Wrong p l A S F E K R M r r' A₁ A₂ S₁ S₂ R₁ R₂ M₁ M₂ h k = untouched_one (one h.0 k.0) h.1 k.1

if_one : (b : Bool) (p : Playing) (A S F E K R M : List ℕ) (r r' : Playing) (A₁ A₂ S₁ S₂ R₁ R₂ M₁ M₂ : List ℕ)
    → PlayedIf b p A S F E K R M r A₁ S₁ R₁ M₁ → PlayedIf b p A S F E K R M r' A₂ S₂ R₂ M₂ → Same r r' A₁ A₂ S₁ S₂ R₁ R₂ M₁ M₂
if_one true p A S F E K R M r r' A₁ A₂ S₁ S₂ R₁ R₂ M₁ M₂ h k =
    done_one (deed_of (line_of p.reading).verb) (next_line p) (line_of p.reading) A S F E K R M r r' A₁ A₂ S₁ S₂ R₁ R₂ M₁ M₂ h k
if_one false p A S F E K R M r r' A₁ A₂ S₁ S₂ R₁ R₂ M₁ M₂ h k = untouched_one (one h.0 k.0) h.1 k.1

-- ---- a byte

-- the line is played with what was read
abbrev PlayedWith : Playing → List ℕ → List ℕ → List ℕ → List ℕ → Playing → List ℕ → List ℕ → List ℕ → List ℕ → Held → Type 0
PlayedWith p A S R M r A' S' R' M' h = PlayedIf h.reading.ended (with_reading p h.reading) A S h.frame h.expected h.known R M r A' S' R' M'

with_one : (p : Playing) (A S R M : List ℕ) (r r' : Playing) (A₁ A₂ S₁ S₂ R₁ R₂ M₁ M₂ : List ℕ) (g h : Held) → g ≡ h
    → PlayedWith p A S R M r A₁ S₁ R₁ M₁ g → PlayedWith p A S R M r' A₂ S₂ R₂ M₂ h → Same r r' A₁ A₂ S₁ S₂ R₁ R₂ M₁ M₂
with_one p A S R M r r' A₁ A₂ S₁ S₂ R₁ R₂ M₁ M₂ g h e x y =
    if_one h.reading.ended (with_reading p h.reading) A S h.frame h.expected h.known R M r r' A₁ A₂ S₁ S₂ R₁ R₂ M₁ M₂
    (subst (λ (z : Held). PlayedWith p A S R M r A₁ S₁ R₁ M₁ z) e x)
    y

-- the result; the array and the Security ID; the frame, the expected bytes, their kinds and the remark; the reply and the marks
pub take_one : OneOutcome {S = Playing × List ℕ × List ℕ × List ℕ × List ℕ × List ℕ × List ℕ × List ℕ × List ℕ} take.Post (λ r x. (r, x.1.1.0.now, x.1.1.1.0.now, x.1.1.1.1.0.now, x.1.1.1.1.1.0.now, x.1.1.1.1.1.1.0.now, x.1.1.1.1.1.1.1.0.now, x.1.1.1.1.1.1.1.1.0.now, x.1.1.1.1.1.1.1.1.1.0.now))
take_one κ a x y r r' p q =
    let e = one p.read.outcome q.read.outcome in
    let s = with_one a.0 a.1.1.0.now a.1.1.1.0.now a.1.1.1.1.1.1.1.1.0.now a.1.1.1.1.1.1.1.1.1.0.now r r' x.1.1.0.now y.1.1.0.now x.1.1.1.0.now y.1.1.1.0.now x.1.1.1.1.1.1.1.1.0.now y.1.1.1.1.1.1.1.1.0.now x.1.1.1.1.1.1.1.1.1.0.now y.1.1.1.1.1.1.1.1.1.0.now (held p.reading x.1.1.1.1.0.now x.1.1.1.1.1.0.now x.1.1.1.1.1.1.0.now) (held q.reading y.1.1.1.1.0.now y.1.1.1.1.1.0.now y.1.1.1.1.1.1.0.now) e p.played q.played in
    λ i. (s.result i, s.array_same i, s.security_same i, (e i).frame, (e i).expected, (e i).known, one p.read.remarks q.read.remarks i, s.reply_same i, s.marks_same i)
