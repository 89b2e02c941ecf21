-- No second outcome: whatever meets the guarantee of a public function of this crate at the same input is the same result. A first place is one
-- place; the rest are equations. Assumes nothing.
use Prim.Native.Nat.{ℕ}
use mathlib.Core.Path.{◌≡◌, sym, ap, ◌∙◌}
use mathlib.Core.Bool.{Bool, true, false}
use mathlib.Core.List.{List}
use lib.Dec.{eqb}
use lib.ListN.{length}
use Rattle.rules.specs.Words.{pick}
use Rattle.rules.specs.Blocks.{array_size_lem, security_size_lem}
use Rattle.rules.proofs.Promises.{one}
use Rattle.rules.proofs.Outcomes.{OneResult}
use Rattle.grammar.specs.Slots as slots
use Rattle.script.specs.declared.Line.{Line}
use Rattle.fields.specs.Records.{slot}
use Rattle.expecting.proofs.Firsts.{first_one}
use Rattle.standing.specs.declared.Playing.{Playing}
use Rattle.standing.specs.declared.Question.{Question}
use Rattle.standing.specs.Benches.{front}
use Rattle.asking.specs.Questions.{Compared, compared_to, ComparedIf, registers_of, silent, QuestionPlayed}
use Rattle.asking.proofs.played.Reads as played

compared_one : (p : Playing) (start n : ℕ) (M E K : List ℕ) (r r' : Playing) → Compared p start n M E K r → Compared p start n M E K r' → r ≡ r'
compared_one p start n M E K r r' h k =
    h.playing
    ∙ ap (λ (x : ℕ). compared_to p x (length M) start n (length E)) (first_one _ _ r.held r'.held h.first k.first)
    ∙ sym k.playing

if_one : (b : Bool) (p : Playing) (start n : ℕ) (M E K : List ℕ) (r r' : Playing) → ComparedIf b p start n M E K r → ComparedIf b p start n M E K r' → r ≡ r'
if_one true p start n M E K r r' h k = one h k
if_one false p start n M E K r r' h k = compared_one p start n M E K r r' h k

pub question_one : (q : Question) (p : Playing) (l : Line) (A S E K : List ℕ) (r r' : Playing) → QuestionPlayed q p l A S E K r → QuestionPlayed q p l A S E K r' → r ≡ r'
question_one Question.Status p l A S E K r r' h k =
    let x = front l.expected E in
    if_one (silent l) p 0 (length x) (registers_of p.bench.chip.rest) x (front l.expected K) r r' h k
question_one Question.Work p l A S E K r r' h k = one h k
question_one Question.Locks p l A S E K r r' h k = one h k
question_one Question.Dump p l A S E K r r' h k =
    let memory = pick (eqb (slot l.slots slots.of_id) 0) (front array_size_lem A) (front security_size_lem S) in
    if_one (silent l) p (slot l.slots slots.from) (slot l.slots slots.size) memory (front l.expected E) (front l.expected K) r r' h k
question_one Question.Is p l A S E K r r' h k = one h k

pub played_one : OneResult played.Post
played_one κ a x y r r' p q =
    question_one a.1.0 a.0 a.1.1.0 a.1.1.1.0.now a.1.1.1.1.0.now a.1.1.1.1.1.0.now a.1.1.1.1.1.1.0.now r r' p q
