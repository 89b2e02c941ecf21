-- An operation on parts of the slices is the session's. Assumes nothing.
use Prim.Native.Nat.{ℕ, ◌+◌, min}
use mathlib.Core.Path.{◌≡◌, ap}
use mathlib.Core.List.{List, ◌++◌}
use lib.ListN.{length, take, drop}
use Rattle.serprog.specs.Commands.{send_length}
use Rattle.operating.specs.declared.Bench.{Bench}
use Rattle.operating.specs.Operations.{AnswerPromise}
use Rattle.hearing.specs.declared.Heard.{Heard}
use Rattle.serving.specs.Sessions.{serving, receives, Operated}
use Rattle.serving.proofs.Parts.{take_min, part_taken, part_dropped}

module _ (h : Heard) (b : Bench) (A S T W M : List ℕ) (j k s n m : ℕ) (ej : j ≡ send_length h.given) (ek : k ≡ receives h)
    (es : s ≡ min j (length T)) (en : n ≡ min (k + 1) (length W)) (em : m ≡ min k (length M)) where
  pub operation_of : (A' S' W' M' : List ℕ) (r : Bench) → length W' ≡ length (take n W) → length M' ≡ length (take m M)
      → AnswerPromise b A S (take s T) (take n W) (take m M) r A' S' W' M'
      → Operated h b A S T W M (serving r h (k + 1)) A' S' (W' ++ drop n W) (M' ++ drop m M)
  operation_of A' S' W' M' r kw km p =
      record {
        serving_is = ap (λ (x : ℕ). serving r h (x + 1)) ek;
        operation =
            rw (← ek, ← ej, part_taken (k + 1) n W en W' kw, part_taken k m M em M' km, ← take_min j s T es, ← take_min (k + 1) n W en, ← take_min k m M em) p;
        answer_rest = rw (← ek) (part_dropped (k + 1) n W en W' kw);
        marks_rest = rw (← ek) (part_dropped k m M em M' km);
      }
