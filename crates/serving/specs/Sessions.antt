-- A session: each byte that comes, and what is written then.
use Rattle.std.specs.Prelude.{ℕ, ◌+◌, min, ◌≡◌, Bool, List, Option, None, Some, length, get_or, take, drop}
use Rattle.rules.specs.declared.Chip.{Chip}
use Rattle.memory.specs.Patched.{Patched}
use Rattle.serprog.specs.declared.Answer.{Answer}
use Rattle.serprog.specs.Commands.{answer_of, answer_bytes, send_length, receive_length}
use Rattle.operating.specs.declared.Bench.{Bench}
use Rattle.operating.specs.Operations.{AnswerPromise}
use Rattle.hearing.specs.declared.Due.{Due}
use Rattle.hearing.specs.declared.Heard.{Heard}
use Rattle.serving.specs.declared.Serving.{Serving}
use Rattle.hearing.specs.Heard.{listening, heard_with, kept_with}

abbrev pub serving : Bench → Heard → ℕ → Serving
serving b h n = record { bench = b; heard = h; written = n }

-- with a chip, new or from a file; the tool is shown the sibling's identity where that is asked for
abbrev pub begun : Chip → Bool → Serving
begun c disguise = serving (record { chip = c; reads = 0; disguise = disguise }) listening 0

-- the answer to a command that is no operation, or to one that does not fit: so many of these bytes
abbrev pub answer_to : Heard → Answer
answer_to h = answer_of (answer_bytes h.command h.given)

-- it stands in front, and all else stays as it is
pub record Answered (h : Heard) (b : Bench) (array security answer marks : List ℕ) (s : Serving) (array' security' answer' marks' : List ℕ) : Type 0 where
  pub serving_is : s ≡ serving b h (answer_to h).count
  pub answer_is : Patched answer' answer 0 (min (answer_to h).count (length answer)) (λ i. get_or (answer_to h).bytes i 0)
  pub array_is : array' ≡ array
  pub security_is : security' ≡ security
  pub marks_are : marks' ≡ marks

-- nothing is due
pub record Kept (h : Heard) (b : Bench) (array security answer marks : List ℕ) (s : Serving) (array' security' answer' marks' : List ℕ) : Type 0 where
  pub serving_is : s ≡ serving b h 0
  pub answer_is : answer' ≡ answer
  pub array_is : array' ≡ array
  pub security_is : security' ≡ security
  pub marks_are : marks' ≡ marks

-- how many bytes an operation receives: no more than the chip replies
abbrev pub receives : Heard → ℕ
receives h = min (receive_length h.given) 65536

-- an operation with the bytes that were sent: its answer stands in front, one byte more than it receives, and so do its marks
pub record Operated (h : Heard) (b : Bench) (array security sent answer marks : List ℕ) (s : Serving) (array' security' answer' marks' : List ℕ) : Type 0 where
  pub serving_is : s ≡ serving s.bench h (receives h + 1)
  pub operation : AnswerPromise b array security (take (send_length h.given) sent) (take (receives h + 1) answer) (take (receives h) marks) s.bench array' security' (take (receives h + 1) answer') (take (receives h) marks')
  pub answer_rest : drop (receives h + 1) answer' ≡ drop (receives h + 1) answer
  pub marks_rest : drop (receives h) marks' ≡ drop (receives h) marks

abbrev pub Done : Option Due → Heard → Bench → List ℕ → List ℕ → List ℕ → List ℕ → List ℕ → Serving → List ℕ → List ℕ → List ℕ → List ℕ → Type 0
Done None h b array security sent answer marks s array' security' answer' marks' =
    Kept h b array security answer marks s array' security' answer' marks'
Done (Some Due.Answer) h b array security sent answer marks s array' security' answer' marks' =
    Answered h b array security answer marks s array' security' answer' marks'
Done (Some Due.Operation) h b array security sent answer marks s array' security' answer' marks' =
    Operated h b array security sent answer marks s array' security' answer' marks'

pub record Taken (s : Serving) (b : ℕ) (array security sent answer marks : List ℕ) (s' : Serving) (array' security' sent' answer' marks' : List ℕ) : Type 0 where
  pub sent_is : sent' ≡ kept_with s.heard b sent
  pub done : Done (heard_with s.heard b).due (heard_with s.heard b) s.bench array security (kept_with s.heard b sent) answer marks s' array' security' answer' marks'
