-- The serprog commands that the programmer knows: a row for each, and the bytes that answer it. Lengths and numbers go low byte first.
use Rattle.std.specs.Prelude.{ℕ, zero, suc, ◌+◌, ◌*◌, Bool, true, false, ◌&&◌, List, [], ◌∷◌, ◌++◌, eqb, leb, length, get_or, replicate}
use Rattle.rules.specs.Words.{bit, num, pick}
use Rattle.rules.specs.Texts.{ascii}
use Rattle.serprog.specs.declared.Command.{Command}
use Rattle.serprog.specs.declared.Command.TheVariants.{Nothing, Version, Map, Name, BufferSize, Buses, Sync, SetBus, Operation, SetFrequency, SetPins, Unlisted}
use Rattle.serprog.specs.declared.Shape.{Shape}
use Rattle.serprog.specs.declared.Answer.{Answer}

abbrev pub ack : ℕ
ack = 0x06

abbrev pub nak : ℕ
nak = 0x15

-- ---- the table

pub record Row : Type 0 where
  pub code : ℕ
  pub shape : Shape

-- code, command, parameter bytes
abbrev pub row : ℕ → Command → ℕ → Row
row o k n = record { code = o; shape = record { command = k; parameters = n; sends = false } }

-- the same, and the bytes to send follow the parameters
abbrev pub row_and_more : ℕ → Command → ℕ → Row
row_and_more o k n = record { code = o; shape = record { command = k; parameters = n; sends = true } }

unfoldable pub rows : List Row
rows =
    row 0x00 Nothing 0
    ∷ row 0x01 Version 0
    ∷ row 0x02 Map 0
    ∷ row 0x03 Name 0
    ∷ row 0x04 BufferSize 0
    ∷ row 0x05 Buses 0
    ∷ row 0x10 Sync 0
    ∷ row 0x12 SetBus 1
    ∷ row_and_more 0x13 Operation 6
    ∷ row 0x14 SetFrequency 4
    ∷ row 0x15 SetPins 1
    ∷ []

-- the row's shape; a code that has no row is a command of no parameters
unfoldable pub find : List Row → ℕ → Shape
find [] o = record { command = Unlisted; parameters = 0; sends = false }
find (r ∷ rs) o = pick (eqb o r.code) r.shape (find rs o)

unfoldable pub shape_of : ℕ → Shape
shape_of o = find rows o

-- ---- the command map: bit i of its 256 bits is 1 where code i has a row, lowest bit of the first byte first

unfoldable pub has_row : List Row → ℕ → Bool
has_row [] o = false
has_row (r ∷ rs) o = pick (eqb o r.code) true (has_row rs o)

abbrev pub listed : ℕ → ℕ
listed o = num (has_row rows o)

unfoldable pub map_byte : ℕ → ℕ
map_byte k =
    listed (8 * k) + 2 * listed (8 * k + 1) + 4 * listed (8 * k + 2) + 8 * listed (8 * k + 3) + 16 * listed (8 * k + 4)
    + 32 * listed (8 * k + 5) + 64 * listed (8 * k + 6) + 128 * listed (8 * k + 7)

-- n bytes from byte k on
unfoldable pub map_from : ℕ → ℕ → List ℕ
map_from zero k = []
map_from (suc n) k = map_byte k ∷ map_from n (suc k)

unfoldable pub map_bytes : List ℕ
map_bytes = map_from 32 0

-- ---- the parts of answers

-- Fulkibono, and 00 up to 16 bytes
unfoldable pub name_bytes : List ℕ
name_bytes = ascii "Fulkibono" ++ replicate 7 0x00

abbrev pub right_or_not : Bool → List ℕ
right_or_not right = pick right (ack ∷ []) (nak ∷ [])

-- the frequency asked for is the one set; 0 is no frequency
abbrev pub frequency_bytes : ℕ → ℕ → ℕ → ℕ → List ℕ
frequency_bytes a b c d = pick (eqb a 0 && eqb b 0 && eqb c 0 && eqb d 0) (nak ∷ []) (ack ∷ a ∷ b ∷ c ∷ d ∷ [])

abbrev pub length24 : ℕ → ℕ → ℕ → ℕ
length24 low middle high = low + middle * 256 + high * 65536

-- the chip's sizes of a frame and a reply
abbrev pub fits : ℕ → ℕ → Bool
fits send receive = leb send 65536 && leb receive 65536

-- how many bytes are to be sent, and how many to be received
abbrev pub send_length : List ℕ → ℕ
send_length p = length24 (get_or p 0 0) (get_or p 1 0) (get_or p 2 0)

abbrev pub receive_length : List ℕ → ℕ
receive_length p = length24 (get_or p 3 0) (get_or p 4 0) (get_or p 5 0)

abbrev pub operation_bytes : List ℕ → List ℕ
operation_bytes p = right_or_not (fits (send_length p) (receive_length p))

-- ---- the answer to a command with its parameter bytes

-- the received bytes follow the 06 of an operation
abbrev pub answer_bytes : Command → List ℕ → List ℕ
answer_bytes Nothing p = ack ∷ []
answer_bytes Version p = ack ∷ 1 ∷ 0 ∷ []
answer_bytes Map p = ack ∷ map_bytes
answer_bytes Name p = ack ∷ name_bytes
answer_bytes BufferSize p = ack ∷ 0xFF ∷ 0xFF ∷ []
answer_bytes Buses p = ack ∷ 0x08 ∷ []
answer_bytes Sync p = nak ∷ ack ∷ []
answer_bytes SetBus p = right_or_not (bit 3 (get_or p 0 0))
answer_bytes Operation p = operation_bytes p
answer_bytes SetFrequency p = frequency_bytes (get_or p 0 0) (get_or p 1 0) (get_or p 2 0) (get_or p 3 0)
answer_bytes SetPins p = ack ∷ []
answer_bytes Unlisted p = nak ∷ []

-- the first n bytes of the list, and 0 past its end
unfoldable pub padded : ℕ → List ℕ → List ℕ
padded zero l = []
padded (suc n) [] = 0 ∷ padded n []
padded (suc n) (x ∷ xs) = x ∷ padded n xs

unfoldable pub answer_of : List ℕ → Answer
answer_of l = record { bytes = padded 33 l; count = length l }
