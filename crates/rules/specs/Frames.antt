-- 01, Frames: the table, a row for each opcode, and the addresses. The last rows are 02's.
use Rattle.std.specs.Prelude.{ℕ, ◌+◌, ◌*◌, ◌%◌, ◌^◌, Bool, true, false, not, ◌&&◌, ◌||◌, List, [], ◌∷◌, eqb, ltb, get_or}
use Rattle.rules.specs.declared.Source.{Source}
use Rattle.rules.specs.declared.Long.{Long}
use Rattle.rules.specs.declared.Short.{Short}
use Rattle.rules.specs.declared.Kind.{Kind}
use Rattle.rules.specs.declared.Kind.TheVariants.{Show, Begin, Do}
use Rattle.rules.specs.declared.Form.{Form}
use Rattle.rules.specs.Words.{pick}
use Rattle.rules.specs.Blocks.{array_size_lem, security_size_lem}

pub record Row : Type 0 where
  pub opcode : ℕ
  pub form : Form

-- opcode, kind, length in SPI, length in SQI; 0: not in this protocol
abbrev pub row : ℕ → Kind → ℕ → ℕ → Row
row o k p q = record { opcode = o; form = record { kind = k; spi = p; sqi = q; more = false } }

-- the same, with "or more"
abbrev pub row_or_more : ℕ → Kind → ℕ → ℕ → Row
row_or_more o k p q = record { opcode = o; form = record { kind = k; spi = p; sqi = q; more = true } }

unfoldable pub frames : List Row
frames =
    row 0x00 (Do Short.Nothing) 1 1
    ∷ row 0x66 (Do Short.EnableReset) 1 1 ∷ row 0x99 (Do Short.Reset) 1 1
    ∷ row 0x38 (Do Short.ToSqi) 1 0
    ∷ row 0xFF (Do Short.ToSpi) 1 1
    ∷ row 0x05 (Show Source.Status) 1 2 ∷ row 0x35 (Show Source.Configuration) 1 2 ∷ row 0x72 (Show Source.Protection) 1 2
    ∷ row 0x9F (Show Source.Identity) 1 0
    ∷ row 0xAF (Show Source.Identity) 0 2
    ∷ row 0x03 (Show Source.Array) 4 0
    ∷ row 0x0B (Show Source.Array) 5 7
    ∷ row 0x6B (Show Source.Array) 5 0
    ∷ row 0x88 (Show Source.Security) 4 6
    ∷ row 0x06 (Do Short.SetWel) 1 1 ∷ row 0x04 (Do Short.ClearWel) 1 1
    ∷ row 0x20 (Begin Long.Sector) 4 4 ∷ row 0xD8 (Begin Long.Block) 4 4
    ∷ row 0xC7 (Begin Long.Array) 1 1
    ∷ row_or_more 0x02 (Begin Long.Page) 5 5
    ∷ row_or_more 0x32 (Begin Long.Page) 5 0
    ∷ row_or_more 0xA5 (Begin Long.SecurityPage) 4 4
    ∷ row 0x85 (Begin Long.SecurityLock) 1 1
    ∷ row 0x01 (Begin Long.Configuration) 3 3
    ∷ row 0x42 (Do Short.WriteProtection) 7 7 ∷ row 0xE8 (Begin Long.Permanent) 7 7
    ∷ row 0x8D (Do Short.LockDown) 1 1 ∷ row 0x98 (Do Short.ClearLocks) 1 1
    ∷ row 0xB0 (Do Short.Suspend) 1 1 ∷ row 0x30 (Do Short.Resume) 1 1
    -- W-201
    ∷ row 0xC0 (Do Short.SetBurst) 2 2
    ∷ row 0x0C (Show Source.ArrayBurst) 0 7
    ∷ row 0xEC (Show Source.ArrayBurst) 7 0
    ∷ []

-- the form of an opcode; in no protocol where it is not listed
unfoldable pub find : List Row → ℕ → Form
find [] o = record { kind = Do Short.Nothing; spi = 0; sqi = 0; more = false }
find (r ∷ rs) o = pick (eqb o r.opcode) r.form (find rs o)

unfoldable pub form_of : ℕ → Form
form_of o = find frames o

-- the length in the protocol in force, 0 where the opcode is not in it
abbrev pub least_length : Bool → Form → ℕ
least_length true f = f.sqi
least_length false f = f.spi

abbrev pub listed : Bool → Form → Bool
listed q f = not (eqb (least_length q f) 0)

abbrev pub length_right : Bool → Form → ℕ → Bool
length_right q f n = eqb n (least_length q f) || (f.more && ltb (least_length q f) n)

-- byte i of a frame, the opcode's being byte 0; 0 past its end
abbrev pub sent_byte : List ℕ → ℕ → ℕ
sent_byte sent i = get_or sent i 0

abbrev pub opcode : List ℕ → ℕ
opcode sent = sent_byte sent 0

abbrev pub address : List ℕ → ℕ
address sent = (sent_byte sent 1 * 0x10000 + sent_byte sent 2 * 0x100 + sent_byte sent 3) % array_size_lem

abbrev pub security_address : List ℕ → ℕ
security_address sent = (sent_byte sent 1 * 0x100 + sent_byte sent 2) % security_size_lem

-- a register's six bytes, highest first
abbrev pub six : List ℕ → ℕ
six sent =
    sent_byte sent 1 * 2 ^ 40 + sent_byte sent 2 * 2 ^ 32 + sent_byte sent 3 * 2 ^ 24 + sent_byte sent 4 * 2 ^ 16 + sent_byte sent 5 * 2 ^ 8
    + sent_byte sent 6
