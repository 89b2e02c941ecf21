-- 01, Reads: what each byte of a reply is, with its mark.
use Rattle.std.specs.Prelude.{ℕ, ◌+◌, ◌-◌, ◌*◌, ◌/◌, ◌%◌, ◌^◌, List, [], ◌∷◌, ltb, get_or}
use Rattle.rules.specs.declared.Cell.{Cell}
use Rattle.rules.specs.declared.Rest.{Rest}
use Rattle.rules.specs.declared.Range.{Range}
use Rattle.rules.specs.declared.Source.{Source}
use Rattle.rules.specs.declared.Source.TheVariants.{Status, Configuration, Protection, Identity, Array, ArrayBurst, Security}
use Rattle.rules.specs.declared.Kind.{Kind}
use Rattle.rules.specs.declared.Kind.TheVariants.{Show, Begin, Do}
use Rattle.rules.specs.Words.{pick, holds, Lent}
use Rattle.rules.specs.Blocks.{array_size_lem, security_size_lem, read_locked}
use Rattle.rules.specs.Works.{array_range}
use Rattle.rules.specs.Registers.{status, configuration}
use Rattle.rules.specs.Frames.{address, security_address}
use Rattle.rules.specs.Bursts.{burst_length, burst_place}

abbrev pub known : ℕ → Cell
known b = record { byte = b; mark = 1 }

abbrev pub unknown : Cell
unknown = record { byte = 0; mark = 0 }

-- of a frame without a reply
abbrev pub silent : Cell
silent = record { byte = 0xFF; mark = 0 }

-- one place of the array under a protection register and a suspended range: the rule of every array read
unfoldable pub place_cell : ℕ → Range → Lent → ℕ → Cell
place_cell p suspended array a = pick (read_locked p a) (known 0) (pick (holds suspended a) unknown (known (array.byte a)))

-- byte i of a read
unfoldable pub shown : Source → Rest → Lent → Lent → List ℕ → ℕ → Cell
shown Status r array security sent i = known (status r)
shown Configuration r array security sent i = known (configuration r)
shown Protection r array security sent i = known (pick (ltb i 6) (r.locks.protection / 2 ^ (8 * (5 - i)) % 256) 0)
shown Identity r array security sent i = known (get_or (0xBF ∷ 0x26 ∷ 0x51 ∷ []) (i % 3) 0)
shown Array r array security sent i = place_cell r.locks.protection (array_range r.works.suspended) array ((address sent + i) % array_size_lem)
shown ArrayBurst r array security sent i =
    place_cell r.locks.protection (array_range r.works.suspended) array (burst_place (burst_length r.burst) (address sent) i)
shown Security r array security sent i = known (security.byte ((security_address sent + i) % security_size_lem))

-- byte i of the reply to a done frame
abbrev pub reply : Kind → Rest → Lent → Lent → List ℕ → ℕ → Cell
reply (Show s) r array security sent i = shown s r array security sent i
reply (Begin l) r array security sent i = silent
reply (Do s) r array security sent i = silent
