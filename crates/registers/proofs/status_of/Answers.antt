-- Six flags at their bits, BUSY twice. Assumes nothing.
use mathlib.Core.Bool.{not}
use Rattle.rules.specs.Works.{is_nothing, is_erase, is_program}
use Rattle.registers.proofs.Flags.{status_byte}
use Rattle.registers.proofs.status_of.Goals as goal

pub returns : goal.returns
returns c = let a = c.args.r in rw (c.is_program-wsp.ensures, c.is_erase-wse.ensures, c.is_nothing-busy.ensures) (status_byte (not (is_nothing a.works.running)) a.flags.wel (is_erase a.works.suspended) (is_program a.works.suspended) a.flags.wpld a.flags.sec)
