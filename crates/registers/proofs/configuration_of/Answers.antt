-- Three flags at their bits. Assumes nothing.
use lib.Dec.{eqb}
use Rattle.registers.proofs.Flags.{configuration_byte}
use Rattle.registers.proofs.configuration_of.Goals as goal

pub returns : goal.returns
returns c = let a = c.args.r in configuration_byte a.flags.ioc (eqb a.locks.permanent 0) a.flags.wpen
