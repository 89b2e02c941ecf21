-- Each kind of work has its test. Assumes nothing.
use Rattle.records.proofs.security_right.Goals as goal

pub returns-in-ProgramSecurity : goal.returns-in-ProgramSecurity
returns-in-ProgramSecurity c = rw (c.first_ff.ensures, c.in-ProgramSecurity.is)
