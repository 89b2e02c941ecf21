-- A field of one byte is that byte. Assumes nothing.
use native.Mathlib.Nat.{add-zero}
use Rattle.record_code.proofs.is_idle.Goals as goal

pub returns : goal.returns
returns c = simp add-zero
