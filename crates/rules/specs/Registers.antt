-- 01, The registers as read.
use Rattle.std.specs.Prelude.{ℕ, ◌+◌, ◌*◌, Bool, not, eqb}
use Rattle.rules.specs.declared.Rest.{Rest}
use Rattle.rules.specs.Words.{num}
use Rattle.rules.specs.Works.{is_nothing, is_erase, is_program}

abbrev pub busy : Rest → Bool
busy r = not (is_nothing r.works.running)

abbrev pub wse : Rest → Bool
wse r = is_erase r.works.suspended

abbrev pub wsp : Rest → Bool
wsp r = is_program r.works.suspended

abbrev pub bpnv : Rest → Bool
bpnv r = eqb r.locks.permanent 0

abbrev pub status : Rest → ℕ
status r =
    num (busy r) + 2 * num r.flags.wel + 4 * num (wse r) + 8 * num (wsp r) + 16 * num r.flags.wpld + 32 * num r.flags.sec
    + 128 * num (busy r)

abbrev pub configuration : Rest → ℕ
configuration r = 2 * num r.flags.ioc + 8 * num (bpnv r) + 128 * num r.flags.wpen
