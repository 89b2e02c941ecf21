-- What a script's last row counts: events, refusals, expectations that are not met, wrong lines.
use Rattle.std.specs.Prelude.{ℕ, ◌+◌, min, not, eqb}
use Rattle.rules.specs.Words.{num}
use Rattle.tallies.specs.declared.Tally.{Tally}

-- so many more, up to the largest number of 64 bits
unfoldable pub added : ℕ → ℕ → ℕ
added n by = min (n + by) 18446744073709551615

abbrev pub untold : Tally
untold = record { events = 0; refused = 0; differences = 0; wrong = 0 }

-- an event that gave this number, and of whose expectations so many are not met: any number but 0 is a refusal
abbrev pub after_event : Tally → ℕ → ℕ → Tally
after_event t number unmet =
    record {
      events = added t.events 1;
      refused = added t.refused (num (not (eqb number 0)));
      differences = added t.differences unmet;
      wrong = t.wrong;
    }

-- a wrong line is no event
abbrev pub after_wrong : Tally → Tally
after_wrong t = record { events = t.events; refused = t.refused; differences = t.differences; wrong = added t.wrong 1 }

-- expectations of a line that is no event
abbrev pub after_unmet : Tally → ℕ → Tally
after_unmet t unmet = record { events = t.events; refused = t.refused; differences = added t.differences unmet; wrong = t.wrong }

-- two scripts
abbrev pub sum_of : Tally → Tally → Tally
sum_of t u =
    record {
      events = added t.events u.events;
      refused = added t.refused u.refused;
      differences = added t.differences u.differences;
      wrong = added t.wrong u.wrong;
    }
