-- A command half heard: what its bytes so far say, and what is due once a byte has come. serprog/specs/Commands has the commands.
use Rattle.std.specs.Prelude.{ℕ, ◌-◌, Bool, true, false, List, [], ◌∷◌, Option, None, Some, eqb, leb, ltb, set}
use Rattle.rules.specs.Words.{pick}
use Rattle.serprog.specs.declared.Command.{Command}
use Rattle.serprog.specs.Commands.{shape_of, fits, send_length, receive_length}
use Rattle.hearing.specs.declared.Mode.{Mode}
use Rattle.hearing.specs.declared.Due.{Due}
use Rattle.hearing.specs.declared.Heard.{Heard}

abbrev pub heard : Mode → Command → ℕ → Bool → List ℕ → ℕ → Option Due → Heard
heard m c n s p l d = record { mode = m; command = c; parameters = n; sends = s; given = p; left = l; due = d }

-- no parameter has come
abbrev pub none : List ℕ
none = 0 ∷ 0 ∷ 0 ∷ 0 ∷ 0 ∷ 0 ∷ []

-- a command's code comes next
abbrev pub listening : Heard
listening = heard Mode.Code Command.Nothing 0 false none 0 None

-- a command of no parameters is answered at once
unfoldable pub after_code : ℕ → Heard
after_code b =
    let s = shape_of b in
    pick (eqb s.parameters 0)
    (heard Mode.Code s.command s.parameters s.sends none 0 (Some Due.Answer))
    (heard Mode.Parameters s.command s.parameters s.sends none s.parameters None)

-- an operation whose lengths have come: its bytes follow, and are passed over where the lengths do not fit
unfoldable pub after_lengths : Command → ℕ → List ℕ → Heard
after_lengths c n p =
    let right = fits (send_length p) (receive_length p) in
    pick (eqb (send_length p) 0)
    (heard Mode.Code c n true p 0 (Some (pick right Due.Operation Due.Answer)))
    (heard (pick right Mode.Sent Mode.Skipped) c n true p (send_length p) None)

-- a list with another byte at a place, where that is one of n
abbrev pub put : ℕ → List ℕ → ℕ → ℕ → List ℕ
put n l i b = pick (ltb i n) (set l i b) l

-- the parameters with one more, of those that are left
abbrev pub given_with : Heard → ℕ → List ℕ
given_with h b = put 6 h.given (h.parameters - h.left) b

unfoldable pub after_parameter : Heard → ℕ → Heard
after_parameter h b =
    pick (leb h.left 1)
    (pick h.sends (after_lengths h.command h.parameters (given_with h b)) (heard Mode.Code h.command h.parameters false (given_with h b) 0 (Some Due.Answer)))
    (heard Mode.Parameters h.command h.parameters h.sends (given_with h b) (h.left - 1) None)

-- one byte fewer is left; after the last one something is due
unfoldable pub after_one : Heard → Due → Heard
after_one h d =
    pick (leb h.left 1)
    (heard Mode.Code h.command h.parameters h.sends h.given 0 (Some d))
    (heard h.mode h.command h.parameters h.sends h.given (h.left - 1) None)

abbrev pub in_mode : Mode → Heard → ℕ → Heard
in_mode Mode.Code h b = after_code b
in_mode Mode.Parameters h b = after_parameter h b
in_mode Mode.Sent h b = after_one h Due.Operation
in_mode Mode.Skipped h b = after_one h Due.Answer

abbrev pub heard_with : Heard → ℕ → Heard
heard_with h b = in_mode h.mode h b

-- what is sent is kept, in the order in which it comes
abbrev pub kept_in : Mode → Heard → ℕ → List ℕ → List ℕ
kept_in Mode.Code h b sent = sent
kept_in Mode.Parameters h b sent = sent
kept_in Mode.Sent h b sent = put 65536 sent (send_length h.given - h.left) b
kept_in Mode.Skipped h b sent = sent

abbrev pub kept_with : Heard → ℕ → List ℕ → List ℕ
kept_with h b sent = kept_in h.mode h b sent
