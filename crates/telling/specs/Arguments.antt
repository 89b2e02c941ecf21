-- The words of the command line. docs/PLAYER.md: "with `-` what comes on standard input"; "`--strict` in front makes every script strict"; a prompt is asked for
-- in the same way. Any other word is the name of a script.
use Rattle.std.specs.Prelude.{ℕ, zero, suc, Bool, true, ◌&&◌, List, eqb, length, get_or}
use Rattle.rules.specs.Words.{pick}
use Rattle.rules.specs.Texts.{ascii}
use Rattle.telling.specs.declared.Argument.{Argument}

-- the first n bytes are the same
unfoldable pub agree : ℕ → List ℕ → List ℕ → Bool
agree zero a b = true
agree (suc n) a b = agree n a b && eqb (get_or a n 0) (get_or b n 0)

unfoldable pub same : List ℕ → List ℕ → Bool
same a b = eqb (length a) (length b) && agree (length a) a b

unfoldable pub argument_of : List ℕ → Argument
argument_of word =
    pick (same word (ascii "--strict")) Argument.Strict
    (pick (same word (ascii "--prompt")) Argument.Prompt
    (pick (same word (ascii "-")) Argument.Input Argument.Script))
