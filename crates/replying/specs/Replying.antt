-- What a reply is asked, and what it leaves.
use Rattle.std.specs.Prelude.{ℕ, ◌≤◌, ◌≡◌, true, List, length}
use Rattle.rules.specs.declared.Cell.{Cell}
use Rattle.rules.specs.declared.Rest.{Rest}
use Rattle.rules.specs.Words.{lent, written}
use Rattle.rules.specs.Blocks.{array_size_lem, security_size_lem}
use Rattle.rules.specs.WellFormed.{numbers_right}

-- the reply and the marks hold the cells that f gives
pub record Replied (reply marks reply' marks' : List ℕ) (f : ℕ → Cell) : Type 0 where
  pub bytes : lent reply' ≡ written (length reply) (λ i. (f i).byte)
  pub known : lent marks' ≡ written (length marks) (λ i. (f i).mark)

-- what a reply is asked
pub record Showable (r : Rest) (array security reply marks : List ℕ) : Type 0 where
  pub suspended : numbers_right r.works.suspended ≡ true
  pub whole : length array ≡ array_size_lem
  pub secure : length security ≡ security_size_lem
  pub even : length marks ≡ length reply
  pub few : length reply ≤ 65536
