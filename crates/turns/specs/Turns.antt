-- What is known before an event where the page buffer lies with the caller.
use Rattle.std.specs.Prelude.{ℕ, ◌≡◌, Bool, List, length}
use Rattle.rules.specs.declared.Rest.{Rest}
use Rattle.rules.specs.Fields.{chip_of}
use Rattle.rules.specs.Numbers.{state_right}
use Rattle.rules.specs.Promises.{bench_of, state_of}

-- b tells whether the record is well-formed and the memories have their sizes
pub record StateKnown (b : Bool) (r : Rest) (page array security : List ℕ) : Type 0 where
  pub known : b ≡ state_right (state_of (bench_of (chip_of page r) array security))
  pub paged : length page ≡ 256
