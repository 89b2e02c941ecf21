-- A text of ASCII characters as its bytes.
use Rattle.std.specs.Prelude.{ℕ, List, [], ◌∷◌}
use Prim.Native.Char.{code}
use Prim.Native.String.{String, [] as nil, ◌∷◌ as ◌then◌}

abbrev pub ascii : String → List ℕ
ascii nil = []
ascii (c then s) = code c ∷ ascii s
