-- 01, Programs: the page buffer.
use Rattle.std.specs.Prelude.{ℕ, ◌+◌, ◌*◌, ◌/◌, ◌%◌, Bool, false, ◌||◌, List, [], ◌∷◌, ltb, set, drop, replicate}
use Rattle.rules.specs.Frames.{address, security_address}

abbrev pub page_size_lem : ℕ
page_size_lem = 256

unfoldable pub blank : List ℕ
blank = replicate page_size_lem 0xFF

-- bytes to rising places of the buffer from p on, with wrap; a later byte replaces an earlier one
unfoldable pub fill : List ℕ → ℕ → List ℕ → List ℕ
fill buffer p [] = buffer
fill buffer p (x ∷ xs) = fill (set buffer (p % page_size_lem) x) (p + 1) xs

-- the buffers of 02 and 32, and of A5
unfoldable pub page_buffer : List ℕ → List ℕ
page_buffer sent = fill blank (address sent % page_size_lem) (drop 4 sent)

unfoldable pub security_buffer : List ℕ → List ℕ
security_buffer sent = fill blank (security_address sent % page_size_lem) (drop 3 sent)

-- one of the bytes, from place p of the page that starts at s on, goes to a Security ID place below 8
unfoldable pub reaches : ℕ → ℕ → List ℕ → Bool
reaches s p [] = false
reaches s p (x ∷ xs) = ltb (s + p % page_size_lem) 8 || reaches s (p + 1) xs

-- A5 sends a byte to places 0 to 7
unfoldable pub reaches_first : List ℕ → Bool
reaches_first sent = reaches (security_address sent / page_size_lem * page_size_lem) (security_address sent % page_size_lem) (drop 3 sent)
