-- What stands at the start of what is left of a frame, and what a frame says field by field.
use Rattle.std.specs.Prelude.{List, ℕ, ◌+◌, take, drop}
use Rattle.std.specs.Int.{w32, from_le_bytes}

-- a number of four bytes
abbrev pub number_of : List ℕ → ℕ
number_of s = from_le_bytes w32 (take 4 s)

-- a text with its length before it, and what stands behind it
abbrev pub text_of : List ℕ → List ℕ
text_of s = take (number_of s) (drop 4 s)

abbrev pub behind_text : List ℕ → List ℕ
behind_text s = drop (4 + number_of s) s
