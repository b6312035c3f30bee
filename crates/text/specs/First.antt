-- Where a byte first stands in a text.
use Rattle.std.specs.Prelude.{◌≡◌, List, ℕ, ◌≤◌, length}
use Rattle.protocol.specs.Bytes.{up_to}

-- r is the place of the first b of a text, or its length
pub record FirstAt (b : ℕ) (s : List ℕ) (r : ℕ) : Type 0 where
  pub is : r ≡ length (up_to b s)
  pub inside : r ≤ length s
