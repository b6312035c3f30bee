-- Words for contracts of writers: what was written into a lent buffer, and that there is room for it.
use Rattle.std.specs.Prelude.{◌≡◌, List, ℕ, ◌+◌, ◌≤◌, length}
use Rattle.protocol.specs.Bytes.{spliced}

-- there is room for a text at a place
pub record Room (old : List ℕ) (at : ℕ) (text : List ℕ) : Type 0 where
  pub fits : at + length text ≤ length old

-- a text was written at a place: what the buffer holds after it, and the next place; the rest is unchanged
pub record Wrote (old : List ℕ) (at : ℕ) (new : List ℕ) (next : ℕ) (text : List ℕ) : Type 0 where
  pub holds : new ≡ spliced old at text
  pub moves : next ≡ at + length text
  pub room : next ≤ length old
  pub same : length new ≡ length old
