-- The changes from one table to another, block by block of 512 bytes; their bytes; and what laying them over a table gives.
use Rattle.std.specs.Prelude.{◌≡◌, Bool, false, ◌||◌, List, [], ◌∷◌, ◌++◌, ℕ, zero, suc, ◌+◌, ◌*◌, ◌/◌, eqb, length, take}
use Rattle.protocol.specs.Bytes.{if, same, part, bytes_of, spliced}

-- a block's number, from 0, and its bytes
pub record Change : Type 0 where
  pub number : ℕ
  pub block : List ℕ

abbrev pub change : ℕ → List ℕ → Change
change k b = record { number = k; block = b }

-- the block of a number
abbrev pub block_at : ℕ → List ℕ → List ℕ
block_at k s = part (512 * k) 512 s

-- one block is a change where it is not the same in both
unfoldable pub change_at : ℕ → List ℕ → List ℕ → List Change
change_at k old new = if (same (block_at k old) (block_at k new)) [] (change k (block_at k new) ∷ [])

-- the changes of m blocks from number k on
unfoldable pub changes_from : ℕ → ℕ → List ℕ → List ℕ → List Change
changes_from k zero old new = []
changes_from k (suc m) old new = change_at k old new ++ changes_from (k + 1) m old new

-- of every block of the new table, in the order of their numbers
unfoldable pub changes_of : List ℕ → List ℕ → List Change
changes_of old new = changes_from 0 (length new / 512) old new

-- each change as its number, of four bytes, and its block
unfoldable pub blocks_text : List Change → List ℕ
blocks_text [] = []
blocks_text (c ∷ cs) = bytes_of 4 c.number ++ (c.block ++ blocks_text cs)

-- and their count before them
unfoldable pub changed_text : List Change → List ℕ
changed_text cs = bytes_of 4 (length cs) ++ blocks_text cs

-- a table with changes laid over it: each block at its place
unfoldable pub laid : List ℕ → List Change → List ℕ
laid t [] = t
laid t (c ∷ cs) = laid (spliced t (512 * c.number) c.block) cs

-- a block of a number is told
unfoldable pub tells : ℕ → List Change → Bool
tells k [] = false
tells k (c ∷ cs) = eqb c.number k || tells k cs

-- a frame out, up to its end, ends with what changed from one table to another
pub record Told (old new out : List ℕ) (end : ℕ) : Type 0 where
  pub from : ℕ
  pub ends : take end out ≡ take from out ++ changed_text (changes_of old new)
