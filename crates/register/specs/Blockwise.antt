-- What the code of the register computes on the way: the rest of a block beside its two texts, and where a service stands.
use Rattle.std.specs.Prelude.{Bool, true, ◌&&◌, List, [], ◌∷◌, Option, Some, None, ℕ, suc, ◌+◌, ◌-◌, ◌*◌, ltb, take}
use Rattle.protocol.specs.Bytes.{if, ascii, is_empty, same, all_within, part}
use Rattle.protocol.specs.Blocks.{check_right}
use Rattle.protocol.specs.Register.{Entry, decode_entry}

-- a callback is empty or begins `https://`
unfoldable pub secure : List ℕ → Bool
secure s = if (is_empty s) true (same (take 8 s) (ascii "https://"))

-- a block's check is right, and it is zero behind texts of n and m bytes
unfoldable pub rest_right : ℕ → ℕ → List ℕ → Bool
rest_right n m b = check_right b && all_within 0 0 (part (4 + n) (200 - n) b) && all_within 0 0 (part (204 + m) (304 - m) b)

-- the place of the first entry with a service; their count where there is none
unfoldable pub place_of : List ℕ → List Entry → ℕ
place_of s [] = 0
place_of s (e ∷ es) = if (same s e.service) 0 (suc (place_of s es))

-- the callback that block k says, the first block being 0
unfoldable pub callback_in : List ℕ → ℕ → List ℕ
callback_in b k = (decode_entry (part (512 * k) 512 b)).callback

-- a place among n; none where it is beyond them
unfoldable pub if_below : ℕ → ℕ → Option ℕ
if_below n p = if (ltb p n) (Some p) None
