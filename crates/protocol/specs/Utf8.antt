-- UTF-8 as RFC 3629 has it, and the names that are right: a text is read as code points, and each of these is judged.
-- Section 3 gives the forms, of which x are the bits of the code point and the shortest is taken:
--
--     from        to            first byte and those behind it
--     U+0000      U+007F        0xxxxxxx
--     U+0080      U+07FF        110xxxxx   10xxxxxx
--     U+0800      U+FFFF        1110xxxx   10xxxxxx 10xxxxxx
--     U+10000     U+10FFFF      11110xxx   10xxxxxx 10xxxxxx 10xxxxxx
use Rattle.std.specs.Prelude.{Bool, true, ◌&&◌, not, List, [], ◌∷◌, ℕ, zero, suc, ◌+◌, ◌-◌, ◌*◌, ◌/◌, ◌%◌, eqb, leb, get_or}
use Rattle.protocol.specs.Bytes.{if, within}

-- the first number past U+10FFFF: it stands for what spells no code point
unfoldable pub no_point : ℕ
no_point = 0x110000

-- how many bytes a first byte announces, itself among them; 0 for one that begins no form
unfoldable pub announced : ℕ → ℕ
announced b =
    if (eqb (b / 128) 0b0) 1
    (if (eqb (b / 32) 0b110) 2
    (if (eqb (b / 16) 0b1110) 3
    (if (eqb (b / 8) 0b11110) 4
    0)))

-- the bits of v, and behind them those of the next k bytes, each of the form 10xxxxxx
unfoldable pub with_tails : ℕ → ℕ → List ℕ → ℕ
with_tails zero v s = v
with_tails (suc k) v [] = no_point
with_tails (suc k) v (b ∷ s) = if (eqb (b / 64) 0b10) (with_tails k (v * 64 + b % 64) s) no_point

-- a code point below the least of its form has a shorter form
unfoldable pub not_below : ℕ → ℕ → ℕ
not_below least p = if (leb least p) p no_point

-- the code point that b begins, before s: a row for each number of bytes
unfoldable pub point_at : ℕ → List ℕ → ℕ
point_at b s =
    get_or
    (no_point
    ∷ b
    ∷ not_below 0x80 (with_tails 1 (b % 32) s)
    ∷ not_below 0x800 (with_tails 2 (b % 16) s)
    ∷ not_below 0x10000 (with_tails 3 (b % 8) s)
    ∷ [])
    (announced b)
    no_point

-- the code points of a text, of which the first k bytes belong to one before
unfoldable pub points_from : ℕ → List ℕ → List ℕ
points_from k [] = []
points_from zero (b ∷ s) = point_at b s ∷ points_from (announced b - 1) s
points_from (suc k) (b ∷ s) = points_from k s

unfoldable pub points : List ℕ → List ℕ
points s = points_from 0 s

-- a code point may stand in a name: no control of ASCII, no surrogate, none past U+10FFFF
unfoldable pub point_right : ℕ → Bool
point_right p = leb 32 p && not (eqb p 127) && not (within 0xD800 0xDFFF p) && leb p 0x10FFFF

unfoldable pub points_right : List ℕ → Bool
points_right [] = true
points_right (p ∷ ps) = point_right p && points_right ps

-- a name: well-formed, and of such code points
unfoldable pub name_right : List ℕ → Bool
name_right s = points_right (points s)
