-- What may come next in a name, byte by byte: the ranges of RFC 3629, section 4, with 20 to 7E for one byte. It is how the
-- code judges; what a name is stands in `protocol`, and `proofs/Join` shows that the two agree.
use Rattle.std.specs.Prelude.{Bool, true, false, List, [], ◌∷◌, ℕ, ◌-◌, eqb, ltb}
use Rattle.protocol.specs.Bytes.{if, within}
use Rattle.utf8.specs.declared.Next.{Next}
use Rattle.utf8.specs.declared.Next.TheVariants.{Start, Tail, Bad}

-- after a first byte: a row for each range, up to the byte before the next one's
unfoldable pub begun : ℕ → Next
begun b =
    if (ltb b 0x20) Bad
    (if (ltb b 0x7F) Start
    (if (ltb b 0xC2) Bad
    (if (ltb b 0xE0) (Tail 0x80 0xBF 0)
    (if (ltb b 0xE1) (Tail 0xA0 0xBF 1)
    (if (ltb b 0xED) (Tail 0x80 0xBF 1)
    (if (ltb b 0xEE) (Tail 0x80 0x9F 1)
    (if (ltb b 0xF0) (Tail 0x80 0xBF 1)
    (if (ltb b 0xF1) (Tail 0x90 0xBF 2)
    (if (ltb b 0xF4) (Tail 0x80 0xBF 2)
    (if (ltb b 0xF5) (Tail 0x80 0x8F 2)
    Bad))))))))))

-- where so many plain tails are due
abbrev pub plain : ℕ → Next
plain more = if (eqb more 0) Start (Tail 0x80 0xBF (more - 1))

-- after a byte where one from lo to hi was due
unfoldable pub tailed : ℕ → ℕ → ℕ → ℕ → Next
tailed lo hi more b = if (within lo hi b) (plain more) Bad

-- the state after one more byte
abbrev pub followed : Next → ℕ → Next
followed Start b = begun b
followed (Tail lo hi more) b = tailed lo hi more b
followed Bad b = Bad

-- a text may end here
abbrev pub is_start : Next → Bool
is_start Start = true
is_start (Tail lo hi more) = false
is_start Bad = false

-- whether the rest of a text, from a state on, makes it a name
unfoldable pub judged_from : Next → List ℕ → Bool
judged_from state [] = is_start state
judged_from state (b ∷ s) = judged_from (followed state b) s
