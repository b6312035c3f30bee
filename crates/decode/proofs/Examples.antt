-- E3, E4 and E5 of document 01, as the contracts of `decode_value` and `judge` give them: what stands in any buffer after the
-- call, and what is judged. Assumes nothing.
use mathlib.Core.Path.{◌≡◌, refl, sym, ◌∙◌}
use mathlib.Core.Bool.{true, false}
use mathlib.Core.List.{List}
use Prim.Native.Nat.{ℕ, ◌+◌}
use native.Mathlib.Nat.{zero-add}
use lib.ListN.{length, take, drop}
use lib.Seq.{take_at}
use Rattle.protocol.specs.Bytes.{ascii, all_within, spliced}
use Rattle.protocol.specs.Request.{hex_value, unit_of, skip_of, decoded_from, decoded}
use Rattle.protocol.specs.Written.{Wrote}
use Rattle.decode.specs.Judging.{judged}
use Rattle.std.specs.Prelude.{None}

-- what a call wrote at the front is read there
front : (old new text : List ℕ) (r : ℕ) → Wrote old 0 new r text → take r new ≡ text
unfolding spliced
front old new text r w = rw w.holds (take_at text (drop (0 + length text) old) r (sym (w.moves ∙ zero-add (length text))))

module _ (old new : List ℕ) (r : ℕ) where
  pub E3 : Wrote old 0 new r (decoded false (ascii "%41b")) → take r new ≡ ascii "Ab"
  unfolding decoded_from unit_of skip_of hex_value
  E3 w = front old new (ascii "Ab") r w

  pub E4-query : Wrote old 0 new r (decoded false (ascii "a+b")) → take r new ≡ ascii "a+b"
  unfolding decoded_from unit_of skip_of hex_value
  E4-query w = front old new (ascii "a+b") r w

  pub E4-body : Wrote old 0 new r (decoded true (ascii "a+b")) → take r new ≡ ascii "a b"
  unfolding decoded_from unit_of skip_of hex_value
  E4-body w = front old new (ascii "a b") r w

pub E5 : (judged false 32 126 200 (ascii "%4") ≡ None) × (judged false 32 126 200 (ascii "%4g") ≡ None)
unfolding judged decoded_from unit_of skip_of hex_value all_within
E5 = (refl, refl)
