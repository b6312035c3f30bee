-- What an escape is, and a raw value judged as a whole.
use Rattle.std.specs.Prelude.{◌≡◌, Bool, ◌&&◌, List, true, false, ℕ, ◌+◌, ◌*◌, ◌<◌, leb, length, get_or, drop, Option, MatchOption, Some, None, unwrap_or}
use Rattle.std.specs.Borrow.{Bor}
use Rattle.protocol.specs.Utf8.{name_right}
use Rattle.protocol.specs.Bytes.{if, all_within}
use Rattle.protocol.specs.Request.{hex_value, hex_leads, decoded}

-- r is the value of the hex digit b, and none for any other byte, of which the meaning says 16
pub record Hex (b : ℕ) (r : Option ℕ) : Type 0 where
  pub is : unwrap_or r 16 ≡ hex_value b
  pub small : unwrap_or r 0 < 16

-- two hex digits lead a text: the byte that they are, and what follows them
abbrev pub Escape : List ℕ → Option (ℕ × Bor (List ℕ)) → Type 0
Escape s r =
    MatchOption r (hex_leads s ≡ false) (λ e. (hex_leads s ≡ true) × (e.0 ≡ hex_value (get_or s 0 0) * 16 + hex_value (get_or s 1 0)) × (e.1.now ≡ drop 2 s))

-- the decoded length, where every byte is from lo to hi and there are at most so many
unfoldable pub judged : Bool → ℕ → ℕ → ℕ → List ℕ → Option ℕ
judged in_body lo hi most raw =
    if (leb (length (decoded in_body raw)) most && all_within lo hi (decoded in_body raw)) (Some (length (decoded in_body raw))) None

-- the decoded length, where it is a name of at most so many bytes
unfoldable pub judged_name : Bool → ℕ → List ℕ → Option ℕ
judged_name in_body most raw =
    if (leb (length (decoded in_body raw)) most && name_right (decoded in_body raw)) (Some (length (decoded in_body raw))) None

-- how long a raw value is when decoded
abbrev pub decoded_length : Bool → List ℕ → ℕ
decoded_length in_body raw = length (decoded in_body raw)
