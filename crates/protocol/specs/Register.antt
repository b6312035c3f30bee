-- The panel register: services, each with its callback.
-- Block: 0-1 and 2-3 lengths of service and callback, 4-203 service, 204-403 callback, rest zero before the check.
use Rattle.std.specs.Prelude.{Bool, true, false, ◌&&◌, not, List, [], ◌∷◌, ◌++◌, map, ℕ, ◌+◌, ◌/◌, ◌%◌, eqb, leb, length, take}
use Rattle.protocol.specs.Bytes.{if, ascii, is_empty, same, all_differ, within, all_within, holds, pad_to, part, num, bytes_of, joined, blocks}
use Rattle.protocol.specs.Blocks.{sealed}

pub record Entry : Type 0 where
  pub service : List ℕ
  pub callback : List ℕ

-- the 508 bytes of an entry
unfoldable pub entry_body : Entry → List ℕ
entry_body e = bytes_of 2 (length e.service) ++ (bytes_of 2 (length e.callback) ++ (pad_to 200 e.service ++ pad_to 304 e.callback))

unfoldable pub encode_entry : Entry → List ℕ
encode_entry e = sealed (entry_body e)

unfoldable pub decode_entry : List ℕ → Entry
decode_entry b = record { service = part 4 (num 0 2 b) b; callback = part 204 (num 2 2 b) b }

-- the entries of a register
unfoldable pub decode_register : List ℕ → List Entry
decode_register b = map decode_entry (blocks (length b / 512) 512 b)

-- bytes are 33 to 126, no `#`
unfoldable pub address_right : List ℕ → Bool
address_right s = all_within 33 126 s && not (holds 35 s)

-- service 1 to 200 bytes, callback 0 to 200; a callback that is not empty begins `https://`
unfoldable pub entry_right : Entry → Bool
entry_right e =
    within 1 200 (length e.service)
    && leb (length e.callback) 200
    && address_right e.service
    && address_right e.callback
    && (if (is_empty e.callback) true (same (take 8 e.callback) (ascii "https://")))

unfoldable pub all_entries_right : List Entry → Bool
all_entries_right [] = true
all_entries_right (e ∷ es) = entry_right e && all_entries_right es

unfoldable pub services_of : List Entry → List (List ℕ)
services_of [] = []
services_of (e ∷ es) = e.service ∷ services_of es

-- 1 to 16 whole blocks
abbrev pub register_shape : ℕ → Bool
register_shape n = eqb (n % 512) 0 && within 1 16 (n / 512)

-- the bytes are those of the entries that they say, each entry keeps the rules, and services differ
unfoldable pub register_lawful : List ℕ → Bool
register_lawful b =
    register_shape (length b)
    && same b (joined (map encode_entry (decode_register b)))
    && all_entries_right (decode_register b)
    && all_differ (services_of (decode_register b))

-- a service is registered
unfoldable pub registered : List ℕ → List Entry → Bool
registered s [] = false
registered s (e ∷ es) = if (same s e.service) true (registered s es)

-- the callback registered for a service; empty where there is none
unfoldable pub callback_of : List ℕ → List Entry → List ℕ
callback_of s [] = []
callback_of s (e ∷ es) = if (same s e.service) e.callback (callback_of s es)
