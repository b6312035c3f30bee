-- The register read back: entries that are written are read as the same entries; and what a lawful register is. Assumes nothing.
use mathlib.Core.Path.{◌≡◌, refl, ◌∙◌}
use mathlib.Core.Bool.{true, ◌&&◌}
use mathlib.Core.List.{List, [], ◌∷◌, ◌++◌, append_assoc, map}
use Prim.Native.Nat.{ℕ, ◌-◌, ◌*◌, ◌/◌, ◌≤◌}
use native.Mathlib.Omega.{arith}
use borrow.Author.Tests.{leb-true}
use lib.Dec.{leb}
use lib.ListN.{length, take, length-append}
use lib.Seq.{take_at, drop_at}
use Rattle.protocol.specs.Bytes.{if, ascii, is_empty, same, all_differ, within, zeros, pad_to, part, num, le_of, bytes_of, joined, blocks}
use Rattle.protocol.specs.Blocks.{sealed, house_check, check_right}
use Rattle.protocol.specs.Register.{Entry, entry_body, encode_entry, decode_entry, decode_register, address_right, entry_right, all_entries_right, services_of, register_shape, register_lawful}
use Rattle.protocol.proofs.Laws.{both, same-eq, length_bytes, le_bytes, length_pad, part_mid, length-sealed}
use Rattle.protocol.proofs.Notice.{sealed_right}

-- texts that an entry's block has room for
pub record Short (e : Entry) : Type 0 where
  pub service : length e.service ≤ 200
  pub callback : length e.callback ≤ 200

unfoldable pub AllShort : List Entry → Type 0
AllShort [] = Unit
AllShort (e ∷ es) = Short e × AllShort es

module _ (e : Entry) (h : Short e) where
  abbrev sizes : List ℕ
  sizes = bytes_of 2 (length e.service) ++ bytes_of 2 (length e.callback)

  length_sizes : length sizes ≡ 4
  length_sizes = rw (length-append (bytes_of 2 (length e.service)) (bytes_of 2 (length e.callback)), length_bytes 2 (length e.service), length_bytes 2 (length e.callback))

  abbrev check : List ℕ
  check = bytes_of 4 (house_check (entry_body e))

  abbrev front : List ℕ
  front = sizes ++ pad_to 200 e.service

  length_front : length front ≡ 204
  length_front = rw (length-append sizes (pad_to 200 e.service), length_sizes, length_pad 200 e.service h.service)

  by_service : encode_entry e ≡ sizes ++ (e.service ++ (zeros (200 - length e.service) ++ (pad_to 304 e.callback ++ check)))
  unfolding encode_entry sealed entry_body
  by_service = simp append_assoc

  by_callback : encode_entry e ≡ front ++ (e.callback ++ (zeros (304 - length e.callback) ++ check))
  unfolding encode_entry sealed entry_body
  by_callback = simp append_assoc

  length_body : length (entry_body e) ≡ 508
  unfolding entry_body
  length_body =
      rw (
        length-append (bytes_of 2 (length e.service)) (bytes_of 2 (length e.callback) ++ (pad_to 200 e.service ++ pad_to 304 e.callback)),
        length-append (bytes_of 2 (length e.callback)) (pad_to 200 e.service ++ pad_to 304 e.callback),
        length-append (pad_to 200 e.service) (pad_to 304 e.callback),
        length_bytes 2 (length e.service),
        length_bytes 2 (length e.callback),
        length_pad 200 e.service h.service,
        length_pad 304 e.callback (omega (arith, h.callback)),
      )

  pub length-entry : length (encode_entry e) ≡ 512
  unfolding encode_entry
  length-entry = length-sealed (entry_body e) length_body

  pub entry_checked : check_right (encode_entry e) ≡ true
  unfolding encode_entry
  entry_checked = sealed_right (entry_body e) length_body

  service_spelt : num 0 2 (encode_entry e) ≡ le_of (bytes_of 2 (length e.service))
  unfolding encode_entry sealed entry_body bytes_of
  service_spelt = refl

  callback_spelt : num 2 2 (encode_entry e) ≡ le_of (bytes_of 2 (length e.callback))
  unfolding encode_entry sealed entry_body bytes_of
  callback_spelt = refl

  service_size : num 0 2 (encode_entry e) ≡ length e.service
  service_size = service_spelt ∙ le_bytes 2 (length e.service) (omega (arith, h.service))

  callback_size : num 2 2 (encode_entry e) ≡ length e.callback
  callback_size = callback_spelt ∙ le_bytes 2 (length e.callback) (omega (arith, h.callback))

  pub entry_back : decode_entry (encode_entry e) ≡ e
  unfolding decode_entry
  entry_back =
      let s : part 4 (length e.service) (encode_entry e) ≡ e.service = rw by_service (part_mid sizes e.service _ 4 (length e.service) length_sizes refl) in
      let c : part 204 (length e.callback) (encode_entry e) ≡ e.callback = rw by_callback (part_mid front e.callback _ 204 (length e.callback) length_front refl) in
      rw (service_size, callback_size, s, c)

pub length-entries : (es : List Entry) → AllShort es → length (joined (map encode_entry es)) ≡ 512 * length es
unfolding AllShort joined
length-entries [] h = refl
length-entries (e ∷ es) h = rw (length-append (encode_entry e) (joined (map encode_entry es))) (omega (arith, length-entry e h.0, length-entries es h.1))

entries_back : (es : List Entry) → AllShort es → map decode_entry (blocks (length es) 512 (joined (map encode_entry es))) ≡ es
unfolding AllShort joined blocks
entries_back [] h = refl
entries_back (e ∷ es) h =
    let n = length-entry e h.0 in
    rw (take_at (encode_entry e) (joined (map encode_entry es)) 512 n, drop_at (encode_entry e) (joined (map encode_entry es)) 512 n, entry_back e h.0, entries_back es h.1)

pub register_back : (es : List Entry) → AllShort es → decode_register (joined (map encode_entry es)) ≡ es
unfolding decode_register
register_back es h =
    let n : length (joined (map encode_entry es)) / 512 ≡ length es = omega (arith, length-entries es h) in
    rw n (entries_back es h)

-- an entry that keeps the rules has room in its block
module _ (e : Entry) (q : entry_right e ≡ true) where
  pub right_short : Short e
  unfolding entry_right
  right_short =
      let n : ℕ = length e.service in
      let m : ℕ = length e.callback in
      let s = address_right e.service in
      let c = address_right e.callback in
      let a = (both (within 1 200 n && leb m 200 && s && c) (if (is_empty e.callback) true (same (take 8 e.callback) (ascii "https://"))) q).0 in
      let b = (both (within 1 200 n && leb m 200) s (both (within 1 200 n && leb m 200 && s) c a).0).0 in
      let w = both (within 1 200 n) (leb m 200) b in
      record { service = leb-true n 200 (both (leb 1 n) (leb n 200) w.0).1; callback = leb-true m 200 w.1 }

rights_short : (es : List Entry) → all_entries_right es ≡ true → AllShort es
unfolding AllShort all_entries_right
rights_short [] q = tt
rights_short (e ∷ es) q = let p = both (entry_right e) (all_entries_right es) q in (right_short e p.0, rights_short es p.1)

-- what is known of a lawful register
pub record Panels (b : List ℕ) : Type 0 where
  pub shape : register_shape (length b) ≡ true
  pub bytes : b ≡ joined (map encode_entry (decode_register b))
  pub entries : all_entries_right (decode_register b) ≡ true
  pub services : all_differ (services_of (decode_register b)) ≡ true

pub lawful_register : (b : List ℕ) → register_lawful b ≡ true → Panels b
unfolding register_lawful
lawful_register b e =
    let h = register_shape (length b) in
    let s = same b (joined (map encode_entry (decode_register b))) in
    let r = all_entries_right (decode_register b) in
    let p = both (h && s && r) (all_differ (services_of (decode_register b))) e in
    let q = both (h && s) r p.0 in
    let w = both h s q.0 in
    record { shape = w.0; bytes = same-eq b (joined (map encode_entry (decode_register b))) w.1; entries = q.1; services = p.1 }

pub lawful_short : (b : List ℕ) → register_lawful b ≡ true → AllShort (decode_register b)
lawful_short b e = rights_short (decode_register b) (lawful_register b e).entries
