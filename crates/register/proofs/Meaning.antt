-- A block judged by its texts and the rest of it is judged by its bytes: they are those of the entry that they say. Assumes nothing.
use mathlib.Core.Path.{◌≡◌, refl, sym, ap, ◌∙◌}
use mathlib.Core.Bool.{Bool, true, false, ◌&&◌}
use mathlib.Core.List.{List, ◌++◌}
use Prim.Native.Nat.{ℕ, ◌+◌, ◌-◌, ◌≤◌, ◌<◌}
use native.Mathlib.Omega.{arith}
use lib.ListN.{length, take, drop, get_or, length-append, length-take, length-drop}
use Rattle.protocol.specs.Bytes.{same, all_within, pad_to, part, num, bytes_of}
use Rattle.protocol.specs.Blocks.{house_check, sealed, check_right}
use Rattle.protocol.specs.Register.{Entry, entry_body, encode_entry, decode_entry, entry_right}
use Rattle.protocol.specs.Panels.{entry, panel_right}
use Rattle.protocol.proofs.Laws.{length_bytes, length_pad, and-false}
use Rattle.protocol.proofs.Panels.{Short, length-entry, right_short}
use Rattle.block.proofs.Bytewise.{front_test, field_own, text_own, sealed_test, Bytes}
use Rattle.register.specs.Blockwise.{rest_right}

in_order : (z y c : Bool) → z && y && c ≡ c && z && y
in_order z y true = go z y
  where
    go : (z y : Bool) → z && y && true ≡ z && y
    go true true = refl
    go true false = refl
    go false y = refl
in_order z y false = and-false (z && y)

-- texts of a right length are as long as their fields say
module _ (b : List ℕ) (h : length b ≡ 512) (y : (i : ℕ) → get_or b i 0 < 256) (short : Short (decode_entry b)) where
  abbrev n : ℕ
  n = num 0 2 b

  abbrev m : ℕ
  m = num 2 2 b

  abbrev e : Entry
  e = decode_entry b

  ln : length (part 4 n b) ≡ n
  unfolding decode_entry
  ln = omega (arith, short.service, length-take n (drop 4 b), length-drop 4 b)

  lm : length (part 204 m b) ≡ m
  unfolding decode_entry
  lm = omega (arith, short.callback, length-take m (drop 204 b), length-drop 204 b)

  -- then the 508 bytes are the entry's where the rest is zero
  body_test : same (take 508 b) (entry_body e) ≡ all_within 0 0 (part (4 + n) (200 - n) b) && all_within 0 0 (part (204 + m) (304 - m) b)
  unfolding entry_body decode_entry
  body_test =
      let hn : n ≤ 200 = omega (arith, ln, short.service) in
      let hm : m ≤ 200 = omega (arith, lm, short.callback) in
      let service : same (part 4 200 b) (pad_to 200 (part 4 n b)) ≡ all_within 0 0 (part (4 + n) (200 - n) b) = text_own b 4 n 200 hn (omega arith) in
      let callback : same (part 204 304 b) (pad_to 304 (part 204 m b)) ≡ all_within 0 0 (part (204 + m) (304 - m) b) = text_own b 204 m 304 (omega arith) (omega arith) in
      let last = front_test b (pad_to 200 (part 4 n b)) (pad_to 304 (part 204 m b)) 4 200 304 (length_pad 200 (part 4 n b) (omega (arith, ln))) (omega arith) service callback in
      let second = front_test b (bytes_of 2 m) (pad_to 200 (part 4 n b) ++ pad_to 304 (part 204 m b)) 2 2 504 (length_bytes 2 m) (omega arith) (field_own b y 2 2 (omega arith)) last in
      let first = front_test b (bytes_of 2 n) (bytes_of 2 m ++ (pad_to 200 (part 4 n b) ++ pad_to 304 (part 204 m b))) 0 2 506 (length_bytes 2 n) (omega arith) (field_own b y 0 2 (omega arith)) second in
      rw (ln, lm) (rw (ln, lm) at first)

  body_long : length (entry_body e) ≡ 508
  unfolding encode_entry sealed
  body_long = omega (arith, length-entry e short, length-append (entry_body e) (bytes_of 4 (house_check (entry_body e))), length_bytes 4 (house_check (entry_body e)))

  block_test : same b (encode_entry e) ≡ rest_right (length e.service) (length e.callback) b
  unfolding encode_entry rest_right decode_entry
  block_test =
      let z : Bool = all_within 0 0 (part (4 + n) (200 - n) b) in
      let q : Bool = all_within 0 0 (part (204 + m) (304 - m) b) in
      let s : same b (sealed (entry_body e)) ≡ z && q && check_right b = sym (sealed_test b (entry_body e) h y body_long) ∙ ap (λ (t : Bool). t && check_right b) body_test in
      s ∙ in_order z q (check_right b) ∙ rw (ln, lm)

-- `block_right`
module _ (b s c : List ℕ) (es : s ≡ (decode_entry b).service) (ec : c ≡ (decode_entry b).callback) (q : Bool) (eq : q ≡ entry_right (entry s c)) where
  known : entry_right (decode_entry b) ≡ q
  known = sym (eq ∙ rw (es, ec))

  pub block_no : q ≡ false → false ≡ panel_right b
  unfolding panel_right
  block_no f = sym (rw (known, f) (and-false (same b (encode_entry (decode_entry b)))))

  pub block_yes : (r : Bool) → length b ≡ 512 → Bytes b → q ≡ true → r ≡ rest_right (length s) (length c) b → r ≡ panel_right b
  unfolding panel_right
  block_yes r h y f e =
      let t : same b (encode_entry (decode_entry b)) ≡ r = block_test b h y.each (right_short (decode_entry b) (known ∙ f)) ∙ sym (e ∙ rw (es, ec)) in
      sym (rw (t, known, f) (go r))
    where
      go : (x : Bool) → x && true ≡ x
      go true = refl
      go false = refl

-- the limits of texts that are right
module _ (s c : List ℕ) (q : Bool) (eq : q ≡ entry_right (entry s c)) (f : q ≡ true) where
  pub limit_service : length s ≤ 200
  limit_service = (right_short (entry s c) (sym eq ∙ f)).service

  pub limit_callback : length c ≤ 200
  limit_callback = (right_short (entry s c) (sym eq ∙ f)).callback
