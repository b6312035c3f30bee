-- What the code computes of a block is what protocol says of it. Assumes nothing.
use mathlib.Core.Path.{◌≡◌, refl, sym, ◌∙◌}
use mathlib.Core.Bool.{Bool, true, false, ◌&&◌}
use mathlib.Core.List.{List, [], ◌∷◌}
use Prim.Native.Nat.{ℕ, ◌+◌, ◌-◌, ◌<◌, ◌≤◌}
use native.Mathlib.Omega.{arith}
use native.Mathlib.Decide.{dec_le}
use borrow.Author.Tests.{le-leb, lt-leb, leb-true}
use lib.Dec.{eqb, leb, lit≤, lit<}
use lib.ListN.{length, take, drop, get_or, length-take, length-drop}
use Rattle.protocol.specs.Bytes.{if, ascii, same, within, all_within, zeros, pad_to, part, num, bytes_of}
use Rattle.protocol.specs.Tickets.{a_waiting, secret_length, mark_most, depth_least, depth_most, text_least, text_most}
use Rattle.protocol.specs.Records.{decode_rec, rec_body, fields_right, serial_right, expiry_right, since_right, own_right, text_right as rec_text_right, letters_right}
use Rattle.protocol.specs.Table.{head_body}
use Rattle.protocol.proofs.Laws.{both, length_bytes, length_pad, text_most_lem, part-long, and-false, one_test}
use Rattle.protocol.proofs.Sizes.{secret_most}
use Rattle.ticket.specs.declared.Limits.{Limits}
use Rattle.ticket.specs.declared.Kind.{Kind}
use Rattle.ticket.specs.declared.Kind.TheVariants.{Free, Login, Session, Service, Proxy, Waiting, Grant, Visit, Other}
use Rattle.ticket.specs.declared.beyond.Beyond.{Beyond}
use Rattle.ticket.specs.Kinds.{number, limits_of}
use Rattle.ticket.proofs.Laws.{limited, number_kind}
use Rattle.table.specs.declared.Fields.{Fields}
use Rattle.table.specs.Parts.{fields_of}
use Rattle.table_rules.specs.Tests.{limits_right, life_right, since_test, secrets_right, text_right, gaps_zero, record_right, head_right}
use Rattle.block.proofs.Bytewise.{Bytes, front_test, same-zeros, field_own, field_test, two_own, one_and_zero, full_own, text_own}

-- A record's bytes

-- a text is as long as its length field says, or both are too long for any kind
text_length : (b : List ℕ) (k n : ℕ) → length b ≡ 512 → within (text_least k) (text_most k) (length (part 44 n b)) ≡ within (text_least k) (text_most k) n
text_length b k n h = by_length (dec_le n 200)
  where
    by_length : Dec (n ≤ 200) → within (text_least k) (text_most k) (length (part 44 n b)) ≡ within (text_least k) (text_most k) n
    by_length (yes p) = rw (part-long 44 n b (omega arith))
    by_length (no p) =
        let l : 200 < length (part 44 n b) = rw (length-take n (drop 44 b), length-drop 44 b) (omega arith) in
        let x : leb (length (part 44 n b)) (text_most k) ≡ false = lt-leb (length (part 44 n b)) (text_most k) (omega (arith, text_most_lem k)) in
        let z : leb n (text_most k) ≡ false = lt-leb n (text_most k) (omega (arith, text_most_lem k)) in
        rw (x, z, and-false (leb (text_least k) (length (part 44 n b))), and-false (leb (text_least k) n))

-- the order of the tests does not matter
limits_first : (k m d s tl tb i v life : Bool) → k && m && d && s && (tl && tb) && i && v && life ≡ (k && (m && d && tl)) && (s && tb && i && v && life)
limits_first false m d s tl tb i v life = refl
limits_first true false d s tl tb i v life = refl
limits_first true true false s tl tb i v life = refl
limits_first true true true s true tb i v life = refl
limits_first true true true true false tb i v life = refl
limits_first true true true false false tb i v life = refl

-- the rules of a record by itself: limits, and the rest
own_limits : (c n : ℕ) (b : List ℕ) → length b ≡ 512
    → own_right c n (decode_rec b)
    ≡ limits_right (fields_of (decode_rec b)) (num 40 2 b)
    && (all_within 0 0 (drop (secret_length (get_or b 0 0)) (part 24 16 b)) && letters_right (get_or b 0 0) (part 44 (num 40 2 b) b) && (if (eqb (get_or b 0 0) a_waiting) true (all_within 0 0 (part 256 16 b)))
    && since_test c (fields_of (decode_rec b)) && life_right c n (fields_of (decode_rec b)))
unfolding own_right fields_right rec_text_right serial_right expiry_right since_right decode_rec limits_right life_right
own_limits c n b h =
    let k : ℕ = get_or b 0 0 in
    rw (number_kind k, text_length b k (num 40 2 b) h)
    (limits_first (leb k 7) (leb (get_or b 1 0) (mark_most k)) (within (depth_least k) (depth_most k) (get_or b 6 0)) _ (within (text_least k) (text_most k) (num 40 2 b)) _ _ _ _)

module _ (b : List ℕ) (h : 512 ≤ length b) (y : (i : ℕ) → get_or b i 0 < 256) where
  fits : (m : ℕ) → m ≤ 512 → m ≤ length b
  fits m g = omega arith

  -- the first 508 bytes are those of the record that they say where the unnamed ones are zero
  body_own : num 40 2 b ≤ 200
      → same (take 508 b) (rec_body (decode_rec b))
      ≡ all_within 0 0 (part 7 1 b) && (all_within 0 0 (part 12 4 b) && (all_within 0 0 (part 42 2 b) && (all_within 0 0 (part (44 + num 40 2 b) (212 - num 40 2 b) b) && all_within 0 0 (part 280 228 b))))
  unfolding rec_body decode_rec
  body_own short =
      let l : length (part 44 (num 40 2 b) b) ≡ num 40 2 b = part-long 44 (num 40 2 b) b (omega arith) in
      let size : same (part 40 2 b) (bytes_of 2 (length (part 44 (num 40 2 b) b))) ≡ true = rw l (field_own b y 40 2 (fits 42 (lit≤ tt))) in
      front_test b (get_or b 0 0 ∷ get_or b 1 0 ∷ []) _ 0 2 506 refl (fits 2 (lit≤ tt)) (two_own b 0 (fits 2 (lit≤ tt)))
      (front_test b (bytes_of 2 (num 2 2 b)) _ 2 2 504 (length_bytes 2 (num 2 2 b)) (fits 4 (lit≤ tt)) (field_own b y 2 2 (fits 4 (lit≤ tt)))
      (front_test b (bytes_of 2 (num 4 2 b)) _ 4 2 502 (length_bytes 2 (num 4 2 b)) (fits 6 (lit≤ tt)) (field_own b y 4 2 (fits 6 (lit≤ tt)))
      (front_test b (get_or b 6 0 ∷ 0 ∷ []) _ 6 2 500 refl (fits 8 (lit≤ tt)) (one_and_zero b 6 (fits 8 (lit≤ tt)))
      (front_test b (bytes_of 4 (num 8 4 b)) _ 8 4 496 (length_bytes 4 (num 8 4 b)) (fits 12 (lit≤ tt)) (field_own b y 8 4 (fits 12 (lit≤ tt)))
      (front_test b (zeros 4) _ 12 4 492 refl (fits 16 (lit≤ tt)) (same-zeros (part 12 4 b) 4 (part-long 12 4 b (fits 16 (lit≤ tt))))
      (front_test b (bytes_of 8 (num 16 8 b)) _ 16 8 484 (length_bytes 8 (num 16 8 b)) (fits 24 (lit≤ tt)) (field_own b y 16 8 (fits 24 (lit≤ tt)))
      (front_test b (pad_to 16 (part 24 16 b)) _ 24 16 468 (padded 24 16 (lit≤ tt)) (fits 40 (lit≤ tt)) (full_own (part 24 16 b) 16 (part-long 24 16 b (fits 40 (lit≤ tt))))
      (front_test b (bytes_of 2 (length (part 44 (num 40 2 b) b))) _ 40 2 466 (length_bytes 2 (length (part 44 (num 40 2 b) b))) (fits 42 (lit≤ tt)) size
      (front_test b (zeros 2) _ 42 2 464 refl (fits 44 (lit≤ tt)) (same-zeros (part 42 2 b) 2 (part-long 42 2 b (fits 44 (lit≤ tt))))
      (front_test b (pad_to 212 (part 44 (num 40 2 b) b)) _ 44 212 252 (length_pad 212 (part 44 (num 40 2 b) b) (omega arith)) (fits 256 (lit≤ tt)) (text_own b 44 (num 40 2 b) 212 (omega arith) (fits 256 (lit≤ tt)))
      (front_test b (pad_to 16 (part 256 16 b)) _ 256 16 236 (padded 256 16 (lit≤ tt)) (fits 272 (lit≤ tt)) (full_own (part 256 16 b) 16 (part-long 256 16 b (fits 272 (lit≤ tt))))
      (front_test b (bytes_of 8 (num 272 8 b)) _ 272 8 228 (length_bytes 8 (num 272 8 b)) (fits 280 (lit≤ tt)) (field_own b y 272 8 (fits 280 (lit≤ tt)))
      (same-zeros (part 280 228 b) 228 (part-long 280 228 b (fits 508 (lit≤ tt))))))))))))))))
    where
      padded : (at n : ℕ) → at + n ≤ 512 → length (pad_to n (part at n b)) ≡ n
      padded at n g = let l : length (part at n b) ≡ n = part-long at n b (omega arith) in length_pad n (part at n b) (omega arith)

  -- two bytes of the header, low first, are its form's
  form_test : same (part 6 2 b) (1 ∷ 0 ∷ []) ≡ eqb (num 6 2 b) 1
  unfolding bytes_of
  form_test = field_test b y 6 2 1 (fits 8 (lit≤ tt)) (lit< tt)

  -- the first 508 bytes are those of a header of so many records
  head_own : (count : ℕ) → count < 65536
      → same (take 508 b) (head_body count (num 8 8 b) (num 16 4 b))
      ≡ same (part 0 4 b) (ascii "TKTS") && (eqb (num 4 2 b) count && (eqb (num 6 2 b) 1 && all_within 0 0 (part 20 488 b)))
  unfolding head_body
  head_own count g =
      front_test b (ascii "TKTS") _ 0 4 504 refl (fits 4 (lit≤ tt)) refl
      (front_test b (bytes_of 2 count) _ 4 2 502 (length_bytes 2 count) (fits 6 (lit≤ tt)) (field_test b y 4 2 count (fits 6 (lit≤ tt)) g)
      (front_test b (1 ∷ 0 ∷ []) _ 6 2 500 refl (fits 8 (lit≤ tt)) form_test
      (front_test b (bytes_of 8 (num 8 8 b)) _ 8 8 492 (length_bytes 8 (num 8 8 b)) (fits 16 (lit≤ tt)) (field_own b y 8 8 (fits 16 (lit≤ tt)))
      (front_test b (bytes_of 4 (num 16 4 b)) _ 16 4 488 (length_bytes 4 (num 16 4 b)) (fits 20 (lit≤ tt)) (field_own b y 16 4 (fits 20 (lit≤ tt)))
      (same-zeros (part 20 488 b) 488 (part-long 20 488 b (fits 508 (lit≤ tt))))))))

-- What the code knows at its returns

-- a kind by name is one of eight
number_most : (w : Kind) → ((o : Beyond) → w ≡ Other o → ⊥) → number w ≤ 7
number_most Free z = lit≤ tt
number_most Login z = lit≤ tt
number_most Session z = lit≤ tt
number_most Service z = lit≤ tt
number_most Proxy z = lit≤ tt
number_most Waiting z = lit≤ tt
number_most Grant z = lit≤ tt
number_most Visit z = lit≤ tt
number_most (Other o) z = absurd (z o refl)

pub limits_low : (f : Fields) (n : ℕ) {l : Limits} → ((o : Beyond) → f.kind ≡ Other o → ⊥) → l ≡ limits_of (number f.kind)
    → leb f.mark l.mark_most && (leb l.depth_least f.depth && leb f.depth l.depth_most) && (leb l.text_least n && leb n l.text_most) ≡ limits_right f n
unfolding limits_right
limits_low f n z e =
    let m = limited (number f.kind) e in
    rw (le-leb (number f.kind) 7 (number_most f.kind z), m.mark, m.shallow, m.deep, m.short, m.long)

-- a secret has at most 16 bytes
pub secret_room : (b : List ℕ) (kind : ℕ) {n : ℕ} → length b ≡ 512 → n ≡ secret_length kind → n ≤ length (part 24 16 b)
secret_room b kind h e = omega (arith, secret_most kind, part-long 24 16 b (omega arith))

-- within the limits the text is short
pub limits_short : (f : Fields) (n : ℕ) {x : ℕ} {good : Bool} → good ≡ limits_right f n → good ≡ true → x ≡ n → x ≤ 200
unfolding limits_right
limits_short f n e g z =
    let k : ℕ = number f.kind in
    let p = both (leb k 7) (leb f.mark (mark_most k) && within (depth_least k) (depth_most k) f.depth && within (text_least k) (text_most k) n) (sym e ∙ g) in
    let q = both (leb f.mark (mark_most k) && within (depth_least k) (depth_most k) f.depth) (within (text_least k) (text_most k) n) p.1 in
    let t = both (leb (text_least k) n) (leb n (text_most k)) q.1 in
    let m : n ≤ text_most k = leb-true n (text_most k) t.1 in
    omega (arith, text_most_lem k)

-- the tests of bytes in the code's order, and in protocol's
in_order : (s i t rest g7 g12 g42 g280 v life : Bool) → s && i && (t && rest) && (g7 && g12 && g42 && g280) && v && life ≡ s && t && i && v && life && (g7 && (g12 && (g42 && (rest && g280))))
in_order s i t rest g7 g12 g42 g280 v life = one_test _ _ there back
  where
    there : s && i && (t && rest) && (g7 && g12 && g42 && g280) && v && life ≡ true → s && t && i && v && life && (g7 && (g12 && (g42 && (rest && g280)))) ≡ true
    there e =
        let p5 = both (s && i && (t && rest) && (g7 && g12 && g42 && g280) && v) life e in
        let p4 = both (s && i && (t && rest) && (g7 && g12 && g42 && g280)) v p5.0 in
        let p3 = both (s && i && (t && rest)) (g7 && g12 && g42 && g280) p4.0 in
        let p2 = both (s && i) (t && rest) p3.0 in
        let si = both s i p2.0 in
        let tr = both t rest p2.1 in
        let g3 = both (g7 && g12 && g42) g280 p3.1 in
        let g2 = both (g7 && g12) g42 g3.0 in
        let g1 = both g7 g12 g2.0 in
        rw (si.0, tr.0, si.1, p4.1, p5.1, g1.0, g1.1, g2.1, tr.1, g3.1)

    back : s && t && i && v && life && (g7 && (g12 && (g42 && (rest && g280)))) ≡ true → s && i && (t && rest) && (g7 && g12 && g42 && g280) && v && life ≡ true
    back e =
        let p = both (s && t && i && v && life) (g7 && (g12 && (g42 && (rest && g280)))) e in
        let p4 = both (s && t && i && v) life p.0 in
        let p3 = both (s && t && i) v p4.0 in
        let p2 = both (s && t) i p3.0 in
        let p1 = both s t p2.0 in
        let q1 = both g7 (g12 && (g42 && (rest && g280))) p.1 in
        let q2 = both g12 (g42 && (rest && g280)) q1.1 in
        let q3 = both g42 (rest && g280) q2.1 in
        let q4 = both rest g280 q3.1 in
        rw (p1.0, p2.1, p1.1, q4.0, q1.0, q2.0, q3.0, q4.1, p3.1, p4.1)

-- a record outside its limits is wrong
pub record_wrong : (c n : ℕ) (b : List ℕ) {f : Fields} {m : ℕ} {good : Bool} → length b ≡ 512 → f ≡ fields_of (decode_rec b) → m ≡ num 40 2 b → good ≡ limits_right f m → good ≡ false
    → false ≡ record_right c n b
record_wrong c n b h e l g z =
    let w : limits_right (fields_of (decode_rec b)) (num 40 2 b) ≡ false = rw (e, l) at (sym g ∙ z) in
    sym (rw (own_limits c n b h, w))

-- within them its bytes decide
pub record_right_lem : (c n : ℕ) (b : List ℕ) {f : Fields} {m x : ℕ} {good s t g v l : Bool} → length b ≡ 512 → Bytes b → x ≡ m
    → f ≡ fields_of (decode_rec b) → m ≡ num 40 2 b → good ≡ limits_right f m → good ≡ true
    → s ≡ secrets_right (number f.kind) b → t ≡ text_right (number f.kind) x b → g ≡ gaps_zero b → v ≡ since_test c f → l ≡ life_right c n f
    → s && t && g && v && l ≡ record_right c n b
unfolding secrets_right text_right gaps_zero decode_rec
record_right_lem c n b {f} h y j e l g z a p q u r =
    let k : ℕ = get_or b 0 0 in
    let m : ℕ = num 40 2 b in
    let w : limits_right (fields_of (decode_rec b)) (num 40 2 b) ≡ true = rw (e, l) at (sym g ∙ z) in
    let short : num 40 2 b ≤ 200 = limits_short (fields_of (decode_rec b)) (num 40 2 b) (sym w) refl refl in
    rw (a, p, q, u, r, j, e, l, own_limits c n b h, w, body_own b (omega arith) y.each short, number_kind k)
    (in_order (all_within 0 0 (drop (secret_length k) (part 24 16 b))) (if (eqb k a_waiting) true (all_within 0 0 (part 256 16 b))) (letters_right k (part 44 m b)) (all_within 0 0 (part (44 + m) (212 - m) b))
    (all_within 0 0 (part 7 1 b)) (all_within 0 0 (part 12 4 b)) (all_within 0 0 (part 42 2 b)) (all_within 0 0 (part 280 228 b)) _ (life_right c n (fields_of (decode_rec b))))

-- tests one by one, or each with all that follow
one_by_one : (a b c d e : Bool) → a && b && c && d && e ≡ a && (b && (c && (d && e)))
one_by_one false b c d e = refl
one_by_one true false c d e = refl
one_by_one true true false d e = refl
one_by_one true true true d e = refl

pub head_right_lem : (b : List ℕ) (count : ℕ) {clock n form : ℕ} {s z : Bool} → 512 ≤ length b → Bytes b → count < 65536
    → clock ≡ num 8 8 b → s ≡ same (part 0 4 b) (ascii "TKTS") → n ≡ num 4 2 b → form ≡ num 6 2 b → z ≡ all_within 0 0 (part 20 488 b)
    → leb clock 1099511627776 && s && eqb n count && eqb form 1 && z ≡ head_right count b
head_right_lem b count h y g p q r s t =
    rw (p, q, r, s, t, head_own b h y.each count g) (one_by_one (leb (num 8 8 b) 1099511627776) (same (part 0 4 b) (ascii "TKTS")) (eqb (num 4 2 b) count) (eqb (num 6 2 b) 1) (all_within 0 0 (part 20 488 b)))
