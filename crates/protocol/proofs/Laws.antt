-- Laws of bytes, blocks and tables that everybody cites. Assumes nothing.
use mathlib.Core.Path.{◌≡◌, refl, sym, ap, ◌∙◌}
use mathlib.Core.Bool.{Bool, true, false, ◌&&◌, ◌||◌}
use mathlib.Core.List.{List, [], ◌∷◌, ◌++◌, append_assoc, append-nil, map}
use Prim.Native.Nat.{ℕ, zero, suc, ◌+◌, ◌-◌, ◌*◌, ◌/◌, ◌^◌, ◌<◌, ◌≤◌}
use native.Mathlib.Nat.{pow-suc, mul_comm}
use native.Mathlib.Numerals.{add-one}
use native.Mathlib.Omega.{arith}
use borrow.Author.Tests.{eq-eqb, eqb-true, leb-true, le-leb}
use lib.Dec.{eqb, leb}
use lib.ListN.{length, take, drop, get_or, length-append, length-drop, length-replicate}
use lib.Seq.{take_at, drop_at, length-take-le, drop-cons}
use Rattle.protocol.specs.Bytes.{if, same, within, all_within, zeros, pad_to, part, num, le_of, bytes_of, joined, blocks}
use Rattle.protocol.specs.Blocks.{sealed, house_check}
use Rattle.protocol.specs.Records.{Rec, rec_body, encode_rec, decode_rec, text_right, fields_right, since_right, serial_right, expiry_right, own_right, letters_right}
use Rattle.protocol.specs.Tickets.{mark_most, depth_least, depth_most, text_least, text_most, a_free, a_login, a_session, a_waiting, secret_length}
use Rattle.protocol.specs.Held.{Sized, Fits, AllFit}
use Rattle.protocol.specs.Table.{Table, head_body, encode_table, decode_table, table_lawful, rules_hold, all_right, session_right, parent_right, serials_differ, count_kind, login_cap, last_time}

-- by a test
pub fork : {A : Type 0} (P : A → Type 0) (b : Bool) {x y : A} → (b ≡ true → P x) → (b ≡ false → P y) → P (if b x y)
fork P true f g = f refl
fork P false f g = g refl

-- both tests
pub both : (a b : Bool) → a && b ≡ true → (a ≡ true) × (b ≡ true)
both true b e = (refl, e)
both false b e = absurd (let z : ◌≡◌ {A = ℕ} 0 1 = cc in omega arith)

pub or_both : (a b : Bool) → a || b ≡ false → (a ≡ false) × (b ≡ false)
or_both true b e = absurd (let z : ◌≡◌ {A = ℕ} 0 1 = cc in omega arith)
or_both false b e = (refl, e)

pub and-false : (a : Bool) → a && false ≡ false
and-false true = refl
and-false false = refl

pub or-true : (a : Bool) → a || true ≡ true
or-true true = refl
or-true false = refl

-- tests that pass alike are one
pub one_test : (a b : Bool) → (a ≡ true → b ≡ true) → (b ≡ true → a ≡ true) → a ≡ b
one_test true b f g = sym (f refl)
one_test false true f g = g refl
one_test false false f g = refl

pub and_assoc : (a b c : Bool) → a && (b && c) ≡ a && b && c
and_assoc true b c = refl
and_assoc false b c = refl

-- `same` is equality
pub same-eq : (a b : List ℕ) → same a b ≡ true → a ≡ b
unfolding same
same-eq [] [] e = refl
same-eq [] (y ∷ b) e = absurd (let z : ◌≡◌ {A = ℕ} 0 1 = cc in omega arith)
same-eq (x ∷ a) [] e = absurd (let z : ◌≡◌ {A = ℕ} 0 1 = cc in omega arith)
same-eq (x ∷ a) (y ∷ b) e =
    let p = both (eqb x y) (same a b) e in
    let h : x ≡ y = eqb-true x y p.0 in
    let t : a ≡ b = same-eq a b p.1 in
    cc

pub same_refl : (a : List ℕ) → same a a ≡ true
unfolding same
same_refl [] = refl
same_refl (x ∷ a) = rw (eq-eqb x x refl) (same_refl a)

-- two texts in two parts each, the first as long as the other's
pub same-append : (a c b d : List ℕ) → length a ≡ length c → same (a ++ b) (c ++ d) ≡ same a c && same b d
unfolding same
same-append [] [] b d h = refl
same-append [] (y ∷ c) b d h = absurd (omega arith)
same-append (x ∷ a) [] b d h = absurd (omega arith)
same-append (x ∷ a) (y ∷ c) b d h = rw (same-append a c b d (omega arith)) (and_assoc (eqb x y) (same a c) (same b d))

-- bytes of numbers
pub length_bytes : (n v : ℕ) → length (bytes_of n v) ≡ n
unfolding bytes_of
length_bytes zero v = refl
length_bytes (suc n) v = ap suc (length_bytes n (v / 256))

pub le_bytes : (n v : ℕ) → v < 256 ^ n → le_of (bytes_of n v) ≡ v
unfolding bytes_of le_of
le_bytes zero v h = omega arith
le_bytes (suc n) v h =
    let e : 256 ^ suc n ≡ 256 * 256 ^ n = pow-suc 256 n ∙ mul_comm _ _ in
    let d : v / 256 < 256 ^ n = omega arith in
    rw (le_bytes n (v / 256) d) (omega arith)

pub le_below : (n v : ℕ) → le_of (bytes_of n v) < 256 ^ n
unfolding bytes_of le_of
le_below zero v = omega arith
le_below (suc n) v =
    let e : 256 ^ suc n ≡ 256 * 256 ^ n = pow-suc 256 n ∙ mul_comm _ _ in
    let d : le_of (bytes_of n (v / 256)) < 256 ^ n = le_below n (v / 256) in
    omega arith

pub length_pad : (n : ℕ) (s : List ℕ) → length s ≤ n → length (pad_to n s) ≡ n
length_pad n s h = rw (length-append s (zeros (n - length s)), length-replicate {A = ℕ} (n - length s) 0) (omega arith)

pub pad_full : (n : ℕ) (s : List ℕ) → length s ≡ n → pad_to n s ≡ s
pad_full n s h = let e : n - length s ≡ 0 = omega arith in rw e (append-nil s)

-- a part in the middle
pub part_mid : (a p c : List ℕ) (at n : ℕ) → length a ≡ at → length p ≡ n → part at n (a ++ (p ++ c)) ≡ p
part_mid a p c at n h k = rw (drop_at a (p ++ c) at h) (take_at p c n k)

-- a block's length
pub length-sealed : (s : List ℕ) → length s ≡ 508 → length (sealed s) ≡ 512
unfolding sealed
length-sealed s h = rw (length-append s (bytes_of 4 (house_check s)), length_bytes 4 (house_check s)) (omega arith)

-- the first 24 bytes of a record's block
abbrev first24 : Rec → List ℕ
first24 r =
    (r.kind ∷ r.mark ∷ [])
    ++ (bytes_of 2 r.parent
    ++ (bytes_of 2 r.session
    ++ ((r.depth ∷ 0 ∷ [])
    ++ (bytes_of 4 r.serial
    ++ (zeros 4
    ++ bytes_of 8 r.expiry)))))

module _ (r : Rec) (f : Sized r) where
  pub length_body : length (rec_body r) ≡ 508
  unfolding rec_body bytes_of
  length_body = simp (length-append, length-replicate) (omega arith)

  pub length_rec : length (encode_rec r) ≡ 512
  unfolding encode_rec
  length_rec = length-sealed (rec_body r) length_body

  -- its bytes, regrouped
  laid : (z : List ℕ) → rec_body r ++ z ≡ first24 r ++ (pad_to 16 r.secret ++ (bytes_of 2 (length r.text) ++ (zeros 2 ++ (pad_to 212 r.text ++ (pad_to 16 r.iou ++ (bytes_of 8 r.since ++ (zeros 228 ++ z)))))))
  unfolding rec_body
  laid z = simp append_assoc

  -- from the secret on
  abbrev behind : List ℕ → List ℕ
  behind z = r.text ++ (zeros (212 - length r.text) ++ (r.iou ++ (bytes_of 8 r.since ++ (zeros 228 ++ z))))

  from44 : (z : List ℕ) → pad_to 212 r.text ++ (pad_to 16 r.iou ++ (bytes_of 8 r.since ++ (zeros 228 ++ z))) ≡ behind z
  from44 z = rw (pad_full 16 r.iou f.iou) (append_assoc r.text (zeros (212 - length r.text)) (r.iou ++ (bytes_of 8 r.since ++ (zeros 228 ++ z))))

  abbrev check : List ℕ
  check = bytes_of 4 (house_check (rec_body r))

  regrouped : encode_rec r ≡ first24 r ++ (r.secret ++ (bytes_of 2 (length r.text) ++ (zeros 2 ++ behind check)))
  unfolding encode_rec sealed
  regrouped = laid check ∙ ap (λ (l : List ℕ). first24 r ++ (pad_to 16 r.secret ++ (bytes_of 2 (length r.text) ++ (zeros 2 ++ l)))) (from44 check)
      ∙ ap (λ (l : List ℕ). first24 r ++ (l ++ (bytes_of 2 (length r.text) ++ (zeros 2 ++ behind check)))) (pad_full 16 r.secret f.secret)

  length24 : length (first24 r) ≡ 24
  unfolding bytes_of
  length24 = refl

  secret_back : part 24 16 (encode_rec r) ≡ r.secret
  secret_back = rw regrouped (part_mid (first24 r) r.secret _ 24 16 length24 f.secret)

  abbrev first40 : List ℕ
  first40 = first24 r ++ r.secret

  length40 : length first40 ≡ 40
  length40 = rw (length-append (first24 r) r.secret) (omega (arith, length24, f.secret))

  size_back : num 40 2 (encode_rec r) ≡ length r.text
  size_back =
      let e : encode_rec r ≡ first40 ++ (bytes_of 2 (length r.text) ++ (zeros 2 ++ behind check)) = regrouped ∙ sym (append_assoc (first24 r) r.secret _) in
      let p : part 40 2 (encode_rec r) ≡ bytes_of 2 (length r.text) = rw e (part_mid first40 (bytes_of 2 (length r.text)) (zeros 2 ++ behind check) 40 2 length40 (length_bytes 2 (length r.text))) in
      ap le_of p ∙ le_bytes 2 (length r.text) (omega arith)

  abbrev first44 : List ℕ
  first44 = first40 ++ (bytes_of 2 (length r.text) ++ zeros 2)

  length44 : length first44 ≡ 44
  unfolding bytes_of
  length44 = rw (length-append first40 (bytes_of 2 (length r.text) ++ zeros 2)) (omega (arith, length40))

  at44 : encode_rec r ≡ first44 ++ behind check
  at44 = regrouped ∙ simp append_assoc

  text_back : part 44 (num 40 2 (encode_rec r)) (encode_rec r) ≡ r.text
  text_back = rw size_back (rw at44 (part_mid first44 r.text _ 44 (length r.text) length44 refl))

  abbrev first256 : List ℕ
  first256 = first44 ++ (r.text ++ zeros (212 - length r.text))

  length256 : length first256 ≡ 256
  length256 = rw (length-append first44 (r.text ++ zeros (212 - length r.text)), length-append r.text (zeros (212 - length r.text)), length-replicate {A = ℕ} (212 - length r.text) 0) (omega (arith, length44, f.text))

  at256 : encode_rec r ≡ first256 ++ (r.iou ++ (bytes_of 8 r.since ++ (zeros 228 ++ check)))
  at256 = at44 ∙ simp append_assoc

  iou_back : part 256 16 (encode_rec r) ≡ r.iou
  iou_back = rw at256 (part_mid first256 r.iou _ 256 16 length256 f.iou)

  since_read : num 272 8 (encode_rec r) ≡ le_of (bytes_of 8 r.since)
  since_read =
      let e : encode_rec r ≡ (first256 ++ r.iou) ++ (bytes_of 8 r.since ++ (zeros 228 ++ check)) = at256 ∙ sym (append_assoc first256 r.iou _) in
      let l : length (first256 ++ r.iou) ≡ 272 = rw (length-append first256 r.iou) (omega (arith, length256, f.iou)) in
      ap le_of (rw e (part_mid (first256 ++ r.iou) (bytes_of 8 r.since) (zeros 228 ++ check) 272 8 l (length_bytes 8 r.since)))

module _ (r : Rec) where
  -- its numbers, as their bytes spell them: kind, mark, depth, parent, session, serial, expiry
  numbers_read : (get_or (encode_rec r) 0 0 ≡ r.kind) × (get_or (encode_rec r) 1 0 ≡ r.mark) × (get_or (encode_rec r) 6 0 ≡ r.depth) × (num 2 2 (encode_rec r) ≡ le_of (bytes_of 2 r.parent))
      × (num 4 2 (encode_rec r) ≡ le_of (bytes_of 2 r.session)) × (num 8 4 (encode_rec r) ≡ le_of (bytes_of 4 r.serial)) × (num 16 8 (encode_rec r) ≡ le_of (bytes_of 8 r.expiry))
  unfolding encode_rec sealed rec_body bytes_of
  numbers_read = (refl, refl, refl, refl, refl, refl, refl)

  -- what was written is read back
  pub rec_back : Fits r → decode_rec (encode_rec r) ≡ r
  unfolding decode_rec
  rec_back f =
      let s = numbers_read in
      let z = f.sized in
      rw (text_back r z, s.0, s.1, s.2, s.3, le_bytes 2 r.parent f.parent, s.4, le_bytes 2 r.session f.session, s.5, le_bytes 4 r.serial f.serial, s.6, le_bytes 8 r.expiry f.expiry, secret_back r z, iou_back r z, since_read r z, le_bytes 8 r.since f.since)

  -- a block that is its own record's has numbers that fit
  pub fits_read : (b : List ℕ) → r ≡ decode_rec b → b ≡ encode_rec r → Sized r → Fits r
  unfolding decode_rec
  fits_read b d e z =
      let p : r.parent ≡ le_of (bytes_of 2 r.parent) = ap (λ (x : Rec). x.parent) d ∙ ap (λ (l : List ℕ). num 2 2 l) e ∙ numbers_read.3 in
      let s : r.session ≡ le_of (bytes_of 2 r.session) = ap (λ (x : Rec). x.session) d ∙ ap (λ (l : List ℕ). num 4 2 l) e ∙ numbers_read.4 in
      let n : r.serial ≡ le_of (bytes_of 4 r.serial) = ap (λ (x : Rec). x.serial) d ∙ ap (λ (l : List ℕ). num 8 4 l) e ∙ numbers_read.5 in
      let x : r.expiry ≡ le_of (bytes_of 8 r.expiry) = ap (λ (x : Rec). x.expiry) d ∙ ap (λ (l : List ℕ). num 16 8 l) e ∙ numbers_read.6 in
      let y : r.since ≡ le_of (bytes_of 8 r.since) = ap (λ (x : Rec). x.since) d ∙ ap (λ (l : List ℕ). num 272 8 l) e ∙ since_read r z in
      record {
        parent = omega (arith, le_below 2 r.parent);
        session = omega (arith, le_below 2 r.session);
        serial = omega (arith, le_below 4 r.serial);
        expiry = omega (arith, le_below 8 r.expiry);
        since = omega (arith, le_below 8 r.since);
        sized = z;
      }

pub length_records : (rs : List Rec) → AllFit rs → length (joined (map encode_rec rs)) ≡ 512 * length rs
unfolding AllFit joined
length_records [] f = refl
length_records (r ∷ rs) f = rw (length-append (encode_rec r) (joined (map encode_rec rs))) (omega (arith, length_rec r f.0.sized, length_records rs f.1))

pub length_head : (n c x : ℕ) → length (sealed (head_body n c x)) ≡ 512
unfolding head_body bytes_of
length_head n c x = length-sealed (head_body n c x) refl

-- the table's length
pub length_table : (t : Table) → AllFit t.slots → length (encode_table t) ≡ 512 * (length t.slots + 1)
unfolding encode_table
length_table t f =
    rw (length-append (sealed (head_body (length t.slots) t.clock t.next)) (joined (map encode_rec t.slots)))
    (omega (arith, length_head (length t.slots) t.clock t.next, length_records t.slots f))

pub records_back : (rs : List Rec) → AllFit rs → map decode_rec (blocks (length rs) 512 (joined (map encode_rec rs))) ≡ rs
unfolding AllFit joined blocks
records_back [] f = refl
records_back (r ∷ rs) f =
    let n = length_rec r f.0.sized in
    rw (take_at (encode_rec r) (joined (map encode_rec rs)) 512 n, drop_at (encode_rec r) (joined (map encode_rec rs)) 512 n, rec_back r f.0, records_back rs f.1)

after_head : (t : Table) → drop 512 (encode_table t) ≡ joined (map encode_rec t.slots)
unfolding encode_table
after_head t = drop_at (sealed (head_body (length t.slots) t.clock t.next)) (joined (map encode_rec t.slots)) 512 (length_head (length t.slots) t.clock t.next)

module _ (t : Table) (f : AllFit t.slots) where
  clock_back : t.clock < 18446744073709551616 → num 8 8 (encode_table t) ≡ t.clock
  unfolding encode_table sealed head_body bytes_of
  clock_back h = le_bytes 8 t.clock h

  next_back : t.next < 4294967296 → num 16 4 (encode_table t) ≡ t.next
  unfolding encode_table sealed head_body bytes_of
  next_back h = le_bytes 4 t.next h

  slots_back : map decode_rec (blocks (length (encode_table t) / 512 - 1) 512 (drop 512 (encode_table t))) ≡ t.slots
  slots_back =
      let n : length (encode_table t) / 512 - 1 ≡ length t.slots = omega (arith, length_table t f) in
      rw n (rw (after_head t) (records_back t.slots f))

  pub table_back : t.clock < 18446744073709551616 → t.next < 4294967296 → decode_table (encode_table t) ≡ t
  unfolding decode_table
  table_back h k = rw (clock_back h, next_back k, slots_back)

-- a lawful table's bytes are those of the table that they say, which keeps the rules
pub lawful_bytes : (b : List ℕ) → table_lawful b ≡ true → b ≡ encode_table (decode_table b)
unfolding table_lawful
lawful_bytes b e = same-eq b (encode_table (decode_table b)) (both (same b (encode_table (decode_table b))) (rules_hold (decode_table b)) e).0

pub lawful_rules : (b : List ℕ) → table_lawful b ≡ true → rules_hold (decode_table b) ≡ true
unfolding table_lawful
lawful_rules b e = (both (same b (encode_table (decode_table b))) (rules_hold (decode_table b)) e).1

-- and bytes that a fitting table wrote are lawful if it keeps the rules
pub lawful_written : (t : Table) → AllFit t.slots → t.clock < 18446744073709551616 → t.next < 4294967296 → rules_hold t ≡ true → table_lawful (encode_table t) ≡ true
unfolding table_lawful
lawful_written t f h k e = rw (table_back t f h k, same_refl (encode_table t), e)

-- A lawful table fits

pub mark_most_lem : (k : ℕ) → mark_most k ≤ 1
unfolding mark_most
mark_most_lem zero = omega arith
mark_most_lem (suc zero) = omega arith
mark_most_lem (suc (suc zero)) = omega arith
mark_most_lem (suc (suc (suc zero))) = omega arith
mark_most_lem (suc (suc (suc (suc zero)))) = omega arith
mark_most_lem (suc (suc (suc (suc (suc zero))))) = omega arith
mark_most_lem (suc (suc (suc (suc (suc (suc zero)))))) = omega arith
mark_most_lem (suc (suc (suc (suc (suc (suc (suc zero))))))) = omega arith
mark_most_lem (suc (suc (suc (suc (suc (suc (suc (suc k)))))))) = omega arith

pub text_most_lem : (k : ℕ) → text_most k ≤ 200
unfolding text_most
text_most_lem zero = omega arith
text_most_lem (suc zero) = omega arith
text_most_lem (suc (suc zero)) = omega arith
text_most_lem (suc (suc (suc zero))) = omega arith
text_most_lem (suc (suc (suc (suc zero)))) = omega arith
text_most_lem (suc (suc (suc (suc (suc zero))))) = omega arith
text_most_lem (suc (suc (suc (suc (suc (suc zero)))))) = omega arith
text_most_lem (suc (suc (suc (suc (suc (suc (suc zero))))))) = omega arith
text_most_lem (suc (suc (suc (suc (suc (suc (suc (suc k)))))))) = omega arith

-- four tests and more
pub both5 : (a b c d e : Bool) → a && b && c && d && e ≡ true → (a ≡ true) × (b ≡ true) × (c ≡ true) × (d ≡ true) × (e ≡ true)
both5 a b c d e h =
    let p = both (a && b && c && d) e h in
    let q = both (a && b && c) d p.0 in
    let r = both (a && b) c q.0 in
    let s = both a b r.0 in
    (s.0, s.1, r.1, q.1, p.1)

-- what the rules of a record by itself say
pub record Own (clock next : ℕ) (r : Rec) : Type 0 where
  pub kind : r.kind ≤ 7
  pub mark : r.mark ≤ mark_most r.kind
  pub shallow : depth_least r.kind ≤ r.depth
  pub deep : r.depth ≤ depth_most r.kind
  pub text : length r.text ≤ text_most r.kind
  pub some : text_least r.kind ≤ length r.text
  pub since : r.since ≤ clock
  pub life : (if (eqb r.kind a_free) (eqb r.serial 0 && eqb r.expiry 0) (serial_right next r.serial && expiry_right clock r)) ≡ true

since_most : (z : Bool) (c m : ℕ) → if z (leb m c) (eqb m 0) ≡ true → m ≤ c
since_most true c m h = leb-true m c h
since_most false c m h = omega (arith, eqb-true m 0 h)

pub own : (c n : ℕ) (r : Rec) → own_right c n r ≡ true → Own c n r
unfolding own_right fields_right since_right text_right
own c n r h =
    let life : Bool = if (eqb r.kind a_free) (eqb r.serial 0 && eqb r.expiry 0) (serial_right n r.serial && expiry_right c r) in
    let whole = both (fields_right r && since_right c r) life h in
    let fields = both (fields_right r) (since_right c r) whole.0 in
    let iou = both (leb r.kind 7 && leb r.mark (mark_most r.kind) && within (depth_least r.kind) (depth_most r.kind) r.depth && all_within 0 0 (drop (secret_length r.kind) r.secret) && text_right r) (if (eqb r.kind a_waiting) true (all_within 0 0 r.iou)) fields.0 in
    let f = both5 (leb r.kind 7) (leb r.mark (mark_most r.kind)) (within (depth_least r.kind) (depth_most r.kind) r.depth) (all_within 0 0 (drop (secret_length r.kind) r.secret)) (text_right r) iou.0 in
    let d = both (leb (depth_least r.kind) r.depth) (leb r.depth (depth_most r.kind)) f.2 in
    let t = both (within (text_least r.kind) (text_most r.kind) (length r.text)) (letters_right r.kind r.text) f.4 in
    let w = both (leb (text_least r.kind) (length r.text)) (leb (length r.text) (text_most r.kind)) t.0 in
    record {
      kind = leb-true r.kind 7 f.0;
      mark = leb-true r.mark (mark_most r.kind) f.1;
      shallow = leb-true (depth_least r.kind) r.depth d.0;
      deep = leb-true r.depth (depth_most r.kind) d.1;
      text = leb-true (length r.text) (text_most r.kind) w.1;
      some = leb-true (text_least r.kind) (length r.text) w.0;
      since = since_most (eqb r.kind a_session) c r.since fields.1;
      life = whole.1;
    }

pub own_text : (c n : ℕ) (r : Rec) → own_right c n r ≡ true → length r.text ≤ 200
own_text c n r h = omega (arith, (own c n r h).text, text_most_lem r.kind)

-- every record of a lawful table keeps its rules
abbrev pub rec_right : ℕ → ℕ → List Rec → Rec → Bool
rec_right c n slots r = own_right c n r && session_right slots r && parent_right slots r

pub right_cons : (c n : ℕ) (slots : List Rec) (r : Rec) (rs : List Rec) → all_right c n slots (r ∷ rs) ≡ true → (rec_right c n slots r ≡ true) × (all_right c n slots rs ≡ true)
unfolding all_right
right_cons c n slots r rs e = both (rec_right c n slots r) (all_right c n slots rs) e

pub right_own : (c n : ℕ) (slots : List Rec) (r : Rec) → rec_right c n slots r ≡ true → own_right c n r ≡ true
right_own c n slots r e = (both (own_right c n r) (session_right slots r) (both (own_right c n r && session_right slots r) (parent_right slots r) e).0).0

-- one step of a walk along a text
pub drop-step : (s : List ℕ) (i : ℕ) → i < length s → drop i s ≡ get_or s i 0 ∷ drop (i + 1) s
drop-step s i h = rw (add-one, drop-cons s i 0)

-- a block's parts have their lengths
pub part-long : (at n : ℕ) (b : List ℕ) → at + n ≤ length b → length (part at n b) ≡ n
part-long at n b h = length-take-le n (drop at b) (omega (arith, length-drop at b))

pub sized_read : (c n : ℕ) (b : List ℕ) → length b ≡ 512 → own_right c n (decode_rec b) ≡ true → Sized (decode_rec b)
unfolding decode_rec
sized_read c n b h e = record { secret = part-long 24 16 b (omega arith); text = own_text c n (decode_rec b) e; iou = part-long 256 16 b (omega arith) }

-- m blocks that are those of their records, under the rules, have records that fit
pub blocks_fit : (c n : ℕ) (slots : List Rec) (m : ℕ) (b : List ℕ) → length b ≡ 512 * m → b ≡ joined (map encode_rec (map decode_rec (blocks m 512 b)))
    → all_right c n slots (map decode_rec (blocks m 512 b)) ≡ true → AllFit (map decode_rec (blocks m 512 b))
unfolding AllFit joined blocks
blocks_fit c n slots zero b h e q = tt
blocks_fit c n slots (suc m) b h e q =
    let x : List ℕ = take 512 b in
    let y : List ℕ = drop 512 b in
    let lx : length x ≡ 512 = length-take-le 512 b (omega arith) in
    let ly : length y ≡ 512 * m = omega (arith, length-drop 512 b) in
    let p = right_cons c n slots (decode_rec x) (map decode_rec (blocks m 512 y)) q in
    let z : Sized (decode_rec x) = sized_read c n x lx (right_own c n slots (decode_rec x) p.0) in
    let l : length (encode_rec (decode_rec x)) ≡ 512 = length_rec (decode_rec x) z in
    let ex : x ≡ encode_rec (decode_rec x) = ap (λ (s : List ℕ). take 512 s) e ∙ take_at (encode_rec (decode_rec x)) _ 512 l in
    let ey : y ≡ joined (map encode_rec (map decode_rec (blocks m 512 y))) = ap (λ (s : List ℕ). drop 512 s) e ∙ drop_at (encode_rec (decode_rec x)) _ 512 l in
    (fits_read (decode_rec x) x refl ex z, blocks_fit c n slots m y ly ey p.1)

-- what the rules say of a whole table
pub record Rules (t : Table) : Type 0 where
  pub clock : t.clock ≤ last_time
  pub records : all_right t.clock t.next t.slots t.slots ≡ true
  pub serials : serials_differ t.slots ≡ true
  pub logins : count_kind a_login t.slots ≤ login_cap

pub rules : (t : Table) → rules_hold t ≡ true → Rules t
unfolding rules_hold
rules t e =
    let a = leb t.clock last_time in
    let b = all_right t.clock t.next t.slots t.slots in
    let c = serials_differ t.slots in
    let d = leb (count_kind a_login t.slots) login_cap in
    let p = both (a && b && c) d e in
    let q = both (a && b) c p.0 in
    let r = both a b q.0 in
    record {
      clock = leb-true t.clock last_time r.0;
      records = r.1;
      serials = q.1;
      logins = leb-true (count_kind a_login t.slots) login_cap p.1;
    }

pub rules_hold_lem : (t : Table) → Rules t → rules_hold t ≡ true
unfolding rules_hold
rules_hold_lem t r = rw (le-leb t.clock last_time r.clock, r.records, r.serials, le-leb (count_kind a_login t.slots) login_cap r.logins)

-- a lawful table of whole blocks has records that fit
pub lawful_fits : (b : List ℕ) → length b ≡ 512 * (length b / 512 - 1) + 512 → table_lawful b ≡ true → AllFit (decode_table b).slots
unfolding decode_table
lawful_fits b h e =
    let m : ℕ = length b / 512 - 1 in
    let d : List ℕ = drop 512 b in
    let ld : length d ≡ 512 * m = omega (arith, length-drop 512 b) in
    let eq : d ≡ joined (map encode_rec (decode_table b).slots) = ap (λ (s : List ℕ). drop 512 s) (lawful_bytes b e) ∙ after_head (decode_table b) in
    blocks_fit (decode_table b).clock (decode_table b).next (decode_table b).slots m d ld eq (rules (decode_table b) (lawful_rules b e)).records

pub lawful_clock : (b : List ℕ) → table_lawful b ≡ true → (decode_table b).clock ≤ 2 ^ 40
lawful_clock b e = (rules (decode_table b) (lawful_rules b e)).clock

next_read : (t : Table) → num 16 4 (encode_table t) ≡ le_of (bytes_of 4 t.next)
unfolding encode_table sealed head_body bytes_of
next_read t = refl

pub lawful_next : (b : List ℕ) → table_lawful b ≡ true → (decode_table b).next < 4294967296
unfolding decode_table
lawful_next b e =
    let q : num 16 4 b ≡ le_of (bytes_of 4 (decode_table b).next) = ap (λ (s : List ℕ). num 16 4 s) (lawful_bytes b e) ∙ next_read (decode_table b) in
    omega (arith, le_below 4 (decode_table b).next)
