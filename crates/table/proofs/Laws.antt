-- The leaves' laws, in the form in which the code knows its facts. Assumes nothing.
use mathlib.Core.Path.{◌≡◌, refl, sym, ap, ◌∙◌}
use mathlib.Core.Bool.{Bool, true, false, cond}
use mathlib.Core.List.{List, [], ◌∷◌, ◌++◌, append_assoc}
use Prim.Native.Nat.{ℕ, zero, suc, ◌+◌, ◌-◌, ◌*◌, ◌/◌, ◌≤◌, ◌<◌}
use native.Mathlib.Omega.{arith}
use native.Mathlib.Numerals.{add-one}
use lib.Dec.{eqb, lit≤}
use lib.ListN.{length, take, drop, get_or, length-append, length-take, length-drop, length-replicate, drop_of_length-le, get_or-eq_default}
use lib.Seq.{drop-cons, drop-drop, take_at, drop_at, length-take-le}
use Rattle.std.specs.List.{filter, range_with_len}
use Rattle.std.specs.Prelude.{Option, Some, MatchOption}
use Rattle.std.specs.Array.{IsFirstChunk}
use Rattle.std.specs.Borrow.{MutBor}
use Rattle.protocol.specs.Bytes.{if, part, num, bytes_of, zeros, pad_to, spliced}
use Rattle.protocol.specs.Blocks.{house_check, sealed}
use Rattle.protocol.specs.Records.{Rec, free_rec, rec_body, encode_rec, decode_rec}
use Rattle.protocol.specs.Table.{table_of, head_body, decode_table, rec_at, count_kind, last_time}
use Rattle.protocol.specs.Steps.{put, remove, turned}
use Rattle.protocol.specs.Held.{Sized, Fits, Fine, Holds, In, said_at}
use Rattle.protocol.proofs.Laws.{length_pad, pad_full, length_bytes, length_body, length_rec, length_head}
use Rattle.protocol.proofs.Places.{slots_count}
use Rattle.protocol.proofs.Sound.{free_fits}
use Rattle.block.proofs.Lay.{laid_first, laid_next, front}
use Rattle.protocol.proofs.Held.{slot_of, block_of, fits_of, laid_rec, laid_head}
use Rattle.ticket.specs.Kinds.{number, kind_of}
use Rattle.ticket.specs.declared.Kind.TheVariants.{Free}
use Rattle.table.specs.declared.Fields.{Fields}
use Rattle.table.specs.declared.record.Record.{Record}
use Rattle.table.specs.Parts.{Block, fields_of, rec_of, numbers_of, texts_of, turned_bytes}
use Rattle.table.proofs.Free.{free_bytes}

-- Reading

pub block_said : (t b : List ℕ) (k : ℕ) → In k t → b ≡ part (512 * k) 512 t → Block k t b
unfolding decode_rec
block_said t b k i e =
    let s : decode_rec (part (512 * k) 512 t) ≡ said_at k t = sym (slot_of t k i) in
    rw e (record {
      is = refl;
      size = length-take-le 512 (drop (512 * k) t) (omega (arith, length-drop (512 * k) t, i.high));
      says = s;
      kind = ap (λ (r : Rec). r.kind) s;
      mark = ap (λ (r : Rec). r.mark) s;
      parent = ap (λ (r : Rec). r.parent) s;
      session = ap (λ (r : Rec). r.session) s;
      depth = ap (λ (r : Rec). r.depth) s;
      serial = ap (λ (r : Rec). r.serial) s;
      expiry = ap (λ (r : Rec). r.expiry) s;
      secret = ap (λ (r : Rec). r.secret) s;
      text = ap (λ (r : Rec). r.text) s;
      iou = ap (λ (r : Rec). r.iou) s;
      since = ap (λ (r : Rec). r.since) s;
    })

-- the text of a fine table's record
module _ (t : List ℕ) (k : ℕ) {b : List ℕ} (at : Block k t b) where
  text_short : {n : ℕ} → Fine t → n ≡ num 40 2 b → n ≤ 200
  text_short f e =
      let h : length (part 44 (num 40 2 b) b) ≤ 200 = rw at.text (fits_of t k f).sized.text in
      omega (arith, at.size, length-take (num 40 2 b) (drop 44 b), length-drop 44 b)

  pub text_adds : {n : ℕ} → Fine t → n ≡ num 40 2 b → 44 + n < 18446744073709551616
  text_adds f e = omega (arith, text_short f e)

  pub text_ends : {n : ℕ} → Fine t → n ≡ num 40 2 b → 44 + n ≤ 512
  text_ends f e = omega (arith, text_short f e)

-- the numbers of a block, or a free record's, all 0, where there is no such slot
pub all_zero : (f : Fields) → f.kind ≡ Free → f.mark ≡ 0 → f.parent ≡ 0 → f.session ≡ 0 → f.depth ≡ 0 → f.serial ≡ 0 → f.expiry ≡ 0 → f.since ≡ 0 → f ≡ fields_of free_rec
unfolding kind_of
all_zero f a b c d e g h i =
    let z : record { kind = f.kind; mark = f.mark; parent = f.parent; session = f.session; depth = f.depth; serial = f.serial; expiry = f.expiry; since = f.since } ≡ fields_of free_rec = rw (a, b, c, d, e, g, h, i) in
    z

pub fields_none : (t : List ℕ) (k : ℕ) {f : Fields} → f ≡ fields_of free_rec → k ≡ 0 → f ≡ fields_of (said_at k t)
fields_none t k e z = rw (e, z)

pub fields_beyond : (t : List ℕ) (k : ℕ) {f : Fields} → f ≡ fields_of free_rec → (k ≡ 0 → ⊥) → length t / 512 ≤ k → f ≡ fields_of (said_at k t)
fields_beyond t zero e z g = absurd (z refl)
fields_beyond t (suc k) e z g = e ∙ ap fields_of (sym (get_or-eq_default (decode_table t).slots free_rec {n = k} (omega (arith, slots_count t))))

pub slot_there : (t : List ℕ) (k : ℕ) → (k ≡ 0 → ⊥) → k < length t / 512 → In k t
slot_there t zero z g = absurd (z refl)
slot_there t (suc k) z g = record { low = omega arith; high = omega arith }

pub fields_said : (t : List ℕ) (k : ℕ) {b : List ℕ} {f : Fields} → Block k t b → f ≡ fields_of (decode_rec b) → f ≡ fields_of (said_at k t)
fields_said t k at e = e ∙ ap fields_of at.says

-- the record of a slot, by its place among the slots
pub at_slot : (slots : List Rec) (k : ℕ) → 1 ≤ k → rec_at k slots ≡ get_or slots (k - 1) free_rec
at_slot slots zero h = absurd (omega arith)
at_slot slots (suc k) h = let e : suc k - 1 ≡ k = omega arith in rw e

-- the slots from k on begin with the record of k
pub slots_from : (slots : List Rec) (k : ℕ) → 1 ≤ k → k ≤ length slots → drop (k - 1) slots ≡ rec_at k slots ∷ drop (k + 1 - 1) slots
slots_from slots k l h =
    let d : k + 1 - 1 ≡ suc (k - 1) = omega arith in
    rw (at_slot slots k l, d) (drop-cons slots (k - 1) free_rec (omega arith))

-- Counting

-- the slots behind the first k that pass a test of their kind
behind : (kind : ℕ) (slots : List Rec) (k n : ℕ) → k + n ≡ length slots → length (filter (λ i. eqb (rec_at i slots).kind kind) (range_with_len (k + 1) n)) ≡ count_kind kind (drop k slots)
unfolding count_kind
behind kind slots k zero h = rw (drop_of_length-le slots {i = k} (omega arith))
behind kind slots k (suc n) h =
    let r : Rec = get_or slots k free_rec in
    let d : drop k slots ≡ r ∷ drop (suc k) slots = drop-cons slots k free_rec (omega arith) in
    let e : length (filter (λ i. eqb (rec_at i slots).kind kind) (range_with_len (suc k + 1) n)) ≡ count_kind kind (drop (suc k) slots) = behind kind slots (suc k) n (omega arith) in
    let s : k + 1 ≡ suc k = add-one k in
    rw (d, s) (one (eqb r.kind kind) (range_with_len (suc k + 1) n) (suc k) (λ i. eqb (rec_at i slots).kind kind) e)
  where
    one : (q : Bool) (xs : List ℕ) (x : ℕ) (p : ℕ → Bool) {m : ℕ} → length (filter p xs) ≡ m → length (cond q (x ∷ filter p xs) (filter p xs)) ≡ if q 1 0 + m
    one true xs x p e = omega arith
    one false xs x p e = omega arith

pub slots_counted : (b : List ℕ) (kind : ℕ) → 512 ≤ length b → length (filter (λ k. eqb (said_at k b).kind kind) (range_with_len 1 (length b / 512 - 1))) ≡ count_kind kind (decode_table b).slots
slots_counted b kind h = behind kind (decode_table b).slots 0 (length b / 512 - 1) (omega (arith, slots_count b))

-- Filling a block

pub numbers_filled : (f : Fields) (s : List ℕ) {k : ℕ} {l1 l2 l3 l4 l5 l6 l7 l8 l9 : List ℕ} → length s ≡ 512
    → l9 ≡ spliced l8 16 (bytes_of 8 f.expiry)
    → l8 ≡ spliced l7 12 (zeros 4)
    → l7 ≡ spliced l6 8 (bytes_of 4 f.serial)
    → l6 ≡ spliced l5 7 (zeros 1)
    → l5 ≡ spliced l4 6 (f.depth ∷ [])
    → l4 ≡ spliced l3 4 (bytes_of 2 f.session)
    → l3 ≡ spliced l2 2 (bytes_of 2 f.parent)
    → l2 ≡ spliced l1 1 (f.mark ∷ [])
    → l1 ≡ spliced s 0 (k ∷ [])
    → k ≡ number f.kind
    → l9 ≡ spliced s 0 (numbers_of f)
unfolding numbers_of bytes_of
numbers_filled f s g e9 e8 e7 e6 e5 e4 e3 e2 e1 e =
    let p1 = laid_first s 512 0 (number f.kind ∷ []) 1 g refl (rw e at e1) in
    let p2 = laid_next p1 (f.mark ∷ []) 1 refl (lit≤ tt) e2 in
    let p3 = laid_next p2 (bytes_of 2 f.parent) 2 refl (lit≤ tt) e3 in
    let p4 = laid_next p3 (bytes_of 2 f.session) 2 refl (lit≤ tt) e4 in
    let p5 = laid_next p4 (f.depth ∷ []) 1 refl (lit≤ tt) e5 in
    let p6 = laid_next p5 (zeros 1) 1 refl (lit≤ tt) e6 in
    let p7 = laid_next p6 (bytes_of 4 f.serial) 4 refl (lit≤ tt) e7 in
    let p8 = laid_next p7 (zeros 4) 4 refl (lit≤ tt) e8 in
    let p9 = laid_next p8 (bytes_of 8 f.expiry) 8 refl (lit≤ tt) e9 in
    p9.eq

pub texts_filled : (r : Record) (s : List ℕ) {l1 l2 l3 l4 l5 l6 l7 : List ℕ} → length s ≡ 512
    → l7 ≡ spliced l6 280 (zeros 228)
    → l6 ≡ spliced l5 272 (bytes_of 8 r.fields.since)
    → l5 ≡ spliced l4 256 (pad_to 16 r.iou.now)
    → l4 ≡ spliced l3 44 (pad_to 212 r.text.now)
    → l3 ≡ spliced l2 42 (zeros 2)
    → l2 ≡ spliced l1 40 (bytes_of 2 (length r.text.now))
    → l1 ≡ spliced s 24 (pad_to 16 r.secret.now)
    → l7 ≡ spliced s 24 (texts_of r)
unfolding texts_of
texts_filled r s g e7 e6 e5 e4 e3 e2 e1 =
    let t : length r.text.now ≤ 200 = r.text_fits in
    let p1 = laid_first s 512 24 (pad_to 16 r.secret.now) 16 g (length_pad 16 r.secret.now r.secret_fits) e1 in
    let p2 = laid_next p1 (bytes_of 2 (length r.text.now)) 2 (length_bytes 2 (length r.text.now)) (lit≤ tt) e2 in
    let p3 = laid_next p2 (zeros 2) 2 refl (lit≤ tt) e3 in
    let p4 = laid_next p3 (pad_to 212 r.text.now) 212 (length_pad 212 r.text.now (omega arith)) (lit≤ tt) e4 in
    let p5 = laid_next p4 (pad_to 16 r.iou.now) 16 (length_pad 16 r.iou.now r.iou_fits) (lit≤ tt) e5 in
    let p6 = laid_next p5 (bytes_of 8 r.fields.since) 8 (length_bytes 8 r.fields.since) (lit≤ tt) e6 in
    let p7 = laid_next p6 (zeros 228) 228 refl (lit≤ tt) e7 in
    p7.eq ∙ ap (λ (l : List ℕ). spliced s 24 l) (simp append_assoc)

numbers_long : (f : Fields) → length (numbers_of f) ≡ 24
unfolding numbers_of bytes_of
numbers_long f = refl

texts_long : (r : Record) → length (texts_of r) ≡ 484
unfolding texts_of bytes_of
texts_long r = simp (length-append, length-replicate) (omega (arith, r.secret_fits, r.text_fits, r.iou_fits))

-- a record's block, numbers and texts sealed
body_of : (r : Record) → numbers_of r.fields ++ texts_of r ≡ rec_body (rec_of r)
unfolding rec_body numbers_of texts_of bytes_of
body_of r =
    rw (pad_full 16 (pad_to 16 r.secret.now) (length_pad 16 r.secret.now r.secret_fits), pad_full 16 (pad_to 16 r.iou.now) (length_pad 16 r.iou.now r.iou_fits))

pub record_filled : (r : Record) (s : List ℕ) {l1 l2 l3 : List ℕ} → length s ≡ 512
    → l3 ≡ sealed (take 508 l2) → l2 ≡ spliced l1 24 (texts_of r) → l1 ≡ spliced s 0 (numbers_of r.fields) → l3 ≡ encode_rec (rec_of r)
unfolding encode_rec
record_filled r s g e3 e2 e1 =
    let p1 = laid_first s 512 0 (numbers_of r.fields) 24 g (numbers_long r.fields) e1 in
    let p2 = laid_next p1 (texts_of r) 484 (texts_long r) (lit≤ tt) e2 in
    e3 ∙ ap sealed (front p2 ∙ body_of r)

pub free_filled : (s : List ℕ) {l1 l2 : List ℕ} → length s ≡ 512 → l2 ≡ spliced l1 508 (bytes_of 4 33292289) → l1 ≡ spliced s 0 (zeros 508) → l2 ≡ encode_rec free_rec
unfolding bytes_of spliced
free_filled s g e2 e1 =
    let p1 = laid_first s 512 0 (zeros 508) 508 g refl e1 in
    let p2 = laid_next p1 (bytes_of 4 33292289) 4 refl (lit≤ tt) e2 in
    p2.eq ∙ rw (drop_of_length-le s {i = 512} (omega arith), free_bytes)

pub head_filled : (n c x : ℕ) (s : List ℕ) {l1 l2 l3 l4 l5 l6 l7 : List ℕ} → length s ≡ 512
    → l7 ≡ sealed (take 508 l6)
    → l6 ≡ spliced l5 20 (zeros 488)
    → l5 ≡ spliced l4 16 (bytes_of 4 x)
    → l4 ≡ spliced l3 8 (bytes_of 8 c)
    → l3 ≡ spliced l2 6 (bytes_of 2 1)
    → l2 ≡ spliced l1 4 (bytes_of 2 n)
    → l1 ≡ spliced s 0 (84 ∷ 75 ∷ 84 ∷ 83 ∷ [])
    → l7 ≡ sealed (head_body n c x)
unfolding head_body bytes_of
head_filled n c x s g e7 e6 e5 e4 e3 e2 e1 =
    let p1 = laid_first s 512 0 (84 ∷ 75 ∷ 84 ∷ 83 ∷ []) 4 g refl e1 in
    let p2 = laid_next p1 (bytes_of 2 n) 2 refl (lit≤ tt) e2 in
    let p3 = laid_next p2 (bytes_of 2 1) 2 refl (lit≤ tt) e3 in
    let p4 = laid_next p3 (bytes_of 8 c) 8 refl (lit≤ tt) e4 in
    let p5 = laid_next p4 (bytes_of 4 x) 4 refl (lit≤ tt) e5 in
    let p6 = laid_next p5 (zeros 488) 488 refl (lit≤ tt) e6 in
    e7 ∙ ap sealed (front p6)

-- A block's kind turned

-- its writes in a row
pub turn_wrote : (kind e : ℕ) (s : List ℕ) {k : ℕ} {l1 l2 l3 l4 l5 : List ℕ}
    → k ≡ kind
    → l5 ≡ sealed (take 508 l4)
    → l4 ≡ spliced l3 256 (zeros 16)
    → l3 ≡ spliced l2 16 (bytes_of 8 e)
    → l2 ≡ spliced l1 1 (0 ∷ [])
    → l1 ≡ spliced s 0 (k ∷ [])
    → l5 ≡ sealed (take 508 (turned_bytes kind e s))
turn_wrote kind e s q e5 e4 e3 e2 e1 = rw (e5, e4, e3, e2, e1, q)

-- a text in the middle overwritten by one as long
spliced_mid : (a p y c : List ℕ) (at : ℕ) → length a ≡ at → length p ≡ length y → spliced (a ++ (p ++ c)) at y ≡ a ++ (y ++ c)
unfolding spliced
spliced_mid a p y c at h k =
    let n : length (a ++ p) ≡ at + length y = rw (length-append a p) (omega arith) in
    let d : drop (at + length y) (a ++ (p ++ c)) ≡ c = rw (sym (append_assoc a p c)) (drop_at (a ++ p) c (at + length y) n) in
    rw (d, take_at a (p ++ c) at h)

module _ (r : Rec) (z : Sized r) (kind e : ℕ) where
  -- after its kind, mark and expiry, and after its IOU secret
  abbrev lasting : List ℕ → Rec
  lasting iou = record { kind = kind; mark = 0; parent = r.parent; session = r.session; depth = r.depth; serial = r.serial; expiry = e; secret = r.secret; text = r.text; iou = iou; since = r.since }

  abbrev check : List ℕ
  check = bytes_of 4 (house_check (rec_body r))

  numbers_kept : spliced (spliced (spliced (encode_rec r) 0 (kind ∷ [])) 1 (0 ∷ [])) 16 (bytes_of 8 e) ≡ rec_body (lasting r.iou) ++ check
  unfolding encode_rec sealed rec_body bytes_of spliced
  numbers_kept = refl

  -- bytes 0 to 255
  abbrev first256 : List ℕ
  first256 =
      (kind ∷ 0 ∷ [])
      ++ (bytes_of 2 r.parent
      ++ (bytes_of 2 r.session
      ++ ((r.depth ∷ 0 ∷ [])
      ++ (bytes_of 4 r.serial
      ++ (zeros 4
      ++ (bytes_of 8 e
      ++ (pad_to 16 r.secret
      ++ (bytes_of 2 (length r.text)
      ++ (zeros 2
      ++ pad_to 212 r.text)))))))))

  length256 : length first256 ≡ 256
  unfolding bytes_of
  length256 = simp (length-append, length-replicate) (omega (arith, z.secret, z.text))

  split256 : (iou rest : List ℕ) → rec_body (lasting iou) ++ rest ≡ first256 ++ (pad_to 16 iou ++ ((bytes_of 8 r.since ++ zeros 228) ++ rest))
  unfolding rec_body
  split256 iou rest = simp append_assoc

  iou_cleared : spliced (rec_body (lasting r.iou) ++ check) 256 (zeros 16) ≡ rec_body (lasting (zeros 16)) ++ check
  iou_cleared =
      let n : length (pad_to 16 r.iou) ≡ 16 = length_pad 16 r.iou (omega (arith, z.iou)) in
      ap (λ (l : List ℕ). spliced l 256 (zeros 16)) (split256 r.iou check)
      ∙ spliced_mid first256 (pad_to 16 r.iou) (zeros 16) ((bytes_of 8 r.since ++ zeros 228) ++ check) 256 length256 n
      ∙ sym (split256 (zeros 16) check)

  pub turn_filled : sealed (take 508 (turned_bytes kind e (encode_rec r))) ≡ encode_rec (lasting (zeros 16))
  unfolding encode_rec
  turn_filled =
      let n : length (rec_body (lasting (zeros 16))) ≡ 508 = length_body (lasting (zeros 16)) (record { secret = z.secret; text = z.text; iou = refl }) in
      ap (λ (l : List ℕ). sealed (take 508 l)) (ap (λ (l : List ℕ). spliced l 256 (zeros 16)) numbers_kept ∙ iou_cleared) ∙ ap sealed (take_at (rec_body (lasting (zeros 16))) check 508 n)

-- Lending: a block of the table was lent and came back as another

block_back : (t front rest y b : List ℕ) (at : ℕ) → length b ≡ 512 → front ≡ take at t → rest ≡ drop at t → y ≡ b → front ++ (y ++ drop 512 rest) ≡ spliced t at b
unfolding spliced
block_back t front rest y b at h f g q = rw (f, g, q, h, drop-drop 512 at t)

pub lent_rec : (t front rest y : List ℕ) (k : ℕ) (r : Rec) → Fine t → In k t → Fits r → front ≡ take (512 * k) t → rest ≡ drop (512 * k) t → y ≡ encode_rec r
    → Holds (front ++ (y ++ drop 512 rest)) (put k r (decode_table t))
lent_rec t front rest y k r f i s p q e = laid_rec t _ k r f i s (block_back t front rest y (encode_rec r) (512 * k) (length_rec r s.sized) p q e)

pub lent_free : (t front rest y : List ℕ) (k : ℕ) → front ≡ take (512 * k) t → rest ≡ drop (512 * k) t → y ≡ encode_rec free_rec
    → front ++ (y ++ drop 512 rest) ≡ spliced t (512 * k) (encode_rec free_rec)
lent_free t front rest y k p q e = block_back t front rest y (encode_rec free_rec) (512 * k) (length_rec free_rec free_fits.sized) p q e

pub freed : (t t' : List ℕ) (k : ℕ) → Fine t → In k t → t' ≡ spliced t (512 * k) (encode_rec free_rec) → Holds t' (remove k (decode_table t))
freed t t' k f i e = laid_rec t t' k free_rec f i free_fits e

-- numbers of their types fit a record
pub fields_fit : (r : Record) → r.fields.parent < 65536 → r.fields.session < 65536 → r.fields.serial < 4294967296 → r.fields.expiry < 18446744073709551616
    → r.fields.since < 18446744073709551616 → Fits (rec_of r)
fields_fit r p s n e w =
    let z : Sized (rec_of r) = record { secret = length_pad 16 r.secret.now r.secret_fits; text = r.text_fits; iou = length_pad 16 r.iou.now r.iou_fits } in
    record { parent = p; session = s; serial = n; expiry = e; since = w; sized = z }

pub lent_head : (t y : List ℕ) (n c x : ℕ) → y ≡ sealed (head_body n c x) → y ++ drop 512 t ≡ spliced t 0 (sealed (head_body n c x))
unfolding spliced
lent_head t y n c x e = let l : 0 + length (sealed (head_body n c x)) ≡ 512 = omega (arith, length_head n c x) in rw (l, e)

pub headed : (t t' : List ℕ) (n c x : ℕ) → Fine t → c ≤ last_time → x < 4294967296 → n ≡ length t / 512 - 1 → t' ≡ spliced t 0 (sealed (head_body n c x))
    → Holds t' (table_of c x (decode_table t).slots)
headed t t' n c x f h g m e = laid_head t t' c x f h g (rw (m ∙ sym (slots_count t)) at e)

-- the block that was lent
pub first_lent : (rest : List ℕ) (P : Type 0) {o : Option (MutBor (List ℕ))} {b : MutBor (List ℕ)} → MatchOption o P (λ c. IsFirstChunk rest c.now 512) → o ≡ Some b
    → b.now ≡ take 512 rest
first_lent rest P m e = let c : IsFirstChunk rest _ 512 = rw e at m in c.same

pub lent_turn : (t front rest b y : List ℕ) (kind k v s e : ℕ) → Fine t → In k t → v ≡ (said_at k t).session → s ≡ v → e ≡ (rec_at s (decode_table t).slots).expiry
    → front ≡ take (512 * k) t → rest ≡ drop (512 * k) t → b ≡ take 512 rest → y ≡ sealed (take 508 (turned_bytes kind e b))
    → Holds (front ++ (y ++ drop 512 rest)) (put k (turned kind (said_at k t) (decode_table t).slots) (decode_table t))
unfolding turned
lent_turn t front rest b y kind k v s e f i hv hs he p q hb hy =
    let r : Rec = said_at k t in
    let z = fits_of t k f in
    let w : b ≡ encode_rec r = hb ∙ (ap (take 512) q ∙ block_of t k f i) in
    let j : e ≡ (rec_at r.session (decode_table t).slots).expiry = he ∙ rw (hs, hv) in
    let g : turned kind r (decode_table t).slots ≡ lasting r z.sized kind e (zeros 16) = rw j in
    let fits : Fits (lasting r z.sized kind e (zeros 16)) =
    record { parent = z.parent; session = z.session; serial = z.serial; expiry = omega (arith, he, (fits_of t s f).expiry); since = z.since; sized = record { secret = z.sized.secret; text = z.sized.text; iou = refl } } in
    rw g (lent_rec t front rest y k (lasting r z.sized kind e (zeros 16)) f i fits p q (hy ∙ rw w (turn_filled r z.sized kind e)))
