-- Damage is refused: a lawful table, or a lawful register, with one byte changed to another is lawful no more, and each call that reads it
-- says so by its number. Assumes nothing.
use mathlib.Core.Path.{◌≡◌, refl, sym, ap, ◌∙◌}
use mathlib.Core.Bool.{Bool, true, false}
use mathlib.Core.List.{List, [], ◌∷◌, map}
use Prim.Native.Nat.{ℕ, zero, suc, ◌+◌, ◌*◌, ◌/◌, ◌%◌, ◌<◌, ◌≤◌}
use native.Mathlib.Nat.{mod-lt}
use native.Mathlib.Omega.{arith}
use borrow.Author.Tests.{eqb-true, leb-true}
use lib.Dec.{eqb, leb, lit<}
use lib.ListN.{length, take, drop, set, get_or, length-set, length-drop}
use lib.Seq.{take-set-lt, drop-set-add, drop-append-add, take_at, get_or-take, get_or-drop, length-take-le}
use Rattle.protocol.specs.Bytes.{within, part, bytes_of, joined}
use Rattle.protocol.specs.Blocks.{check_right}
use Rattle.protocol.specs.Records.{Rec, free_rec, rec_body, encode_rec}
use Rattle.protocol.specs.Table.{head_body, decode_table, table_shape, table_lawful}
use Rattle.protocol.specs.Register.{Entry, encode_entry, decode_register, register_lawful}
use Rattle.protocol.specs.Calls.{answer_refusal, finish_refusal, housekeep_refusal, check_of}
use Rattle.protocol.specs.Visits.{visit_refusal}
use Rattle.protocol.proofs.Laws.{both, lawful_bytes, lawful_fits, length_body}
use Rattle.protocol.proofs.Places.{head_bytes, slot_bytes, slots_count}
use Rattle.protocol.proofs.Panels.{AllShort, length-entry, entry_checked, length-entries, lawful_register, lawful_short}
use Rattle.protocol.proofs.Sound.{fit_at}
use Rattle.protocol.proofs.Notice.{noticed, sealed_right}
use Rattle.protocol.proofs.Lasting.{check_passed}

-- one byte of b is another in c
pub record Damaged (b c : List ℕ) : Type 0 where
  pub place : ℕ
  pub value : ℕ
  pub inside : place < length b
  pub was : get_or b place 0 < 256
  pub byte : value < 256
  pub other : value ≡ get_or b place 0 → ⊥
  pub is : c ≡ set b place value

-- whole blocks, and the check of each is right
record Checked (b : List ℕ) : Type 0 where
  whole : length b ≡ 512 * (length b / 512)
  right : (k : ℕ) → 512 * k + 512 ≤ length b → check_right (part (512 * k) 512 b) ≡ true

-- one changed byte leaves a block whose check is wrong
module _ (b : List ℕ) (k j v : ℕ) (l : 512 * k + 512 ≤ length b) (m : j < 512) where
  in_block : part (512 * k) 512 (set b (512 * k + j) v) ≡ set (part (512 * k) 512 b) j v
  in_block = ap (λ (y : List ℕ). take 512 y) (drop-set-add (512 * k) b j v) ∙ take-set-lt 512 (drop (512 * k) b) j v m

  wrong_block : check_right (part (512 * k) 512 b) ≡ true → get_or b (512 * k + j) 0 < 256 → v < 256 → (v ≡ get_or b (512 * k + j) 0 → ⊥) → check_right (part (512 * k) 512 (set b (512 * k + j) v)) ≡ false
  wrong_block e p q d =
      let g : get_or (part (512 * k) 512 b) j 0 ≡ get_or b (512 * k + j) 0 = get_or-take 512 (drop (512 * k) b) j 0 m ∙ get_or-drop (512 * k) b j 0 in
      let c : length (part (512 * k) 512 b) ≡ 512 = length-take-le 512 (drop (512 * k) b) (omega (arith, length-drop (512 * k) b)) in
      ap check_right in_block ∙ noticed (part (512 * k) 512 b) j v c (λ y. d (y ∙ g)) e m (rw g p) q

-- so checks that are right before and after it would contradict each other
clash : (b c : List ℕ) → Damaged b c → Checked b → Checked c → true ≡ false
clash b c d x y =
    let i : ℕ = d.place in
    let k : ℕ = i / 512 in
    let at : 512 * k + i % 512 ≡ i = omega arith in
    let n : length c ≡ length b = ap length d.is ∙ length-set b i d.value in
    let l : 512 * k + 512 ≤ length b = omega (arith, x.whole, d.inside) in
    let wrong : check_right (part (512 * k) 512 (set b (512 * k + i % 512) d.value)) ≡ false =
    wrong_block b k (i % 512) d.value l (mod-lt i (lit< tt)) (x.right k l) (rw at d.was) d.byte (rw at d.other) in
    let same_block : part (512 * k) 512 c ≡ part (512 * k) 512 (set b (512 * k + i % 512) d.value) =
    ap (λ (s : List ℕ). part (512 * k) 512 s) (d.is ∙ rw at) in
    sym (y.right k (omega arith)) ∙ (ap check_right same_block ∙ wrong)

-- a lawful table's checks are right
module _ (b : List ℕ) (h : table_shape (length b) ≡ true) (e : table_lawful b ≡ true) where
  table_whole : (length b ≡ 512 * (length b / 512)) × (9 ≤ length b / 512)
  table_whole =
      let p = both (eqb (length b % 512) 0) (within 9 128 (length b / 512)) h in
      let z : length b % 512 ≡ 0 = eqb-true (length b % 512) 0 p.0 in
      (omega arith, leb-true 9 (length b / 512) (both (leb 9 (length b / 512)) (leb (length b / 512) 128) p.1).0)

  table_block : (k : ℕ) → 512 * k + 512 ≤ length b → check_right (part (512 * k) 512 b) ≡ true
  unfolding encode_rec head_body bytes_of
  table_block zero l =
      let f = lawful_fits b (omega (arith, table_whole.0, table_whole.1)) e in
      let head : List ℕ = head_body (length (decode_table b).slots) (decode_table b).clock (decode_table b).next in
      ap check_right (ap (λ (s : List ℕ). part 0 512 s) (lawful_bytes b e) ∙ head_bytes (decode_table b) f) ∙ sealed_right head refl
  table_block (suc k) l =
      let f = lawful_fits b (omega (arith, table_whole.0, table_whole.1)) e in
      let r : Rec = get_or (decode_table b).slots k free_rec in
      let q : part (512 * suc k) 512 b ≡ encode_rec r =
      ap (λ (s : List ℕ). part (512 * suc k) 512 s) (lawful_bytes b e) ∙ slot_bytes (decode_table b) f k (omega (arith, slots_count b)) in
      ap check_right q ∙ sealed_right (rec_body r) (length_body r (fit_at (decode_table b).slots k f).sized)

  table_checked : Checked b
  table_checked = record { whole = table_whole.0; right = table_block }

-- and so are a lawful register's
entries_right : (es : List Entry) → AllShort es → (k : ℕ) → k < length es → check_right (part (512 * k) 512 (joined (map encode_entry es))) ≡ true
unfolding AllShort joined
entries_right [] h k l = absurd (omega arith)
entries_right (e ∷ es) h zero l =
    ap check_right (take_at (encode_entry e) (joined (map encode_entry es)) 512 (length-entry e h.0)) ∙ entry_checked e h.0
entries_right (e ∷ es) h (suc k) l =
    let q : 512 * suc k ≡ length (encode_entry e) + 512 * k = omega (arith, length-entry e h.0) in
    rw (q, drop-append-add (encode_entry e) (joined (map encode_entry es)) (512 * k)) (entries_right es h.1 k (omega arith))

register_checked : (b : List ℕ) → register_lawful b ≡ true → Checked b
register_checked b e =
    let r = lawful_register b e in
    let s = lawful_short b e in
    let n : length b ≡ 512 * length (decode_register b) = ap length r.bytes ∙ length-entries (decode_register b) s in
    record {
      whole = omega arith;
      right = λ k l. ap (λ (x : List ℕ). check_right (part (512 * k) 512 x)) r.bytes ∙ entries_right (decode_register b) s k (omega arith);
    }

-- a damaged table, and a damaged register, is lawful no more
pub table_damaged : (b c : List ℕ) → table_shape (length b) ≡ true → table_lawful b ≡ true → Damaged b c → (table_shape (length c) ≡ true) × (table_lawful c ≡ false)
table_damaged b c h e d = (shape, go (table_lawful c) refl)
  where
    shape : table_shape (length c) ≡ true
    shape = rw (ap length d.is ∙ length-set b d.place d.value) h

    go : (x : Bool) → table_lawful c ≡ x → x ≡ false
    go false q = refl
    go true q = clash b c d (table_checked b h e) (table_checked c shape q)

pub register_damaged : (b c : List ℕ) → register_lawful b ≡ true → Damaged b c → register_lawful c ≡ false
register_damaged b c e d = go (register_lawful c) refl
  where
    go : (x : Bool) → register_lawful c ≡ x → x ≡ false
    go false q = refl
    go true q = clash b c d (register_checked b e) (register_checked c q)

-- of the calls: a table that check takes, damaged, is refused with 2 by each call that reads one
module _ (b c : List ℕ) (e : check_of b ≡ 0) (d : Damaged b c) where
  told : (table_shape (length c) ≡ true) × (table_lawful c ≡ false)
  told = table_damaged b c (check_passed b e).0 (check_passed b e).1 d

  pub check_damaged : check_of c ≡ 2
  unfolding check_of
  check_damaged = rw (told.0, told.1)

  pub answer_damaged : (register : List ℕ) (target body time random out cookie : ℕ) → answer_refusal c register target body time random out cookie ≡ 2
  unfolding answer_refusal
  answer_damaged register target body time random out cookie = rw (told.0, told.1)

  pub finish_damaged : (time out : ℕ) → finish_refusal c time out ≡ 2
  unfolding finish_refusal
  finish_damaged time out = rw (told.0, told.1)

  pub housekeep_damaged : (time : ℕ) → housekeep_refusal c time ≡ 2
  unfolding housekeep_refusal
  housekeep_damaged time = rw (told.0, told.1)

  pub visit_damaged : (cookie : List ℕ) (number time random out : ℕ) → visit_refusal c cookie number time random out ≡ 2
  unfolding visit_refusal
  visit_damaged cookie number time random out = rw (told.0, told.1)

-- and a lawful register, damaged, with 3 by answer, over a table that check takes
pub panels_damaged : (table b c : List ℕ) → check_of table ≡ 0 → register_lawful b ≡ true → Damaged b c
    → (target body time random out cookie : ℕ) → answer_refusal table c target body time random out cookie ≡ 3
unfolding answer_refusal
panels_damaged table b c e r d target body time random out cookie = rw ((check_passed table e).0, (check_passed table e).1, register_damaged b c r d)
