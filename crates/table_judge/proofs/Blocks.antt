-- A slot passes exactly where its block is its record's, that record keeps the rules, and no later one has its serial; a free slot
-- passes exactly where its block is the free record's. Assumes nothing.
use borrow.Author.Tests.{eqb-true}
use lib.Dec.{eqb}
use mathlib.Core.Path.{◌≡◌, sym, ap, ◌∙◌}
use mathlib.Core.Bool.{Bool, true, ◌&&◌}
use mathlib.Core.List.{List}
use Prim.Native.Nat.{ℕ, ◌*◌}
use lib.ListN.{length, take}
use Rattle.protocol.specs.Bytes.{same}
use Rattle.protocol.specs.Blocks.{check_right}
use Rattle.protocol.specs.Records.{Rec, free_rec, rec_body, encode_rec, decode_rec, own_right}
use Rattle.protocol.specs.Table.{decode_table, session_right, parent_right}
use Rattle.protocol.specs.Held.{Sized, In, said_at}
use Rattle.protocol.proofs.Laws.{both, both5, one_test, same-eq, same_refl, rec_right, right_own, sized_read, length_body, part-long, rec_back}
use Rattle.protocol.proofs.Held.{slot_of}
use Rattle.protocol.proofs.Kept.{free_right}
use Rattle.protocol.proofs.Sound.{free_fits}
use Rattle.block.proofs.Bytewise.{Bytes, part_bytes, sealed_test}
use Rattle.table.specs.Parts.{Block}
use Rattle.table.proofs.Free.{free_zero}
use Rattle.table_judge.specs.Tests.{block_at, alone_at, slot_right}
use Rattle.table_judge.proofs.Slots.{alone_zero}

module _ (clock next : ℕ) (b : List ℕ) (k : ℕ) (i : In k b) (y : Bytes b) where
  abbrev slots : List Rec
  slots = (decode_table b).slots

  abbrev r : Rec
  r = said_at k b

  said : r ≡ decode_rec (block_at k b)
  said = slot_of b k i

  long : length (block_at k b) ≡ 512
  long = part-long (512 * k) 512 b i.high

  sized : own_right clock next r ≡ true → Sized r
  sized e = rw said (sized_read clock next (block_at k b) long (rw said at e))

  -- the bytes' tests are the block's
  block_test : Sized r → same (take 508 (block_at k b)) (rec_body r) && check_right (block_at k b) ≡ same (block_at k b) (encode_rec r)
  unfolding encode_rec
  block_test z = sealed_test (block_at k b) (rec_body r) long (part_bytes b y.each (512 * k) 512 i.high) (length_body r z)

  pub record Told : Type 0 where
    pub rule : rec_right clock next slots r ≡ true
    pub block : block_at k b ≡ encode_rec r
    pub lone : alone_at k b ≡ true

  pub told : slot_right clock next b k ≡ true → Told
  unfolding slot_right
  told e =
      let t = both5 (own_right clock next r && same (take 508 (block_at k b)) (rec_body r)) (session_right slots r) (parent_right slots r) (check_right (block_at k b)) (alone_at k b) e in
      let o = both (own_right clock next r) (same (take 508 (block_at k b)) (rec_body r)) t.0 in
      record {
        rule = rw (o.0, t.1, t.2);
        block = same-eq (block_at k b) (encode_rec r) (sym (block_test (sized o.0)) ∙ rw (o.1, t.3));
        lone = t.4;
      }

  pub made : Told → slot_right clock next b k ≡ true
  unfolding slot_right
  made t =
      let p = both (own_right clock next r && session_right slots r) (parent_right slots r) t.rule in
      let q = both (own_right clock next r) (session_right slots r) p.0 in
      let s : same (block_at k b) (encode_rec r) ≡ true = rw t.block (same_refl (encode_rec r)) in
      let w = both (same (take 508 (block_at k b)) (rec_body r)) (check_right (block_at k b)) (block_test (sized q.0) ∙ s) in
      rw (q.0, w.0, q.1, p.1, w.1, t.lone)

  -- a free slot
  module _ (free : (said_at k b).kind ≡ 0) where
    free_told : slot_right clock next b k ≡ true → same (block_at k b) (encode_rec free_rec) ≡ true
    free_told e =
        let t = told e in
        let f : r ≡ free_rec = free_zero clock next slots r t.rule (sized (right_own clock next slots r t.rule)) free in
        rw (t.block, f) (same_refl (encode_rec free_rec))

    free_made : same (block_at k b) (encode_rec free_rec) ≡ true → slot_right clock next b k ≡ true
    free_made e =
        let q : block_at k b ≡ encode_rec free_rec = same-eq (block_at k b) (encode_rec free_rec) e in
        let f : r ≡ free_rec = said ∙ ap decode_rec q ∙ rec_back free_rec free_fits in
        made (record { rule = rw f (free_right clock next slots); block = q ∙ ap encode_rec (sym f); lone = alone_zero b k free })

  pub free_slot : {bl : List ℕ} {t x : Bool} → x ≡ eqb (said_at k b).kind 0 → x ≡ true → Block k b bl → t ≡ same bl (encode_rec free_rec) → t ≡ slot_right clock next b k
  free_slot e z at f =
      let free : (said_at k b).kind ≡ 0 = eqb-true (said_at k b).kind 0 (sym e ∙ z) in
      f ∙ rw at.is (one_test (same (block_at k b) (encode_rec free_rec)) (slot_right clock next b k) (free_made free) (free_told free))
