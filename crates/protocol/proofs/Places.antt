-- Where a record lies in the table's bytes, and what writing its block does to the table. Assumes nothing.
use mathlib.Core.Path.{◌≡◌, refl, sym, ap, ◌∙◌}
use mathlib.Core.Bool.{true}
use mathlib.Core.List.{List, [], ◌∷◌, ◌++◌, append_assoc, map}
use Prim.Native.Nat.{ℕ, zero, suc, ◌+◌, ◌-◌, ◌*◌, ◌/◌, ◌≤◌, ◌<◌}
use native.Mathlib.Omega.{arith}
use lib.ListN.{length, take, drop, get_or, set, length-drop, length-set, length-map, take-append-drop}
use lib.Seq.{take_at, drop_at, take-append-add, drop-append-add, drop-drop}
use Rattle.protocol.specs.Bytes.{part, num, spliced, joined, blocks}
use Rattle.protocol.specs.Blocks.{sealed}
use Rattle.protocol.specs.Records.{Rec, free_rec, encode_rec, decode_rec}
use Rattle.protocol.specs.Table.{Table, table_of, head_body, encode_table, decode_table, table_lawful, rules_hold}
use Rattle.protocol.specs.Steps.{put}
use Rattle.protocol.specs.Held.{AllFit}
use Rattle.protocol.proofs.Laws.{same_refl, lawful_bytes, lawful_fits, length_rec, length_head}

-- the bytes of the k-th of several records
joined-part : (rs : List Rec) (k : ℕ) → AllFit rs → k < length rs → part (512 * k) 512 (joined (map encode_rec rs)) ≡ encode_rec (get_or rs k free_rec)
unfolding AllFit joined
joined-part [] k f h = absurd (omega arith)
joined-part (r ∷ rs) zero f h = take_at (encode_rec r) (joined (map encode_rec rs)) 512 (length_rec r f.0.sized)
joined-part (r ∷ rs) (suc k) f h =
    let e : 512 * suc k ≡ length (encode_rec r) + 512 * k = omega (arith, length_rec r f.0.sized) in
    rw (e, drop-append-add (encode_rec r) (joined (map encode_rec rs)) (512 * k)) (joined-part rs k f.1 (omega arith))

-- those bytes overwritten
joined-put : (x : Rec) (rs : List Rec) (k : ℕ) → AllFit rs → k < length rs
    → take (512 * k) (joined (map encode_rec rs)) ++ (encode_rec x ++ drop (512 * k + 512) (joined (map encode_rec rs))) ≡ joined (map encode_rec (set rs k x))
unfolding AllFit joined
joined-put x [] k f h = absurd (omega arith)
joined-put x (r ∷ rs) zero f h = ap (λ (l : List ℕ). encode_rec x ++ l) (drop_at (encode_rec r) (joined (map encode_rec rs)) 512 (length_rec r f.0.sized))
joined-put x (r ∷ rs) (suc k) f h =
    let n = length_rec r f.0.sized in
    let e : 512 * suc k ≡ length (encode_rec r) + 512 * k = omega arith in
    let g : 512 * suc k + 512 ≡ length (encode_rec r) + (512 * k + 512) = omega arith in
    rw (g, e, take-append-add (encode_rec r) (joined (map encode_rec rs)) (512 * k), drop-append-add (encode_rec r) (joined (map encode_rec rs)) (512 * k + 512), append_assoc)
    (ap (λ (l : List ℕ). encode_rec r ++ l) (joined-put x rs k f.1 (omega arith)))

module _ (t : Table) (f : AllFit t.slots) where
  abbrev head : List ℕ
  head = sealed (head_body (length t.slots) t.clock t.next)

  abbrev rest : List ℕ
  rest = joined (map encode_rec t.slots)

  long : length head ≡ 512
  long = length_head (length t.slots) t.clock t.next

  -- the header's bytes, and those of slot k + 1
  pub head_bytes : part 0 512 (encode_table t) ≡ head
  unfolding encode_table
  head_bytes = take_at head rest 512 long

  pub slot_bytes : (k : ℕ) → k < length t.slots → part (512 * suc k) 512 (encode_table t) ≡ encode_rec (get_or t.slots k free_rec)
  unfolding encode_table
  slot_bytes k h =
      let e : 512 * suc k ≡ length head + 512 * k = omega (arith, long) in
      rw (e, drop-append-add head rest (512 * k)) (joined-part t.slots k f h)

  -- a record's block written over slot k + 1 is the record put into it
  pub put_bytes : (x : Rec) (k : ℕ) → length (encode_rec x) ≡ 512 → k < length t.slots → spliced (encode_table t) (512 * suc k) (encode_rec x) ≡ encode_table (put (suc k) x t)
  unfolding encode_table spliced
  put_bytes x k n h =
      let m = long in
      let e : 512 * suc k ≡ length head + 512 * k = omega arith in
      let g : 512 * suc k + length (encode_rec x) ≡ length head + (512 * k + 512) = omega arith in
      rw (g, e, take-append-add head rest (512 * k), drop-append-add head rest (512 * k + 512), append_assoc, length-set t.slots k x)
      (ap (λ (l : List ℕ). head ++ l) (joined-put x t.slots k f h))

  -- a header written over the header is another clock and next serial
  pub head_put : (clock next : ℕ) → spliced (encode_table t) 0 (sealed (head_body (length t.slots) clock next)) ≡ encode_table (table_of clock next t.slots)
  unfolding encode_table spliced
  head_put clock next =
      let n : 0 + length (sealed (head_body (length t.slots) clock next)) ≡ 512 = omega (arith, length_head (length t.slots) clock next) in
      rw (n, drop_at head rest 512 long)

-- Reading: the record of slot k + 1 is what its block says, whatever the bytes

pub blocks_at : (m : ℕ) (d : List ℕ) (k : ℕ) → k < m → get_or (map decode_rec (blocks m 512 d)) k free_rec ≡ decode_rec (part (512 * k) 512 d)
unfolding blocks
blocks_at zero d k h = absurd (omega arith)
blocks_at (suc m) d zero h = refl
blocks_at (suc m) d (suc k) h =
    let e : 512 * suc k ≡ 512 + 512 * k = omega arith in
    blocks_at m (drop 512 d) k (omega arith) ∙ rw (drop-drop (512 * k) 512 d, e)

pub slot_read : (b : List ℕ) (k : ℕ) → k < length b / 512 - 1 → get_or (decode_table b).slots k free_rec ≡ decode_rec (part (512 * suc k) 512 b)
unfolding decode_table
slot_read b k h =
    let e : 512 * suc k ≡ 512 + 512 * k = omega arith in
    blocks_at (length b / 512 - 1) (drop 512 b) k h ∙ rw (drop-drop (512 * k) 512 b, e)

-- Judging: bytes are those of their table where each block is that of its record, and the header its own

blockwise : (m : ℕ) (d : List ℕ) → length d ≡ 512 * m → ((k : ℕ) → k < m → part (512 * k) 512 d ≡ encode_rec (decode_rec (part (512 * k) 512 d)))
    → d ≡ joined (map encode_rec (map decode_rec (blocks m 512 d)))
unfolding blocks joined
blockwise zero d h g = nothing d (omega arith)
  where
    nothing : (d : List ℕ) → length d ≤ 0 → d ≡ []
    nothing [] h = refl
    nothing (x ∷ d) h = absurd (omega arith)
blockwise (suc m) d h g =
    let a : take 512 d ≡ encode_rec (decode_rec (take 512 d)) = g 0 (omega arith) in
    let b : drop 512 d ≡ joined (map encode_rec (map decode_rec (blocks m 512 (drop 512 d)))) = blockwise m (drop 512 d) (omega (arith, length-drop 512 d)) (λ k l. later k (g (suc k) (omega arith))) in
    sym (take-append-drop 512 d) ∙ ap (λ (l : List ℕ). l ++ drop 512 d) a ∙ ap (λ (l : List ℕ). encode_rec (decode_rec (take 512 d)) ++ l) b
  where
    later : (k : ℕ) → part (512 * suc k) 512 d ≡ encode_rec (decode_rec (part (512 * suc k) 512 d)) → part (512 * k) 512 (drop 512 d) ≡ encode_rec (decode_rec (part (512 * k) 512 (drop 512 d)))
    later k e = let q : 512 * suc k ≡ 512 + 512 * k = omega arith in rw (drop-drop (512 * k) 512 d) (rw q at e)

length-blocks : (m n : ℕ) (s : List ℕ) → length (blocks m n s) ≡ m
unfolding blocks
length-blocks zero n s = refl
length-blocks (suc m) n s = ap suc (length-blocks m n (drop n s))

pub slots_count : (b : List ℕ) → length (decode_table b).slots ≡ length b / 512 - 1
unfolding decode_table
slots_count b = length-map (blocks (length b / 512 - 1) 512 (drop 512 b)) decode_rec ∙ length-blocks (length b / 512 - 1) 512 (drop 512 b)

read_whole : (b : List ℕ) (m : ℕ) → length b / 512 - 1 ≡ m → take 512 b ≡ sealed (head_body m (num 8 8 b) (num 16 4 b)) → drop 512 b ≡ joined (map encode_rec (map decode_rec (blocks m 512 (drop 512 b)))) → b ≡ encode_table (decode_table b)
unfolding encode_table decode_table
read_whole b m c e d =
    let n : length (map decode_rec (blocks m 512 (drop 512 b))) ≡ m = length-map (blocks m 512 (drop 512 b)) decode_rec ∙ length-blocks m 512 (drop 512 b) in
    rw (c, n) (sym (take-append-drop 512 b) ∙ ap (λ (l : List ℕ). l ++ drop 512 b) e ∙ ap (λ (l : List ℕ). sealed (head_body m (num 8 8 b) (num 16 4 b)) ++ l) d)

pub lawful_by_blocks : (b : List ℕ) (m : ℕ) → length b ≡ 512 * m + 512 → take 512 b ≡ sealed (head_body m (num 8 8 b) (num 16 4 b))
    → ((k : ℕ) → k < m → part (512 * suc k) 512 b ≡ encode_rec (decode_rec (part (512 * suc k) 512 b))) → rules_hold (decode_table b) ≡ true → table_lawful b ≡ true
unfolding table_lawful
lawful_by_blocks b m h e g r = rw (sym whole) (rw (same_refl b, r))
  where
    count : length b / 512 - 1 ≡ m
    count = omega arith

    later : (k : ℕ) → part (512 * suc k) 512 b ≡ encode_rec (decode_rec (part (512 * suc k) 512 b)) → part (512 * k) 512 (drop 512 b) ≡ encode_rec (decode_rec (part (512 * k) 512 (drop 512 b)))
    later k x = let q : 512 * suc k ≡ 512 + 512 * k = omega arith in rw (drop-drop (512 * k) 512 b) (rw q at x)

    whole : b ≡ encode_table (decode_table b)
    whole = read_whole b m count e (blockwise m (drop 512 b) (omega (arith, length-drop 512 b)) (λ k l. later k (g k l)))

-- and a lawful table's blocks are so
pub block_lawful : (b : List ℕ) → length b ≡ 512 * (length b / 512 - 1) + 512 → table_lawful b ≡ true → (k : ℕ) → k < length b / 512 - 1
    → part (512 * suc k) 512 b ≡ encode_rec (decode_rec (part (512 * suc k) 512 b))
block_lawful b h e k l =
    let f = lawful_fits b h e in
    let n : length (decode_table b).slots ≡ length b / 512 - 1 = slots_count b in
    ap (λ (s : List ℕ). part (512 * suc k) 512 s) (lawful_bytes b e) ∙ slot_bytes (decode_table b) f k (rw n l) ∙ ap encode_rec (slot_read b k l)
