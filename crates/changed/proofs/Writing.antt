-- How changes are written: one block, block after block, and the count put before them. Assumes nothing.
use mathlib.Core.Path.{◌≡◌, refl, sym, ap, ◌∙◌}
use mathlib.Core.Bool.{Bool, true, false, not}
use mathlib.Core.List.{List, [], ◌∷◌, ◌++◌, append_assoc, append-nil}
use Prim.Native.Nat.{ℕ, zero, suc, ◌+◌, ◌-◌, ◌*◌, ◌/◌, ◌≤◌, ◌<◌}
use native.Mathlib.Omega.{arith}
use lib.ListN.{length, take, drop, length-append, length-drop, length-take}
use lib.Seq.{take_at, drop_at, length-take-le, take-append-le, take-take}
use Rattle.protocol.specs.Bytes.{if, same, part, bytes_of, spliced}
use Rattle.protocol.specs.Written.{Wrote}
use Rattle.protocol.proofs.Laws.{length_bytes, part-long}
use Rattle.protocol.proofs.Sizes.{length-spliced}
use Rattle.text.proofs.Laws.{lengths_differ}
use Rattle.text.proofs.Splice.{Left, left_start, left_put, left_done, then, wrote_none, wrote_as}
use Rattle.changed.specs.Changes.{Change, change, block_at, change_at, changes_from, changes_of, blocks_text, changed_text, Told}

-- `is_changed`
module _ (old new : List ℕ) (k : ℕ) (h : 512 * k + 512 ≤ length new) where
  pub short_changed : length old < 512 * k + 512 → true ≡ not (same (block_at k old) (block_at k new))
  short_changed s =
      let n : length (block_at k new) ≡ 512 = part-long (512 * k) 512 new h in
      let o : length (block_at k old) ≤ length (drop (512 * k) old) = omega (arith, length-take 512 (drop (512 * k) old)) in
      ap not (lengths_differ (block_at k old) (block_at k new) (λ e. omega (arith, length-drop (512 * k) old)))

-- the changes of one block
pick_second : {A : Type 0} (s : Bool) (x y : A) → not s ≡ true → if s x y ≡ y
pick_second true x y e = absurd (let z : ◌≡◌ {A = ℕ} 0 1 = cc in omega arith)
pick_second false x y e = refl

pick_first : {A : Type 0} (s : Bool) (x y : A) → not s ≡ false → if s x y ≡ x
pick_first true x y e = refl
pick_first false x y e = absurd (let z : ◌≡◌ {A = ℕ} 0 1 = cc in omega arith)

module _ (old new : List ℕ) (k : ℕ) (r : Bool) (e : r ≡ not (same (block_at k old) (block_at k new))) where
  change-one : r ≡ true → change_at k old new ≡ change k (block_at k new) ∷ []
  unfolding change_at
  change-one q = pick_second (same (block_at k old) (block_at k new)) [] (change k (block_at k new) ∷ []) (sym e ∙ q)

  change_none : r ≡ false → change_at k old new ≡ []
  unfolding change_at
  change_none q = pick_first (same (block_at k old) (block_at k new)) [] (change k (block_at k new) ∷ []) (sym e ∙ q)

-- a number of four bytes put
put_number : (d e : List ℕ) (at v : ℕ) → at + 4 ≤ length d → e ≡ spliced d at (bytes_of 4 v) → Wrote d at e (at + 4) (bytes_of 4 v)
put_number d e at v h p =
    let n : length (bytes_of 4 v) ≡ 4 = length_bytes 4 v in
    record { holds = p; moves = omega arith; room = h; same = ap length p ∙ length-spliced d at (bytes_of 4 v) (omega arith) }

-- `put_block`
module _ (old new d : List ℕ) (k at : ℕ) (h : 512 * k + 512 ≤ length new) (g : at + 516 ≤ length d) {r : Bool} (b : r ≡ not (same (block_at k old) (block_at k new))) where
  pub block_put : {e f : List ℕ} {next : ℕ} → r ≡ true → e ≡ spliced d at (bytes_of 4 k) → Wrote e (at + 4) f next (part (512 * k) (512 * k + 512 - 512 * k) new)
      → Wrote d at f next (blocks_text (change_at k old new))
  unfolding blocks_text
  block_put {e} {f} {next} q p w =
      let n : 512 * k + 512 - 512 * k ≡ 512 = omega arith in
      let v : Wrote e (at + 4) f next (block_at k new) = rw n at w in
      let t : bytes_of 4 k ++ block_at k new ≡ blocks_text (change_at k old new) =
      ap (λ (l : List ℕ). bytes_of 4 k ++ l) (sym (append-nil (block_at k new))) ∙ ap blocks_text (sym (change-one old new k r b q)) in
      wrote_as t (then (put_number d e at k (omega arith) p) v)

  pub block_moves : {e f : List ℕ} {next : ℕ} → Wrote e (at + 4) f next (part (512 * k) (512 * k + 512 - 512 * k) new) → next ≤ at + 516
  block_moves {next = next} w =
      let n : 512 * k + 512 - 512 * k ≡ 512 = omega arith in
      let l : next ≡ at + 4 + length (part (512 * k) 512 new) = rw n at w.moves in
      omega (arith, part-long (512 * k) 512 new h)

  pub block_same : r ≡ false → Wrote d at d at (blocks_text (change_at k old new))
  unfolding blocks_text
  block_same q = wrote_as (ap blocks_text (sym (change_none old new k r b q))) (wrote_none d at (omega arith))

-- several blocks, one behind the other
blocks-append : (a b : List Change) → blocks_text (a ++ b) ≡ blocks_text a ++ blocks_text b
unfolding blocks_text
blocks-append [] b = refl
blocks-append (c ∷ a) b =
    let r : List ℕ = bytes_of 4 c.number in
    ap (λ (l : List ℕ). r ++ (c.block ++ l)) (blocks-append a b)
    ∙ ap (λ (l : List ℕ). r ++ l) (sym (append_assoc c.block (blocks_text a) (blocks_text b)))
    ∙ sym (append_assoc r (c.block ++ blocks_text a) (blocks_text b))

-- 516 bytes for each change, and at most one change for each block
length-one : (old new : List ℕ) (k : ℕ) → 512 * k + 512 ≤ length new → length (blocks_text (change_at k old new)) ≡ 516 * length (change_at k old new)
unfolding blocks_text change_at
length-one old new k h = by_test (same (block_at k old) (block_at k new))
  where
    by_test : (s : Bool) → length (blocks_text (if s [] (change k (block_at k new) ∷ []))) ≡ 516 * length (if s [] (change k (block_at k new) ∷ []))
    by_test true = refl
    by_test false =
        omega (arith, length-append (bytes_of 4 k) (block_at k new ++ []), length-append (block_at k new) [], length_bytes 4 k, part-long (512 * k) 512 new h)

one_most : (old new : List ℕ) (k : ℕ) → length (change_at k old new) ≤ 1
unfolding change_at
one_most old new k = by_test (same (block_at k old) (block_at k new))
  where
    by_test : (s : Bool) → length (if s [] (change k (block_at k new) ∷ [])) ≤ 1
    by_test true = omega arith
    by_test false = omega arith

length_from : (old new : List ℕ) (m k : ℕ) → 512 * (k + m) ≤ length new → length (blocks_text (changes_from k m old new)) ≡ 516 * length (changes_from k m old new)
unfolding blocks_text changes_from
length_from old new zero k h = refl
length_from old new (suc m) k h =
    let one : List Change = change_at k old new in
    let rest : List Change = changes_from (k + 1) m old new in
    omega (
      arith,
      ap length (blocks-append one rest),
      length-append (blocks_text one) (blocks_text rest),
      length-append one rest,
      length-one old new k (omega arith),
      length_from old new m (k + 1) (omega arith),
    )

from_most : (old new : List ℕ) (m k : ℕ) → length (changes_from k m old new) ≤ m
unfolding changes_from
from_most old new zero k = omega arith
from_most old new (suc m) k =
    omega (arith, length-append (change_at k old new) (changes_from (k + 1) m old new), one_most old new k, from_most old new m (k + 1))

module _ (old new : List ℕ) where
  length-told : length (blocks_text (changes_of old new)) ≡ 516 * length (changes_of old new)
  unfolding changes_of
  length-told = length_from old new (length new / 512) 0 (omega arith)

  told_most : length (changes_of old new) ≤ length new / 512
  unfolding changes_of
  told_most = from_most old new (length new / 512) 0

-- `put_blocks`
pub blocks_start : (old new d : List ℕ) (at m : ℕ) → m ≡ length new / 512 → at + 516 * (length new / 512) ≤ length d
    → Left d at (blocks_text (changes_of old new)) d at (blocks_text (changes_from 0 (m - 0) old new))
unfolding changes_of
blocks_start old new d at m e h =
    let z : m - 0 ≡ length new / 512 = omega arith in
    rw z (left_start d at (blocks_text (changes_of old new)) (omega (arith, length-told old new, told_most old new)))

module _ (old new d e : List ℕ) (at to m k : ℕ) (l : Left d at (blocks_text (changes_of old new)) e to (blocks_text (changes_from k (m - k) old new))) where
  pub blocks_turn : {f : List ℕ} {next : ℕ} → k < m → Wrote e to f next (blocks_text (change_at k old new))
      → Left d at (blocks_text (changes_of old new)) f next (blocks_text (changes_from (k + 1) (m - (k + 1)) old new))
  unfolding changes_from
  blocks_turn h w =
      let n : m - k ≡ suc (m - (k + 1)) = omega arith in
      left_put (blocks_text (changes_from (k + 1) (m - (k + 1)) old new)) l
      (ap (λ (j : ℕ). blocks_text (changes_from k j old new)) n ∙ blocks-append (change_at k old new) (changes_from (k + 1) (m - (k + 1)) old new)) w

  pub blocks_done : m ≤ k → Wrote d at e to (blocks_text (changes_of old new))
  unfolding changes_from blocks_text
  blocks_done h = let n : m - k ≡ 0 = omega arith in left_done (rw n at l)

-- a text put before one that stands already
splice_before : (d a b : List ℕ) (at : ℕ) → at + length a + length b ≤ length d → spliced (spliced d (at + length a) b) at a ≡ spliced d at (a ++ b)
unfolding spliced
splice_before d a b at h =
    let n : ℕ = at + length a in
    let r : List ℕ = b ++ drop (n + length b) d in
    let k : length (take n d) ≡ n = length-take-le n d (omega arith) in
    let t : take at (take n d ++ r) ≡ take at d = take-append-le at (take n d) r (omega arith) ∙ take-take at n d (omega arith) in
    let s : drop n (take n d ++ r) ≡ r = drop_at (take n d) r n k in
    let v : n + length b ≡ at + length (a ++ b) = omega (arith, length-append a b) in
    ap (λ (l : List ℕ). l ++ (a ++ drop n (take n d ++ r))) t
    ∙ ap (λ (l : List ℕ). take at d ++ (a ++ l)) s
    ∙ ap (λ (l : List ℕ). take at d ++ l) (sym (append_assoc a b (drop (n + length b) d)))
    ∙ ap (λ (j : ℕ). take at d ++ ((a ++ b) ++ drop j d)) v

-- `put_changed`
pub changed_put : (old new d : List ℕ) (at : ℕ) {e f : List ℕ} {to : ℕ} → at + (4 + 516 * (length new / 512)) ≤ length d → Wrote d (at + 4) e to (blocks_text (changes_of old new))
    → f ≡ spliced e at (bytes_of 4 ((to - (at + 4)) / 516)) → Wrote d at f to (changed_text (changes_of old new))
unfolding changed_text
changed_put old new d at {e} {f} {to} h w p =
    let cs : List Change = changes_of old new in
    let b : List ℕ = blocks_text cs in
    let a : List ℕ = bytes_of 4 (length cs) in
    let i : length a ≡ 4 = length_bytes 4 (length cs) in
    let q : length b ≡ 516 * length cs = length-told old new in
    let n : (to - (at + 4)) / 516 ≡ length cs = omega (arith, w.moves) in
    let j : at + 4 ≡ at + length a = omega arith in
    let t : f ≡ spliced d at (a ++ b) =
    p ∙ ap (λ (c : ℕ). spliced e at (bytes_of 4 c)) n ∙ ap (λ (x : List ℕ). spliced x at a) (w.holds ∙ ap (λ (c : ℕ). spliced d c b) j) ∙ splice_before d a b at (omega (arith, told_most old new)) in
    record {
      holds = t;
      moves = omega (arith, w.moves, length-append a b);
      room = w.room;
      same = ap length t ∙ length-spliced d at (a ++ b) (omega (arith, w.moves, w.room, length-append a b));
    }

-- what was put last ends the frame
pub told_last : (old new kept : List ℕ) {d e : List ℕ} {at to : ℕ} → kept ≡ old → Wrote d at e to (changed_text (changes_of kept new)) → Told old new e to
unfolding spliced
told_last old new kept {d} {e} {at} {to} k w =
    let t : List ℕ = changed_text (changes_of kept new) in
    let r : List ℕ = drop (at + length t) d in
    let n : length (take at d) ≡ at = length-take-le at d (omega (arith, w.moves, w.room)) in
    let s : take at e ≡ take at d = ap (take at) w.holds ∙ take_at (take at d) (t ++ r) at n in
    let l : length (take at d ++ t) ≡ to = omega (arith, length-append (take at d) t, w.moves) in
    let u : take to e ≡ take at d ++ t = ap (take to) (w.holds ∙ sym (append_assoc (take at d) t r)) ∙ take_at (take at d ++ t) r to l in
    record { from = at; ends = u ∙ ap (λ (x : List ℕ). x ++ t) (sym s) ∙ ap (λ (x : List ℕ). take at e ++ changed_text (changes_of x new)) k }
