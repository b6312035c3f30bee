-- A block in the middle of a table. Assumes nothing.
use mathlib.Core.Path.{◌≡◌, refl, sym, ap, ◌∙◌}
use mathlib.Core.Bool.{Bool}
use mathlib.Core.List.{List, ◌++◌, append-nil}
use Prim.Native.Nat.{ℕ, zero, suc, ◌+◌, ◌*◌, ◌-◌, ◌/◌, ◌≤◌, ◌<◌}
use native.Mathlib.Omega.{arith}
use lib.Dec.{eqb, lit≤}
use lib.ListN.{length, take, drop, get_or, length-drop}
use lib.Seq.{drop-drop, drop_at, take-take, take-add, length-take-le}
use Rattle.std.specs.Simd.{first_chunks}
use Rattle.protocol.specs.Bytes.{part, num, zeros}
use Rattle.protocol.specs.Blocks.{house_check, check_right}
use Rattle.protocol.proofs.Laws.{part-long}
use Rattle.block.specs.Checks.{check_right_to}

-- a part of a part is a part of the whole
pub part-part : (s : List ℕ) (a k b m : ℕ) → b + m ≤ k → a + b ≤ length s → part b m (part a k s) ≡ part (a + b) m s
part-part s a k b m h g =
    let e : k ≡ b + (k - b) = omega arith in
    let d : drop b (take k (drop a s)) ≡ take (k - b) (drop (a + b) s) =
    ap (λ (n : ℕ). drop b (take n (drop a s))) e
    ∙ (ap (drop b) (take-add b (k - b) (drop a s))
    ∙ (drop_at (take b (drop a s)) (take (k - b) (drop b (drop a s))) b (length-take-le b (drop a s) (rw length-drop (omega arith)))
    ∙ rw drop-drop)) in
    rw d (take-take m (k - b) (drop (a + b) s) (omega arith))

-- a block among the chunks is its part of the whole
chunk_at : (m k : ℕ) (b d : List ℕ) → k < m → get_or (first_chunks 512 m b) k d ≡ part (512 * k) 512 b
chunk_at zero k b d h = absurd (omega arith)
chunk_at (suc m) zero b d h = refl
chunk_at (suc m) (suc k) b d h =
    let e : 512 + 512 * k ≡ 512 * suc k = omega arith in
    chunk_at m k (drop 512 b) d (omega arith) ∙ rw (drop-drop (512 * k) 512 b, e)

pub block_lent : (b d : List ℕ) (k j : ℕ) {s : List (List ℕ)} → 512 * k + 512 ≤ length b → j ≡ k → s ≡ first_chunks 512 (length b / 512) b → get_or s j d ≡ part (512 * k) 512 b
block_lent b d k j h e c = rw (c, e) (chunk_at (length b / 512) k b d (omega arith))

-- the test of a block from the check of its first part, taken from the table, and the number after it
pub right_in_place : (t : List ℕ) (k u : ℕ) {x y : ℕ} → 512 * k + 512 ≤ length t → u ≤ 508
    → x ≡ house_check (take u (part (512 * k) (512 * k + 508 - 512 * k) t) ++ zeros (length (part (512 * k) (512 * k + 508 - 512 * k) t) - u))
    → y ≡ num (512 * k + 508) 4 t → eqb x y ≡ check_right_to u (part (512 * k) 512 t)
unfolding check_right_to
right_in_place t k u h g p q =
    let e : 512 * k + 508 - 512 * k ≡ 508 = omega arith in
    let l : length (part (512 * k) 508 t) ≡ 508 = part-long (512 * k) 508 t (omega arith) in
    rw
    (p, q, e, l, take-take u 508 (drop (512 * k) t) g, take-take u 512 (drop (512 * k) t) (omega arith), part-part t (512 * k) 512 508 4 (lit≤ tt) (omega arith))

-- where the bytes behind the first so many are zeros the check over these is the block's
pub right_to : (b : List ℕ) (u : ℕ) → take 508 b ≡ take u b ++ zeros (508 - u) → check_right_to u b ≡ check_right b
unfolding check_right_to check_right
right_to b u e = rw e

-- and so it is where there are none behind them
pub right_all : (b : List ℕ) {r : Bool} → r ≡ check_right_to 508 b → r ≡ check_right b
right_all b e = e ∙ right_to b 508 (sym (append-nil (take 508 b)))
