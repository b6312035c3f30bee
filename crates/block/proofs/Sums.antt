-- The check's sums may run on unreduced. Assumes nothing.
use mathlib.Core.Path.{◌≡◌, refl, ◌∙◌}
use mathlib.Core.List.{List, ◌∷◌, ◌++◌}
use Prim.Native.Nat.{ℕ, zero, suc, ◌+◌, ◌%◌, ◌*◌, ◌<◌, ◌≤◌}
use native.Mathlib.Nat.{add-zero, zero-mul, suc-mul, mod-add-mod, add-mod-mod, mod-mod}
use native.Mathlib.Numerals.{add-one}
use native.Mathlib.Omega.{arith}
use lib.ListN.{length, drop, get_or, drop_of_length-le}
use lib.Seq.{drop-cons}
use Rattle.protocol.specs.Bytes.{zeros}
use Rattle.protocol.specs.Blocks.{check_from}

cons : (a b x : ℕ) (xs : List ℕ) → check_from a b (x ∷ xs) ≡ check_from ((a + x) % 65535) ((b + (a + x) % 65535) % 65535) xs
unfolding check_from
cons a b x xs = refl

-- one byte more: the sums reduced before the byte or after it are the same
pub sums_turn : (s z : List ℕ) (i a b w : ℕ) → i < length s → w ≡ get_or s i 0
    → check_from (a % 65535) (b % 65535) (drop i s ++ z) ≡ check_from ((a + w) % 65535) ((b + (a + w)) % 65535) (drop (i + 1) s ++ z)
sums_turn s z i a b w h e = rw (e, add-one, drop-cons s i 0) (simp (cons, mod-add-mod, add-mod-mod))

-- over zeros the first sum stays, and the second grows by the first at each
zeros_sums : (n a b : ℕ) → check_from (a % 65535) (b % 65535) (zeros n) ≡ (b + n * a) % 65535 * 65536 + a % 65535
unfolding check_from
zeros_sums zero a b =
    let e : b + zero * a ≡ b = omega (arith, zero-mul a) in
    rw e
zeros_sums (suc n) a b =
    let e : b + a + n * a ≡ b + suc n * a = rw (suc-mul n a) (omega arith) in
    let t : check_from (a % 65535) (b % 65535) (zeros (suc n)) ≡ check_from (a % 65535) ((b + a) % 65535) (zeros n) = simp (cons, mod-add-mod, add-mod-mod, mod-mod, add-zero) in
    t ∙ zeros_sums n a (b + a) ∙ rw e

pub sums_done : (s : List ℕ) (n i a b : ℕ) → length s ≤ i → check_from (a % 65535) (b % 65535) (drop i s ++ zeros n) ≡ (b + n * a) % 65535 * 65536 + a % 65535
sums_done s n i a b h = rw (drop_of_length-le s h) (zeros_sums n a b)
