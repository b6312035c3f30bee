-- Any change of one byte of a block is noticed. Assumes nothing.
use mathlib.Core.Path.{◌≡◌, refl, sym, ap, ◌∙◌}
use mathlib.Core.Bool.{true, false}
use mathlib.Core.List.{List, [], ◌∷◌}
use Prim.Native.Nat.{ℕ, zero, suc, ◌+◌, ◌%◌, ◌-◌, ◌<◌}
use native.Mathlib.Nat.{mod-add-mod, add_assoc, mod-lt, not-suc-le-zero, le_of_suc-le-suc}
use native.Mathlib.Omega.{arith}
use native.Mathlib.Decide.{dec_lt}
use borrow.Author.Tests.{ne_eqb, eqb-true, eq-eqb}
use lib.Dec.{lit<}
use lib.ListN.{length, take, drop, set, get_or, length-drop}
use lib.Seq.{take-set-lt, take-set-le, drop-set-lt, drop-set-add, length-take-le, get_or-take, get_or-drop, take_at, drop_at, take_all}
use Rattle.protocol.specs.Bytes.{le_of, num, bytes_of}
use Rattle.protocol.specs.Blocks.{check_from, house_check, check_right, sealed}
use Rattle.protocol.proofs.Laws.{le_bytes, length_bytes}

sum : List ℕ → ℕ
sum [] = 0
sum (x ∷ xs) = x + sum xs

-- the check's low half is the plain sum, reduced
low : (xs : List ℕ) (a b : ℕ) → a < 65535 → check_from a b xs % 65536 ≡ (a + sum xs) % 65535
unfolding check_from sum
low [] a b h = omega arith
low (x ∷ xs) a b h =
    low xs ((a + x) % 65535) ((b + (a + x) % 65535) % 65535) (mod-lt (a + x) (lit< tt))
    ∙ (mod-add-mod (a + x) 65535 (sum xs) ∙ rw add_assoc)

sum_set : (xs : List ℕ) (i v : ℕ) → i < length xs → sum (set xs i v) + get_or xs i 0 ≡ sum xs + v
unfolding sum
sum_set [] i v h = absurd (not-suc-le-zero h)
sum_set (x ∷ xs) zero v h = omega arith
sum_set (x ∷ xs) (suc i) v h = omega (arith, sum_set xs i v (le_of_suc-le-suc h))

body_changed : (xs : List ℕ) (i v : ℕ) → i < length xs → get_or xs i 0 < 256 → v < 256 → (v ≡ get_or xs i 0 → ⊥)
    → house_check (set xs i v) ≡ house_check xs → ⊥
unfolding house_check
body_changed xs i v h p q d e =
    let a : check_from 1 0 (set xs i v) % 65536 ≡ (1 + sum (set xs i v)) % 65535 = low (set xs i v) 1 0 (lit< tt) in
    let b : check_from 1 0 xs % 65536 ≡ (1 + sum xs) % 65535 = low xs 1 0 (lit< tt) in
    let m : (1 + sum (set xs i v)) % 65535 ≡ (1 + sum xs) % 65535 = sym a ∙ (ap (λ (n : ℕ). n % 65536) e ∙ b) in
    apart (sum (set xs i v)) (sum xs) v (get_or xs i 0) (sum_set xs i v h) m p q d
  where
    apart : (s t v x : ℕ) → s + x ≡ t + v → (1 + s) % 65535 ≡ (1 + t) % 65535 → x < 256 → v < 256 → (v ≡ x → ⊥) → ⊥
    apart s t v x e m p q d = d (omega arith)

number_changed : (ys : List ℕ) (j v : ℕ) → j < length ys → le_of (set ys j v) ≡ le_of ys → v ≡ get_or ys j 0
unfolding le_of
number_changed [] j v h e = absurd (not-suc-le-zero h)
number_changed (y ∷ ys) zero v h e = omega arith
number_changed (y ∷ ys) (suc j) v h e = number_changed ys j v (le_of_suc-le-suc h) (omega arith)

module _ (b : List ℕ) (i v : ℕ) (n : length b ≡ 512) (d : v ≡ get_or b i 0 → ⊥) (ok : check_right b ≡ true) where
  in_body : i < 508 → get_or b i 0 < 256 → v < 256 → check_right (set b i v) ≡ false
  unfolding check_right
  in_body h p q =
      let g : get_or (take 508 b) i 0 ≡ get_or b i 0 = get_or-take 508 b i 0 h in
      let e : house_check (take 508 b) ≡ num 508 4 b = eqb-true _ _ ok in
      let l : length (take 508 b) ≡ 508 = length-take-le 508 b (omega arith) in
      rw (take-set-lt 508 b i v h, drop-set-lt 508 b i v h)
      (ne_eqb _ _ (λ x. body_changed (take 508 b) i v (rw l h) (rw g p) q (λ y. d (y ∙ g)) (x ∙ sym e)))

  in_check : (j : ℕ) → i ≡ 508 + j → j < 4 → check_right (set b i v) ≡ false
  unfolding check_right
  in_check j s h =
      let g : get_or (take 4 (drop 508 b)) j 0 ≡ get_or b i 0 = get_or-take 4 (drop 508 b) j 0 h ∙ (get_or-drop 508 b j 0 ∙ rw s) in
      let e : house_check (take 508 b) ≡ num 508 4 b = eqb-true _ _ ok in
      let l : length (take 4 (drop 508 b)) ≡ 4 = length-take-le 4 (drop 508 b) (rw length-drop (omega arith)) in
      let a : take 508 (set b i v) ≡ take 508 b = take-set-le 508 b i v (omega arith) in
      let f : take 4 (drop 508 (set b i v)) ≡ set (take 4 (drop 508 b)) j v =
      rw (s, drop-set-add 508 b j v) (take-set-lt 4 (drop 508 b) j v h) in
      rw (a, f) (ne_eqb _ _ (λ x. d (number_changed (take 4 (drop 508 b)) j v (rw l h) (sym x ∙ e) ∙ g)))

  by_place : i < 512 → get_or b i 0 < 256 → v < 256 → Dec (i < 508) → check_right (set b i v) ≡ false
  by_place h p q (yes k) = in_body k p q
  by_place h p q (no k) = in_check (i - 508) (omega arith) (omega arith)

  pub noticed : i < 512 → get_or b i 0 < 256 → v < 256 → check_right (set b i v) ≡ false
  noticed h p q = by_place h p q (dec_lt i 508)

-- a check is below 2^32, so four bytes hold it, and a sealed block's check is right
check_below : (s : List ℕ) (a b : ℕ) → a < 65535 → b < 65535 → check_from a b s < 4294967296
unfolding check_from
check_below [] a b h g = omega arith
check_below (x ∷ s) a b h g = check_below s ((a + x) % 65535) ((b + (a + x) % 65535) % 65535) (mod-lt (a + x) (lit< tt)) (mod-lt (b + (a + x) % 65535) (lit< tt))

pub house_below : (s : List ℕ) → house_check s < 4294967296
unfolding house_check
house_below s = check_below s 1 0 (lit< tt) (lit< tt)

pub sealed_right : (s : List ℕ) → length s ≡ 508 → check_right (sealed s) ≡ true
unfolding check_right sealed
sealed_right s h =
    let c : List ℕ = bytes_of 4 (house_check s) in
    rw (take_at s c 508 h, drop_at s c 508 h, take_all 4 c (omega (arith, length_bytes 4 (house_check s))), le_bytes 4 (house_check s) (house_below s)) (eq-eqb (house_check s) (house_check s) refl)
