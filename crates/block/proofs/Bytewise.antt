-- A block compared part by part with the bytes that it ought to have. Assumes nothing.
use mathlib.Core.Path.{◌≡◌, refl, sym, ap, ◌∙◌}
use mathlib.Core.Bool.{Bool, true, false, ◌&&◌}
use mathlib.Core.List.{List, [], ◌∷◌, ◌++◌}
use Prim.Native.Nat.{ℕ, zero, suc, ◌+◌, ◌-◌, ◌*◌, ◌/◌, ◌%◌, ◌^◌, ◌<◌, ◌≤◌}
use native.Mathlib.Omega.{arith}
use native.Mathlib.Decide.{dec_lt}
use borrow.Author.Tests.{eqb-true, eq-eqb, ne_eqb, le-leb, lt-leb}
use lib.Dec.{eqb, lit<}
use lib.ListN.{length, take, drop, get_or, get_or-eq_default}
use lib.Seq.{take-add, take_all, drop-drop, drop-cons, get_or-take, get_or-drop}
use Rattle.protocol.specs.Blocks.{house_check, check_right, sealed}
use Rattle.protocol.specs.Bytes.{same, within, all_within, zeros, pad_to, part, num, le_of, bytes_of}
use Rattle.protocol.proofs.Laws.{same-eq, same_refl, same-append, le_bytes, pad_full, part-long, one_test}
use Rattle.protocol.proofs.Notice.{house_below}

-- a part in two
cut : (b : List ℕ) (at k m : ℕ) → part at (k + m) b ≡ part at k b ++ part (at + k) m b
cut b at k m = take-add k m (drop at b) ∙ rw (drop-drop k at b)

-- the front of what ought to stand there is a test of its own
pub front_test : (b p q : List ℕ) (at k m : ℕ) {x y : Bool} → length p ≡ k → at + k ≤ length b → same (part at k b) p ≡ x → same (part (at + k) m b) q ≡ y
    → same (part at (k + m) b) (p ++ q) ≡ x && y
front_test b p q at k m e h f g = rw (cut b at k m, same-append (part at k b) p (part (at + k) m b) q (part-long at k b h ∙ sym e), f, g)

-- zeros
zero-within : (x : ℕ) → within 0 0 x ≡ eqb x 0
zero-within zero = refl
zero-within (suc x) = rw (le-leb 0 (suc x) (omega arith), lt-leb (suc x) 0 (omega arith), ne_eqb (suc x) 0 (λ e. omega arith))

pub same-zeros : (s : List ℕ) (n : ℕ) → length s ≡ n → same s (zeros n) ≡ all_within 0 0 s
unfolding same all_within
same-zeros [] zero e = refl
same-zeros [] (suc n) e = absurd (omega arith)
same-zeros (x ∷ s) zero e = absurd (omega arith)
same-zeros (x ∷ s) (suc n) e = rw (zero-within x, same-zeros s n (omega arith))

-- the bytes of the number that bytes spell
spelt : (xs : List ℕ) → ((i : ℕ) → get_or xs i 0 < 256) → bytes_of (length xs) (le_of xs) ≡ xs
unfolding bytes_of le_of
spelt [] h = refl
spelt (x ∷ xs) h =
    let l : x < 256 = h 0 in
    let a : (x + 256 * le_of xs) % 256 ≡ x = omega arith in
    let d : (x + 256 * le_of xs) / 256 ≡ le_of xs = omega arith in
    rw (a, d, spelt xs (λ i. h (suc i)))

module _ (b : List ℕ) (y : (i : ℕ) → get_or b i 0 < 256) where
  pub part_bytes : (at k : ℕ) → at + k ≤ length b → (i : ℕ) → get_or (part at k b) i 0 < 256
  part_bytes at k g i = by_place (dec_lt i k)
    where
      by_place : Dec (i < k) → get_or (part at k b) i 0 < 256
      by_place (yes q) = rw (get_or-take k (drop at b) i 0 q, get_or-drop at b i 0) (y (at + i))
      by_place (no q) =
          let l : length (part at k b) ≤ i = rw (part-long at k b g) (omega arith) in
          rw (get_or-eq_default (part at k b) 0 l) (lit< tt)

  spelt_part : (at k : ℕ) → at + k ≤ length b → bytes_of k (num at k b) ≡ part at k b
  spelt_part at k g = rw (part-long at k b g) at (spelt (part at k b) (part_bytes at k g))

  -- a field has its own number's bytes, and another's where the numbers are equal
  pub field_own : (at k : ℕ) → at + k ≤ length b → same (part at k b) (bytes_of k (num at k b)) ≡ true
  field_own at k g = rw (spelt_part at k g) (same_refl (part at k b))

  pub field_test : (at k v : ℕ) → at + k ≤ length b → v < 256 ^ k → same (part at k b) (bytes_of k v) ≡ eqb (num at k b) v
  field_test at k v g h =
      one_test (same (part at k b) (bytes_of k v)) (eqb (num at k b) v)
      (λ e. eq-eqb (num at k b) v (ap le_of (same-eq (part at k b) (bytes_of k v) e) ∙ le_bytes k v h))
      (λ e. let q : num at k b ≡ v = eqb-true (num at k b) v e in ap (λ (n : ℕ). same (part at k b) (bytes_of k n)) (sym q) ∙ field_own at k g)

-- single bytes
pub two_own : (b : List ℕ) (at : ℕ) → at + 2 ≤ length b → same (part at 2 b) (get_or b at 0 ∷ get_or b (suc at) 0 ∷ []) ≡ true
unfolding same
two_own b at h = rw (drop-cons b at 0 (omega arith), drop-cons b (suc at) 0 (omega arith), eq-eqb (get_or b at 0) (get_or b at 0) refl, eq-eqb (get_or b (suc at) 0) (get_or b (suc at) 0) refl)

pub one_and_zero : (b : List ℕ) (at : ℕ) → at + 2 ≤ length b → same (part at 2 b) (get_or b at 0 ∷ 0 ∷ []) ≡ all_within 0 0 (part (suc at) 1 b)
unfolding same all_within
one_and_zero b at h = rw (drop-cons b at 0 (omega arith), drop-cons b (suc at) 0 (omega arith), eq-eqb (get_or b at 0) (get_or b at 0) refl, zero-within (get_or b (suc at) 0))

-- a part of full length, padded
pub full_own : (s : List ℕ) (n : ℕ) → length s ≡ n → same s (pad_to n s) ≡ true
full_own s n e = rw (pad_full n s e) (same_refl s)

-- a text, and zeros behind it
pub text_own : (b : List ℕ) (at n k : ℕ) → n ≤ k → at + k ≤ length b → same (part at k b) (pad_to k (part at n b)) ≡ all_within 0 0 (part (at + n) (k - n) b)
text_own b at n k h g =
    let l : length (part at n b) ≡ n = part-long at n b (omega arith) in
    let e : k ≡ n + (k - n) = omega arith in
    let t : same (part at (n + (k - n)) b) (part at n b ++ zeros (k - n)) ≡ all_within 0 0 (part (at + n) (k - n) b) =
    front_test b (part at n b) (zeros (k - n)) at n (k - n) l (omega arith) (same_refl (part at n b)) (same-zeros (part (at + n) (k - n) b) (k - n) (part-long (at + n) (k - n) b (omega arith))) in
    ap (λ (m : ℕ). same (part at m b) (pad_to k (part at n b))) e ∙ rw l t

-- what a lent slice holds
pub record Bytes (b : List ℕ) : Type 0 where
  pub each : (i : ℕ) → get_or b i 0 < 256

-- A block: its 508 bytes and its check

pub under : (a x y : Bool) → (a ≡ true → x ≡ y) → a && x ≡ a && y
under true x y f = f refl
under false x y f = refl

eqb_turn : (m n : ℕ) → eqb m n ≡ eqb n m
eqb_turn m n = one_test (eqb m n) (eqb n m) (λ e. eq-eqb n m (sym (eqb-true m n e))) (λ e. eq-eqb m n (sym (eqb-true n m e)))

-- a block is a sealed one where its 508 bytes are right, and its check
pub sealed_test : (b body : List ℕ) → length b ≡ 512 → ((i : ℕ) → get_or b i 0 < 256) → length body ≡ 508 → same (take 508 b) body && check_right b ≡ same b (sealed body)
unfolding sealed check_right
sealed_test b body h y l =
    let f : same (part 508 4 b) (bytes_of 4 (house_check body)) ≡ eqb (num 508 4 b) (house_check body) = field_test b y 508 4 (house_check body) (omega arith) (house_below body) in
    let s : same (part 0 512 b) (body ++ bytes_of 4 (house_check body)) ≡ same (part 0 508 b) body && eqb (num 508 4 b) (house_check body) =
    front_test b body (bytes_of 4 (house_check body)) 0 508 4 l (omega arith) refl f in
    let w : part 0 512 b ≡ b = take_all 512 b (omega arith) in
    under (same (take 508 b) body) (eqb (house_check (take 508 b)) (num 508 4 b)) (eqb (num 508 4 b) (house_check body))
    (λ e. ap (λ (x : List ℕ). eqb (house_check x) (num 508 4 b)) (same-eq (take 508 b) body e) ∙ eqb_turn (house_check body) (num 508 4 b))
    ∙ sym (rw w at s)
