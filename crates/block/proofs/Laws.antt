-- Fields read and written in place, over any width. Assumes nothing.
use mathlib.Core.Path.{◌≡◌, refl, sym, ap, ◌∙◌}
use mathlib.Core.List.{List, [], ◌∷◌, ◌++◌, append-nil}
use Prim.Native.Nat.{ℕ, zero, suc, ◌+◌, ◌-◌, ◌*◌, ◌/◌, ◌%◌, ◌^◌, ◌<◌, ◌≤◌}
use native.Mathlib.Nat.{pow-suc}
use native.Mathlib.Numerals.{add-one}
use native.Mathlib.Omega.{arith}
use lib.Dec.{lit<}
use lib.ListN.{length, take, drop, set, get_or, drop_of_length-le, length-append, length-replicate}
use lib.Seq.{drop-cons, sets, sets-eq, take_all}
use borrow.Rule.Slice.PartMut.{put_mid}
use Rattle.std.specs.Int.{w64, from_le_bytes}
use Rattle.std.proofs.lemmas.List.{drop-replicate}
use Rattle.protocol.specs.Bytes.{le_of, bytes_of, num, part, zeros, pad_to, spliced}
use Rattle.protocol.specs.Blocks.{house_check, sealed}
use Rattle.protocol.proofs.Laws.{length_bytes, part-long}
use Rattle.text.proofs.Splice.{splice_append}
use Rattle.text.proofs.Laws.{part_wrote}
use Rattle.block.proofs.Bytewise.{part_bytes}

-- one byte and the rest
num-suc : (k : ℕ) (s : List ℕ) (at : ℕ) → at < length s → num at (suc k) s ≡ get_or s at 0 + 256 * num (at + 1) k s
unfolding le_of
num-suc k s at h = rw (add-one, drop-cons s at 0)

-- the number that eight bytes spell, as the library reads it
eight : (s : List ℕ) → length s ≡ 8 → from_le_bytes w64 s ≡ le_of s
unfolding le_of
eight s h =
    let w : num 0 8 s ≡ le_of s = ap le_of (take_all 8 s (omega arith)) in
    omega (
      arith,
      w,
      num-suc 7 s 0 (omega arith),
      num-suc 6 s 1 (omega arith),
      num-suc 5 s 2 (omega arith),
      num-suc 4 s 3 (omega arith),
      num-suc 3 s 4 (omega arith),
      num-suc 2 s 5 (omega arith),
      num-suc 1 s 6 (omega arith),
      num-suc 0 s 7 (omega arith),
    )

-- zeros behind the bytes of a number leave it
then_zeros : (s : List ℕ) (k : ℕ) → le_of (s ++ zeros k) ≡ le_of s
unfolding le_of
then_zeros [] zero = refl
then_zeros [] (suc k) = rw (then_zeros [] k)
then_zeros (b ∷ s) k = rw (then_zeros s k)

-- bytes spell a number of their width
spelt_below : (s : List ℕ) → ((i : ℕ) → get_or s i 0 < 256) → le_of s < 256 ^ length s
unfolding le_of
spelt_below [] h = lit< tt
spelt_below (b ∷ s) h = let l : b < 256 = h 0 in omega (arith, pow-suc 256 (length s), l, spelt_below s (λ i. h (suc i)))

-- the reader: the field's bytes, and zeros behind them up to eight
module _ (s field : List ℕ) (at n v : ℕ) (h : at + n ≤ length s) (k : n ≤ 8) (e : field ≡ take (at + n - at) (drop at s)) (q : v ≡ from_le_bytes w64 (put_mid 0 n (zeros 8) field)) where
  its_bytes : field ≡ part at n s
  its_bytes = let m : at + n - at ≡ n = omega arith in rw m at e

  pub got_all : v ≡ num at n s
  got_all =
      let l : length field ≡ n = ap length its_bytes ∙ part-long at n s h in
      let z : put_mid 0 n (zeros 8) field ≡ field ++ zeros (8 - n) = rw (drop-replicate {X = ℕ} n 8 0) refl in
      let w : length (field ++ zeros (8 - n)) ≡ 8 = omega (arith, length-append field (zeros (8 - n)), length-replicate {A = ℕ} (8 - n) 0) in
      q ∙ ap (from_le_bytes w64) z ∙ eight (field ++ zeros (8 - n)) w ∙ then_zeros field (8 - n) ∙ ap le_of its_bytes

  pub got_below : ((i : ℕ) → get_or s i 0 < 256) → v < 256 ^ n
  got_below b = rw got_all (rw (part-long at n s h) at (spelt_below (part at n s) (part_bytes s b at n h)))

-- the writer: what stands in the field, with the bytes that are left to store, is the number's bytes
module _ (s : List ℕ) (at n v : ℕ) (h : at + n ≤ length s) where
  pub put_start : sets (take (at + n - at) (drop at s)) 0 (bytes_of (n - 0) v) ≡ bytes_of n v
  put_start =
      let m : at + n - at ≡ n = omega arith in
      let z : n - 0 ≡ n = omega arith in
      let l : length (part at n s) ≡ n = part-long at n s h in
      let b : length (bytes_of n v) ≡ n = length_bytes n v in
      rw (m, z) (sets-eq (bytes_of n v) (part at n s) 0 (omega arith) ∙ rw (drop_of_length-le (part at n s) {i = 0 + length (bytes_of n v)} (omega arith)) (append-nil (bytes_of n v)))

  pub put_more : (t : List ℕ) (i w : ℕ) → i < length (take (at + n - at) (drop at s)) → sets t i (bytes_of (n - i) w) ≡ bytes_of n v → sets (set t i (w % 256)) (i + 1) (bytes_of (n - (i + 1)) (w / 256)) ≡ bytes_of n v
  unfolding bytes_of
  put_more t i w k e =
      let m : at + n - at ≡ n = omega arith in
      let l : i < n = rw (m, part-long at n s h) at k in
      let a : n - i ≡ suc (n - suc i) = omega arith in
      rw add-one (rw a at e)

  pub put_done : (t : List ℕ) (i w : ℕ) → n ≤ i → sets t i (bytes_of (n - i) w) ≡ bytes_of n v → put_mid at (at + n - at) s t ≡ spliced s at (bytes_of n v)
  unfolding bytes_of
  put_done t i w k e =
      let z : n - i ≡ 0 = omega arith in
      let d : t ≡ bytes_of n v = rw z at e in
      rw d (part_wrote s (bytes_of n v) at n h (length_bytes n v)).holds

-- two texts written one after the other are one
pub spliced_twice : (s xs ys : List ℕ) (at n : ℕ) → at + length xs ≡ n → n ≤ length s → spliced (spliced s at xs) n ys ≡ spliced s at (xs ++ ys)
spliced_twice s xs ys at n e h = rw (sym e) (splice_append s xs ys at (omega arith))

-- a text, and zeros after it
pub padded : (s src : List ℕ) (at n : ℕ) {c d : List ℕ} → at + n ≤ length s → length src ≤ n → c ≡ spliced s at src → d ≡ spliced c (at + length src) (zeros (n - length src))
    → d ≡ spliced s at (pad_to n src)
padded s src at n h k e f = f ∙ rw e (spliced_twice s src (zeros (n - length src)) at (at + length src) refl (omega arith))

-- a block sealed in place
pub seal_done : (b : List ℕ) {c : List ℕ} {sum : ℕ} → length b ≡ 512 → sum ≡ house_check (take 508 b) → c ≡ spliced b 508 (bytes_of 4 sum) → c ≡ sealed (take 508 b)
unfolding spliced sealed
seal_done b {c} {sum} n e h =
    let k : 508 + length (bytes_of 4 sum) ≡ 512 = omega (arith, length_bytes 4 sum) in
    h ∙ rw (k, drop_of_length-le b {i = 512} (omega arith), append-nil (bytes_of 4 sum), e)
