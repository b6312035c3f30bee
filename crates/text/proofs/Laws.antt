-- What each writer and each test comes to, and what each loop does in a turn. Assumes nothing.
use mathlib.Core.Path.{◌≡◌, refl, sym, ap, ◌∙◌}
use mathlib.Core.Bool.{Bool, true, false, ◌&&◌, ◌||◌, not, cond}
use mathlib.Core.List.{List, [], ◌∷◌, ◌++◌}
use Prim.Native.Nat.{ℕ, suc, ◌+◌, ◌-◌, ◌/◌, ◌%◌, ◌≤◌, ◌<◌}
use native.Mathlib.Omega.{arith}
use lib.Dec.{eqb}
use lib.ListN.{length, take, drop, get_or, set, replicate, length-drop, length-replicate, drop_of_length-le}
use lib.Seq.{take_all, drop-drop}
use borrow.Author.Tests.{eq-eqb, ne_eqb}
use borrow.Rule.Slice.PartMut.{put_mid}
use Rattle.std.specs.Prelude.{nat_eq}
use Rattle.std.specs.List.{list_any, position_or_len}
use Rattle.std.proofs.lemmas.List.Sums.{position_or_len_is}
use Rattle.std.specs.Cmp.Lexicographic.{pointwise}
use Rattle.protocol.specs.Bytes.{if, same, holds, up_to, cut_at, zeros, hex_digit, hex, spliced}
use Rattle.protocol.specs.Answers.{escaped_byte, escaped}
use Rattle.protocol.specs.Written.{Room, Wrote}
use Rattle.protocol.proofs.Laws.{drop-step, one_test, same-eq, same_refl}
use Rattle.text.specs.First.{FirstAt}
use Rattle.protocol.proofs.Sizes.{length-spliced}
use Rattle.text.proofs.Splice.{Left, left_room, left_put, left_byte, left_lt, left_done}

-- a part `out[at..to]` that is written over
pub part_wrote : (d t : List ℕ) (at n : ℕ) → at + n ≤ length d → length t ≡ n → Wrote d at (put_mid at (at + n - at) d t) (at + n) t
unfolding spliced
part_wrote d t at n h l =
    let k : at + n - at ≡ length t = omega arith in
    let m : at + n ≡ at + length t = omega arith in
    let e : put_mid at (at + n - at) d t ≡ spliced d at t = rw k (ap (λ (r : List ℕ). take at d ++ (t ++ r)) (drop-drop (length t) at d)) in
    record { holds = e; moves = m; room = h; same = ap length e ∙ length-spliced d at t (omega arith) }

pub zeros_wrote : (d t : List ℕ) (at n k : ℕ) → at + length (zeros n) ≤ length d → t ≡ replicate k 0 → k ≡ n → Wrote d at (put_mid at (at + n - at) d t) (at + n) (zeros n)
zeros_wrote d t at n k h e q =
    let l : length (zeros n) ≡ n = length-replicate {A = ℕ} n 0 in
    rw (e, q) (part_wrote d (zeros n) at n (omega arith) l)

-- the loop of `put_bytes`
module _ (d s e : List ℕ) (at to i : ℕ) (l : Left d at s e to (drop i s)) where
  pub copy_room : i < length s → to < length e
  copy_room h = left_lt l (omega (arith, length-drop i s))

  pub copy_turn : i < length s → Left d at s (set e to (get_or s i 0)) (to + 1) (drop (i + 1) s)
  copy_turn h = left_byte (drop (i + 1) s) l (drop-step s i h)

  pub copy_done : length s ≤ i → Wrote d at e to s
  copy_done h = left_done (rw (drop_of_length-le s h) at l)

-- one byte escaped
module _ (b k : ℕ) (d t : List ℕ) (at : ℕ) (p : b ≡ k) (q : escaped_byte k ≡ t) where
  pub escaped_has : Room d at (escaped_byte b) → Room d at t
  escaped_has r = rw (ap escaped_byte p ∙ q) at r

  pub escaped_as : (e : List ℕ) (to : ℕ) → Wrote d at e to t → Wrote d at e to (escaped_byte b)
  escaped_as e to w = rw (ap escaped_byte p ∙ q) w

module _ (b : ℕ) (n₁ : b ≡ 38 → ⊥) (n₂ : b ≡ 60 → ⊥) (n₃ : b ≡ 62 → ⊥) (n₄ : b ≡ 34 → ⊥) (n₅ : b ≡ 39 → ⊥) where
  plain : escaped_byte b ≡ b ∷ []
  unfolding escaped_byte
  plain = simp (ne_eqb b 38 n₁, ne_eqb b 60 n₂, ne_eqb b 62 n₃, ne_eqb b 34 n₄, ne_eqb b 39 n₅)

  pub plain_room : (d : List ℕ) (at : ℕ) → Room d at (escaped_byte b) → Room d at (b ∷ [])
  plain_room d at r = rw plain at r

  pub plain_wrote : (d e : List ℕ) (at to : ℕ) → Wrote d at e to (b ∷ []) → Wrote d at e to (escaped_byte b)
  plain_wrote d e at to w = rw plain w

-- the loop of `put_escaped`
module _ (d s e : List ℕ) (at to i : ℕ) (l : Left d at (escaped s) e to (escaped (drop i s))) where
  escaped-step : i < length s → escaped (drop i s) ≡ escaped_byte (get_or s i 0) ++ escaped (drop (i + 1) s)
  unfolding escaped
  escaped-step h = ap escaped (drop-step s i h)

  pub escaped_room : i < length s → Room e to (escaped_byte (get_or s i 0))
  escaped_room h = record { fits = left_room (escaped_byte (get_or s i 0)) (escaped (drop (i + 1) s)) l (escaped-step h) }

  pub escaped_turn : (f : List ℕ) (next : ℕ) → i < length s → Wrote e to f next (escaped_byte (get_or s i 0)) → Left d at (escaped s) f next (escaped (drop (i + 1) s))
  escaped_turn f next h w = left_put _ l (escaped-step h) w

  pub escaped_done : length s ≤ i → Wrote d at e to (escaped s)
  unfolding escaped
  escaped_done h = left_done (rw (drop_of_length-le s h) at l)

-- the loop of `put_hex`
module _ (d s e : List ℕ) (at to i x y : ℕ) (l : Left d at (hex s) e to (hex (drop i s))) (p : x ≡ hex_digit (get_or s i 0 / 16)) (q : y ≡ hex_digit (get_or s i 0 % 16)) where
  hex-step : i < length s → hex (drop i s) ≡ (x ∷ y ∷ []) ++ hex (drop (i + 1) s)
  unfolding hex
  hex-step h = rw (p, q) (ap hex (drop-step s i h))

  pub hex_room : i < length s → Room e to (x ∷ y ∷ [])
  hex_room h = record { fits = left_room (x ∷ y ∷ []) (hex (drop (i + 1) s)) l (hex-step h) }

  pub hex_turn : (f : List ℕ) (next : ℕ) → i < length s → Wrote e to f next (x ∷ y ∷ []) → Left d at (hex s) f next (hex (drop (i + 1) s))
  hex_turn f next h w = left_put _ l (hex-step h) w

pub hex_done : (d s e : List ℕ) (at to i : ℕ) → Left d at (hex s) e to (hex (drop i s)) → length s ≤ i → Wrote d at e to (hex s)
unfolding hex
hex_done d s e at to i l h = left_done (rw (drop_of_length-le s h) at l)

-- texts of two lengths are not the same
pub lengths_differ : (a b : List ℕ) → (length a ≡ length b → ⊥) → false ≡ same a b
unfolding same
lengths_differ [] [] h = absurd (h refl)
lengths_differ [] (y ∷ b) h = refl
lengths_differ (x ∷ a) [] h = refl
lengths_differ (x ∷ a) (y ∷ b) h = lengths_differ_tail (eqb x y) (lengths_differ a b (λ e. h (ap suc e)))
  where
    lengths_differ_tail : (t : Bool) → false ≡ same a b → false ≡ t && same a b
    lengths_differ_tail true e = e
    lengths_differ_tail false e = refl

-- `==` is it
pub same_pointwise : (a b : List ℕ) → pointwise nat_eq a b ≡ same a b
unfolding same
same_pointwise [] [] = refl
same_pointwise [] (y ∷ b) = refl
same_pointwise (x ∷ a) [] = refl
same_pointwise (x ∷ a) (y ∷ b) = ap (λ (t : Bool). eqb x y && t) (same_pointwise a b)

-- two texts are the same either way
pub same_either : (a b : List ℕ) → same a b ≡ same b a
same_either a b = one_test (same a b) (same b a) (turned a b) (turned b a)
  where
    turned : (x y : List ℕ) → same x y ≡ true → same y x ≡ true
    turned x y e = let q : x ≡ y = same-eq x y e in rw q (same_refl y)

-- and so `==` is it the other way round
pub same_turned : (a b : List ℕ) → pointwise nat_eq a b ≡ same b a
same_turned a b = same_pointwise a b ∙ same_either a b

-- what stands from a place on, as `&text[at..]` has it
pub tail_part : (s : List ℕ) (at : ℕ) → take (length s - at) (drop at s) ≡ drop at s
tail_part s at = take_all (length s - at) (drop at s) (omega (arith, length-drop at s))

-- the first place of a byte, as `position` counts it
up_to_position : (b : ℕ) (s : List ℕ) → length (up_to b s) ≡ position_or_len (λ x. nat_eq x b) s
unfolding up_to
up_to_position b [] = refl
up_to_position b (x ∷ s) = elim (eqb x b) as (λ t. length (cut_at t x (up_to b s)) ≡ cond (not t) (1 + (position_or_len (λ y. nat_eq y b) s)) 0) [ true ↦ refl | false ↦ omega (arith, up_to_position b s) ]

pub first_place : (b : ℕ) (s : List ℕ) (r : ℕ) → r ≤ length s → (r < length s → get_or s r 0 ≡ b) → ((k : ℕ) → k < r → get_or s k 0 ≡ b → ⊥) → FirstAt b s r
first_place b s r h found before =
    let p = position_or_len_is (λ x. nat_eq x b) s r 0 h (λ k l. ne_eqb (get_or s k 0) b (before k l)) (λ l. eq-eqb (get_or s r 0) b (found l)) in
    record { is = sym (up_to_position b s ∙ p); inside = h }

-- a byte stands in a text where one of its bytes is it
pub any_holds : (b : ℕ) (s : List ℕ) → list_any (λ y. nat_eq y b) s ≡ holds b s
unfolding holds
any_holds b [] = refl
any_holds b (x ∷ s) = elim (eqb x b) as (λ t. t || list_any (λ y. nat_eq y b) s ≡ if t true (holds b s)) [ true ↦ refl | false ↦ any_holds b s ]
