-- The judgement by ranges is the judgement by code points, for every list of numbers. By induction over the text: where a tail
-- is due, the bits so far are known, and of a byte that may follow every code point is right, of any other none. Assumes nothing.
use mathlib.Core.Path.{◌≡◌, refl, sym, ap, ◌∙◌}
use mathlib.Core.Bool.{Bool, true, false, ◌&&◌}
use mathlib.Core.List.{List, [], ◌∷◌}
use Prim.Native.Nat.{ℕ, zero, suc, ◌+◌, ◌-◌, ◌*◌, ◌/◌, ◌%◌, ◌≤◌, ◌<◌}
use native.Mathlib.Omega.{arith}
use lib.Dec.{eqb, leb, ltb}
use borrow.Author.Tests.{ltb-true, ltb-false, leb-true, leb-false, eqb-true, lt-ltb, le-ltb, le-leb, lt-leb, eq-eqb, ne_eqb}
use Rattle.protocol.specs.Bytes.{if, within}
use Rattle.protocol.specs.Utf8.{no_point, announced, with_tails, not_below, point_at, points_from, points, point_right, points_right, name_right}
use Rattle.protocol.proofs.Laws.{both}
use Rattle.utf8.proofs.Laws.{judged_bad}
use Rattle.utf8.specs.Machine.{begun, plain, tailed, judged_from}
use Rattle.utf8.specs.declared.Next.{Next}
use Rattle.utf8.specs.declared.Next.TheVariants.{Start, Tail, Bad}

-- a code point by its place: right below the surrogates and above them, else wrong
module _ (least p : ℕ) where
  right_low : least ≤ p → 128 ≤ p → p < 0xD800 → point_right (not_below least p) ≡ true
  unfolding point_right not_below
  right_low l h k =
      rw (le-leb least p l, le-leb 32 p (omega arith), ne_eqb p 127 (omega arith), lt-leb 0xD800 p k, le-leb p 0x10FFFF (omega arith))

  right_high : least ≤ p → 0xE000 ≤ p → p < 0x110000 → point_right (not_below least p) ≡ true
  unfolding point_right not_below
  right_high l h k =
      rw (le-leb least p l, le-leb 32 p (omega arith), ne_eqb p 127 (omega arith), le-leb 0xD800 p (omega arith), lt-leb p 0xDFFF h, le-leb p 0x10FFFF (omega arith))

  wrong_short : p < least → point_right (not_below least p) ≡ false
  unfolding point_right not_below no_point
  wrong_short h = rw (lt-leb least p h)

  wrong_surrogate : least ≤ p → 0xD800 ≤ p → p < 0xE000 → point_right (not_below least p) ≡ false
  unfolding point_right not_below
  wrong_surrogate l h k =
      rw (le-leb least p l, le-leb 32 p (omega arith), ne_eqb p 127 (omega arith), le-leb 0xD800 p h, le-leb p 0xDFFF (omega arith))

  wrong_high : least ≤ p → 0x110000 ≤ p → point_right (not_below least p) ≡ false
  unfolding point_right not_below
  wrong_high l h =
      rw (le-leb least p l, le-leb 32 p (omega arith), ne_eqb p 127 (omega arith), le-leb 0xD800 p (omega arith), lt-leb p 0xDFFF (omega arith), lt-leb p 0x10FFFF h)

wrong_none : (least : ℕ) → point_right (not_below least no_point) ≡ false
unfolding not_below point_right no_point
wrong_none least = go (leb least 0x110000)
  where
    go : (t : Bool) → point_right (if t 0x110000 0x110000) ≡ false
    go true = refl
    go false = refl

-- whatever k tails follow the bits v, the code point is right, or none is
abbrev All : Bool → ℕ → ℕ → ℕ → Type 0
All t least zero v = point_right (not_below least v) ≡ t
All t least (suc k) v = (x : ℕ) → x < 64 → All t least k (v * 64 + x)

-- a byte is a tail, or it is not
module _ {A : Type 0} (b : ℕ) (x y : A) where
  tail_if : (P : A → Type 0) → (b ≡ 128 + b % 64 → P x) → P y → P (if (eqb (b / 64) 0b10) x y)
  tail_if P is isnt = go (eqb (b / 64) 2) refl
    where
      go : (t : Bool) → eqb (b / 64) 2 ≡ t → P (if t x y)
      go true e = is (let h : b / 64 ≡ 2 = eqb-true (b / 64) 2 e in omega arith)
      go false e = isnt

wrong_tails : (least k v : ℕ) (s : List ℕ) → All false least k v → point_right (not_below least (with_tails k v s)) ≡ false
unfolding with_tails
wrong_tails least zero v s h = h
wrong_tails least (suc k) v [] h = wrong_none least
wrong_tails least (suc k) v (b ∷ s) h =
    let next = wrong_tails least k (v * 64 + b % 64) s (h (b % 64) (omega arith)) in
    tail_if b (with_tails k (v * 64 + b % 64) s) no_point (λ (p : ℕ). point_right (not_below least p) ≡ false) (λ e. next) (wrong_none least)

-- what lo, hi and more say where the bits so far are v
record Range (lo hi more least v : ℕ) : Type 0 where
  low : 128 ≤ lo
  high : hi < 192
  inside : (x : ℕ) → lo ≤ 128 + x → 128 + x ≤ hi → All true least more (v * 64 + x)
  below : (x : ℕ) → 128 + x < lo → All false least more (v * 64 + x)
  above : (x : ℕ) → x < 64 → hi < 128 + x → All false least more (v * 64 + x)

-- what is still to judge where k tails are due behind the bits v
abbrev due : ℕ → ℕ → ℕ → List ℕ → Bool
due least k v s = point_right (not_below least (with_tails k v s)) && points_right (points_from k s)

-- the join, of one rest of the text
record Joined (s : List ℕ) : Type 0 where
  start : judged_from Start s ≡ points_right (points_from 0 s)
  tails : (lo hi more least v : ℕ) → Range lo hi more least v → judged_from (Tail lo hi more) s ≡ due least (suc more) v s

-- a number by a test
module _ {A : Type 0} where
  split : (b t : ℕ) → (b < t → A) → (t ≤ b → A) → A
  split b t f g = go (ltb b t) refl
    where
      go : (z : Bool) → ltb b t ≡ z → A
      go true e = f (ltb-true b t e)
      go false e = g (ltb-false b t e)

  outside : (lo hi b : ℕ) → within lo hi b ≡ false → (b < lo → A) → (hi < b → A) → A
  outside lo hi b e f g = split b lo f (λ h. g (leb-false b hi (rw (le-leb lo b h) at e)))

-- plain tails: every byte of the form 10xxxxxx may follow
plain-suc : (k : ℕ) → plain (suc k) ≡ Tail 0x80 0xBF k
plain-suc k = let e : suc k - 1 ≡ k = omega arith in rw (ne_eqb (suc k) 0 (omega arith), e)

plain_range : (least k v : ℕ) → All true least (suc k) v → Range 0x80 0xBF k least v
plain_range least k v a =
    record {
      low = omega arith;
      high = omega arith;
      inside = λ x l h. a x (omega arith);
      below = λ x h. absurd (omega arith);
      above = λ x l h. absurd (omega arith);
    }

-- the join where a tail is due
module _ (b : ℕ) (s : List ℕ) (j : Joined s) (lo hi more least v : ℕ) (r : Range lo hi more least v) where
  -- the bits with this tail's
  abbrev w : ℕ
  w = v * 64 + b % 64

  plain-next : (k : ℕ) → All true least k w → judged_from (plain k) s ≡ due least k w s
  unfolding with_tails
  plain-next zero a = rw a j.start
  plain-next (suc k) a = ap (λ (n : Next). judged_from n s) (plain-suc k) ∙ j.tails 0x80 0xBF k least w (plain_range least k w a)

  tail_in : lo ≤ b → b ≤ hi → judged_from (plain more) s ≡ due least (suc more) v (b ∷ s)
  unfolding with_tails points_from
  tail_in l h =
      let e : b / 64 ≡ 2 = omega arith in
      let x : b ≡ 128 + b % 64 = omega arith in
      rw (eq-eqb (b / 64) 2 e) (plain-next more (r.inside (b % 64) (omega arith) (omega arith)))

  tail_out : within lo hi b ≡ false → point_right (not_below least (with_tails (suc more) v (b ∷ s))) ≡ false
  unfolding with_tails
  tail_out e =
      tail_if b (with_tails more w s) no_point (λ (p : ℕ). point_right (not_below least p) ≡ false)
      (λ x. wrong_tails least more w s (outside lo hi b e (λ h. r.below (b % 64) (omega arith)) (λ h. r.above (b % 64) (omega arith) (omega arith))))
      (wrong_none least)

  tail_step : judged_from (tailed lo hi more b) s ≡ due least (suc more) v (b ∷ s)
  unfolding tailed
  tail_step = go (within lo hi b) refl
    where
      go : (t : Bool) → within lo hi b ≡ t → judged_from (if t (plain more) Bad) s ≡ due least (suc more) v (b ∷ s)
      go true e = let p = both (leb lo b) (leb b hi) e in tail_in (leb-true lo b p.0) (leb-true b hi p.1)
      go false e = judged_bad s ∙ rw (tail_out e)

-- the join at a first byte
module _ (b : ℕ) (s : List ℕ) (j : Joined s) where
  abbrev whole : Bool
  whole = points_right (points_from 0 (b ∷ s))

  -- what is to judge, by what the byte announces
  one : b < 128 → whole ≡ point_right b && points_right (points_from 0 s)
  unfolding points_from point_at announced points_right
  one h = rw (eq-eqb (b / 128) 0 (omega arith))

  two : 192 ≤ b → b < 224 → whole ≡ due 0x80 1 (b % 32) s
  unfolding points_from point_at announced points_right
  two l h = rw (ne_eqb (b / 128) 0 (omega arith), eq-eqb (b / 32) 6 (omega arith))

  three : 224 ≤ b → b < 240 → whole ≡ due 0x800 2 (b % 16) s
  unfolding points_from point_at announced points_right
  three l h = rw (ne_eqb (b / 128) 0 (omega arith), ne_eqb (b / 32) 6 (omega arith), eq-eqb (b / 16) 14 (omega arith))

  four : 240 ≤ b → b < 248 → whole ≡ due 0x10000 3 (b % 8) s
  unfolding points_from point_at announced points_right
  four l h = rw (ne_eqb (b / 128) 0 (omega arith), ne_eqb (b / 32) 6 (omega arith), ne_eqb (b / 16) 14 (omega arith), eq-eqb (b / 8) 30 (omega arith))

  none : (b / 128 ≡ 0 → ⊥) → (b / 32 ≡ 6 → ⊥) → (b / 16 ≡ 14 → ⊥) → (b / 8 ≡ 30 → ⊥) → whole ≡ false
  unfolding points_from point_at announced points_right point_right no_point
  none e f g h = rw (ne_eqb (b / 128) 0 e, ne_eqb (b / 32) 6 f, ne_eqb (b / 16) 14 g, ne_eqb (b / 8) 30 h)

  bad : whole ≡ false → judged_from Bad s ≡ whole
  bad e = judged_bad s ∙ sym e

  rung : (t : ℕ) (x rest : Next) → (b < t → judged_from x s ≡ whole) → (t ≤ b → judged_from rest s ≡ whole) → judged_from (if (ltb b t) x rest) s ≡ whole
  rung t x rest f g = split b t (λ h. rw (lt-ltb b t h) (f h)) (λ h. rw (le-ltb b t h) (g h))

  control : b < 0x20 → whole ≡ false
  unfolding point_right
  control h = one (omega arith) ∙ rw (lt-leb 32 b h)

  ascii : 0x20 ≤ b → b < 0x7F → judged_from Start s ≡ whole
  unfolding point_right
  ascii l h =
      let e : point_right b ≡ true = rw (le-leb 32 b l, ne_eqb b 127 (omega arith), lt-leb 0xD800 b (omega arith), le-leb b 0x10FFFF (omega arith)) in
      j.start ∙ sym (one (omega arith) ∙ rw e)

  delete : b ≡ 127 → whole ≡ false
  unfolding point_right
  delete e = one (omega arith) ∙ rw e

  overlong_two : 192 ≤ b → b < 0xC2 → whole ≡ false
  overlong_two l h = two l (omega arith) ∙ rw (wrong_tails 0x80 1 (b % 32) s (λ x k. wrong_short 0x80 (b % 32 * 64 + x) (omega arith)))

  beyond : 0xF5 ≤ b → b < 248 → whole ≡ false
  beyond l h =
      four (omega arith) h
      ∙ rw (wrong_tails 0x10000 3 (b % 8) s (λ x k y m z n. wrong_high 0x10000 (((b % 8 * 64 + x) * 64 + y) * 64 + z) (omega arith) (omega arith)))

  -- two bytes, three and four: what may follow each first byte
  from_two : 0xC2 ≤ b → b < 0xE0 → judged_from (Tail 0x80 0xBF 0) s ≡ whole
  from_two l h =
      j.tails 0x80 0xBF 0 0x80 (b % 32) (plain_range 0x80 0 (b % 32) (λ x k. right_low 0x80 (b % 32 * 64 + x) (omega arith) (omega arith) (omega arith)))
      ∙ sym (two (omega arith) h)

  from_three : (lo hi : ℕ) → 0xE0 ≤ b → b < 0xF0 → Range lo hi 1 0x800 (b % 16) → judged_from (Tail lo hi 1) s ≡ whole
  from_three lo hi l h r = j.tails lo hi 1 0x800 (b % 16) r ∙ sym (three l h)

  from_four : (lo hi : ℕ) → 0xF0 ≤ b → b < 0xF5 → Range lo hi 2 0x10000 (b % 8) → judged_from (Tail lo hi 2) s ≡ whole
  from_four lo hi l h r = j.tails lo hi 2 0x10000 (b % 8) r ∙ sym (four l (omega arith))

  -- a code point of three bytes, and of four, by its bits
  abbrev p3 : ℕ → ℕ → ℕ
  p3 x y = (b % 16 * 64 + x) * 64 + y

  abbrev p4 : ℕ → ℕ → ℕ → ℕ
  p4 x y z = ((b % 8 * 64 + x) * 64 + y) * 64 + z

  after_E0 : 0xE0 ≤ b → b < 0xE1 → Range 0xA0 0xBF 1 0x800 (b % 16)
  after_E0 l h =
      record {
        low = omega arith;
        high = omega arith;
        inside = λ x f g y k. right_low 0x800 (p3 x y) (omega arith) (omega arith) (omega arith);
        below = λ x f y k. wrong_short 0x800 (p3 x y) (omega arith);
        above = λ x k f. absurd (omega arith);
      }

  after_E1 : 0xE1 ≤ b → b < 0xED → Range 0x80 0xBF 1 0x800 (b % 16)
  after_E1 l h = plain_range 0x800 1 (b % 16) (λ x k y m. right_low 0x800 (p3 x y) (omega arith) (omega arith) (omega arith))

  after_ED : 0xED ≤ b → b < 0xEE → Range 0x80 0x9F 1 0x800 (b % 16)
  after_ED l h =
      record {
        low = omega arith;
        high = omega arith;
        inside = λ x f g y k. right_low 0x800 (p3 x y) (omega arith) (omega arith) (omega arith);
        below = λ x f. absurd (omega arith);
        above = λ x k f y m. wrong_surrogate 0x800 (p3 x y) (omega arith) (omega arith) (omega arith);
      }

  after_EE : 0xEE ≤ b → b < 0xF0 → Range 0x80 0xBF 1 0x800 (b % 16)
  after_EE l h = plain_range 0x800 1 (b % 16) (λ x k y m. right_high 0x800 (p3 x y) (omega arith) (omega arith) (omega arith))

  after_F0 : 0xF0 ≤ b → b < 0xF1 → Range 0x90 0xBF 2 0x10000 (b % 8)
  after_F0 l h =
      record {
        low = omega arith;
        high = omega arith;
        inside = λ x f g y k z m. right_high 0x10000 (p4 x y z) (omega arith) (omega arith) (omega arith);
        below = λ x f y k z m. wrong_short 0x10000 (p4 x y z) (omega arith);
        above = λ x k f. absurd (omega arith);
      }

  after_F1 : 0xF1 ≤ b → b < 0xF4 → Range 0x80 0xBF 2 0x10000 (b % 8)
  after_F1 l h = plain_range 0x10000 2 (b % 8) (λ x k y m z n. right_high 0x10000 (p4 x y z) (omega arith) (omega arith) (omega arith))

  after_F4 : 0xF4 ≤ b → b < 0xF5 → Range 0x80 0x8F 2 0x10000 (b % 8)
  after_F4 l h =
      record {
        low = omega arith;
        high = omega arith;
        inside = λ x f g y k z m. right_high 0x10000 (p4 x y z) (omega arith) (omega arith) (omega arith);
        below = λ x f. absurd (omega arith);
        above = λ x k f y m z n. wrong_high 0x10000 (p4 x y z) (omega arith) (omega arith);
      }

  first_step : judged_from (begun b) s ≡ whole
  unfolding begun
  first_step =
      rung 0x20 Bad _ (λ h. bad (control h)) (λ a.
      rung 0x7F Start _ (λ h. ascii a h) (λ a.
      rung 0xC2 Bad _ (λ h. bad (split b 128 (λ k. delete (omega arith)) (λ k. split b 192 (λ m. none (omega arith) (omega arith) (omega arith) (omega arith)) (λ m. overlong_two m h)))) (λ a.
      rung 0xE0 (Tail 0x80 0xBF 0) _ (λ h. from_two a h) (λ a.
      rung 0xE1 (Tail 0xA0 0xBF 1) _ (λ h. from_three 0xA0 0xBF a (omega arith) (after_E0 a h)) (λ a.
      rung 0xED (Tail 0x80 0xBF 1) _ (λ h. from_three 0x80 0xBF (omega arith) (omega arith) (after_E1 a h)) (λ a.
      rung 0xEE (Tail 0x80 0x9F 1) _ (λ h. from_three 0x80 0x9F (omega arith) (omega arith) (after_ED a h)) (λ a.
      rung 0xF0 (Tail 0x80 0xBF 1) _ (λ h. from_three 0x80 0xBF (omega arith) h (after_EE a h)) (λ a.
      rung 0xF1 (Tail 0x90 0xBF 2) _ (λ h. from_four 0x90 0xBF a (omega arith) (after_F0 a h)) (λ a.
      rung 0xF4 (Tail 0x80 0xBF 2) _ (λ h. from_four 0x80 0xBF (omega arith) (omega arith) (after_F1 a h)) (λ a.
      rung 0xF5 (Tail 0x80 0x8F 2) Bad (λ h. from_four 0x80 0x8F (omega arith) h (after_F4 a h)) (λ a.
      bad (split b 248 (λ k. beyond a k) (λ k. none (omega arith) (omega arith) (omega arith) (omega arith))))))))))))))

joined : (s : List ℕ) → Joined s
unfolding judged_from points_from points_right with_tails
joined [] = record { start = refl; tails = λ lo hi more least v r. rw (wrong_none least) }
joined (b ∷ s) = let j = joined s in record { start = first_step b s j; tails = λ lo hi more least v r. tail_step b s j lo hi more least v r }

-- from the start, the ranges judge as the code points do
pub judged_name_lem : (s : List ℕ) → judged_from Start s ≡ name_right s
unfolding name_right points
judged_name_lem s = (joined s).start
