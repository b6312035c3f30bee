-- What is told of a change is enough, for tables of whole blocks:
--     told_gives_new      the told blocks laid over the old table give the new one
--     untold_as_before    a block that is not told is as it was
--     all_told            against no table at all every block is told: laid over any table, they give the new one
--     none_told           of a table that did not change nothing is told
-- Assumes nothing.
use mathlib.Core.Path.{◌≡◌, refl, sym, ap, ◌∙◌}
use mathlib.Core.Bool.{Bool, true, false}
use mathlib.Core.List.{List, [], ◌∷◌, ◌++◌, append_assoc, append-nil}
use Prim.Native.Nat.{ℕ, zero, suc, ◌+◌, ◌*◌, ◌/◌, ◌%◌, ◌≤◌, ◌<◌}
use native.Mathlib.Omega.{arith}
use lib.Dec.{eqb}
use lib.ListN.{length, take, drop, drop_of_length-le, take-append-drop}
use lib.Seq.{take-add, take_at, take_all, drop-nil, drop-drop, drop-append-add, length-take-le}
use borrow.Author.Tests.{eqb-true, eqb-false}
use Rattle.protocol.specs.Bytes.{if, same, part, spliced}
use Rattle.protocol.proofs.Laws.{same-eq, same_refl, part-long, or_both}
use Rattle.changed.specs.Changes.{change, block_at, change_at, changes_from, changes_of, laid, tells}

-- the new table up to a place, and from there on another one
up_to : ℕ → List ℕ → List ℕ → List ℕ
up_to a new t = take a new ++ drop a t

module _ (t new : List ℕ) (a : ℕ) (n : length t ≡ length new) (h : a + 512 ≤ length new) where
  -- a block more of the new one
  one_more : take a new ++ (take 512 (drop a new) ++ drop (a + 512) t) ≡ up_to (a + 512) new t
  unfolding up_to
  one_more = sym (append_assoc (take a new) (take 512 (drop a new)) (drop (a + 512) t)) ∙ ap (λ (l : List ℕ). l ++ drop (a + 512) t) (sym (take-add a 512 new))

  -- by laying it
  laid_more : spliced (up_to a new t) a (part a 512 new) ≡ up_to (a + 512) new t
  unfolding up_to spliced
  laid_more =
      let k : length (take a new) ≡ a = length-take-le a new (omega arith) in
      let b : length (part a 512 new) ≡ 512 = part-long a 512 new h in
      let j : a + length (part a 512 new) ≡ length (take a new) + 512 = omega arith in
      ap (λ (l : List ℕ). l ++ (part a 512 new ++ drop (a + length (part a 512 new)) (take a new ++ drop a t))) (take_at (take a new) (drop a t) a k)
      ∙ ap (λ (i : ℕ). take a new ++ (part a 512 new ++ drop i (take a new ++ drop a t))) j
      ∙ ap (λ (l : List ℕ). take a new ++ (part a 512 new ++ l)) (drop-append-add (take a new) (drop a t) 512 ∙ drop-drop 512 a t)
      ∙ one_more

  -- or since it is the same in both
  same_more : part a 512 t ≡ part a 512 new → up_to a new t ≡ up_to (a + 512) new t
  unfolding up_to
  same_more e =
      ap (λ (l : List ℕ). take a new ++ l) (sym (take-append-drop 512 (drop a t)))
      ∙ ap (λ (l : List ℕ). take a new ++ (l ++ drop 512 (drop a t))) e
      ∙ ap (λ (l : List ℕ). take a new ++ (take 512 (drop a new) ++ l)) (drop-drop 512 a t)
      ∙ one_more

-- changes laid over a table whose untold blocks are the new one's
module _ (t old new : List ℕ) (n : length t ≡ length new) (agrees : (j : ℕ) → 512 * j + 512 ≤ length new → same (block_at j old) (block_at j new) ≡ true → block_at j t ≡ block_at j new) where
  over_from : (m k : ℕ) → 512 * (k + m) ≡ length new → laid (up_to (512 * k) new t) (changes_from k m old new) ≡ new
  unfolding laid changes_from change_at up_to
  over_from zero k h =
      let l : length new ≤ 512 * k = omega arith in
      let l' : length t ≤ 512 * k = omega arith in
      rw (take_all (512 * k) new l, drop_of_length-le t l') (append-nil new)
  over_from (suc m) k h = by_test (same (block_at k old) (block_at k new)) refl (over_from m (k + 1) (omega arith))
    where
      inside : 512 * k + 512 ≤ length new
      inside = omega arith

      next : 512 * k + 512 ≡ 512 * (k + 1)
      next = omega arith

      by_test : (s : Bool) → same (block_at k old) (block_at k new) ≡ s → laid (up_to (512 * (k + 1)) new t) (changes_from (k + 1) m old new) ≡ new
          → laid (up_to (512 * k) new t) (if s [] (change k (block_at k new) ∷ []) ++ changes_from (k + 1) m old new) ≡ new
      by_test true e r =
          ap (λ (x : List ℕ). laid x (changes_from (k + 1) m old new)) (same_more t new (512 * k) n inside (agrees k inside e) ∙ ap (λ (a : ℕ). up_to a new t) next) ∙ r
      by_test false e r = ap (λ (x : List ℕ). laid x (changes_from (k + 1) m old new)) (laid_more t new (512 * k) n inside ∙ ap (λ (a : ℕ). up_to a new t) next) ∙ r

  over : length new % 512 ≡ 0 → laid t (changes_of old new) ≡ new
  unfolding changes_of up_to
  over h = over_from (length new / 512) 0 (omega arith)

pub told_gives_new : (old new : List ℕ) → length old ≡ length new → length new % 512 ≡ 0 → laid old (changes_of old new) ≡ new
told_gives_new old new n h = over old old new n (λ j i e. same-eq (block_at j old) (block_at j new) e) h

pub all_told : (t new : List ℕ) → length t ≡ length new → length new % 512 ≡ 0 → laid t (changes_of [] new) ≡ new
all_told t new n h = over t [] new n (λ j i e. absurd (none j i (same-eq (block_at j []) (block_at j new) e))) h
  where
    none : (j : ℕ) → 512 * j + 512 ≤ length new → block_at j [] ≡ block_at j new → ⊥
    none j i e =
        let z : block_at j [] ≡ [] = ap (take 512) (drop-nil (512 * j)) in
        omega (arith, part-long (512 * j) 512 new i, ap length (sym e ∙ z))

-- a block that is not told
module _ (old new : List ℕ) (j : ℕ) where
  untold_from : (m k : ℕ) → k ≤ j → j < k + m → tells j (changes_from k m old new) ≡ false → block_at j new ≡ block_at j old
  unfolding changes_from change_at tells
  untold_from zero k l h e = absurd (omega arith)
  untold_from (suc m) k l h e = by_test (same (block_at k old) (block_at k new)) (eqb k j) refl refl e (λ g. untold_from m (k + 1) g (omega arith))
    where
      beyond : eqb k j ≡ false → k + 1 ≤ j
      beyond q = let d : k ≡ j → ⊥ = eqb-false k j q in omega arith

      by_test : (s b : Bool) → same (block_at k old) (block_at k new) ≡ s → eqb k j ≡ b → tells j (if s [] (change k (block_at k new) ∷ []) ++ changes_from (k + 1) m old new) ≡ false
          → (k + 1 ≤ j → tells j (changes_from (k + 1) m old new) ≡ false → block_at j new ≡ block_at j old) → block_at j new ≡ block_at j old
      by_test true true p q e rest = let i : k ≡ j = eqb-true k j q in sym (rw i at (same-eq (block_at k old) (block_at k new) p))
      by_test true false p q e rest = rest (beyond q) e
      by_test false b p q e rest = let f = or_both (eqb k j) (tells j (changes_from (k + 1) m old new)) e in rest (beyond f.0) f.1

  pub untold_as_before : j < length new / 512 → tells j (changes_of old new) ≡ false → block_at j new ≡ block_at j old
  unfolding changes_of
  untold_as_before h e = untold_from (length new / 512) 0 (omega arith) (omega arith) e

-- nothing changed
none_from : (t : List ℕ) (m k : ℕ) → changes_from k m t t ≡ []
unfolding changes_from change_at
none_from t zero k = refl
none_from t (suc m) k = rw (same_refl (block_at k t)) (none_from t m (k + 1))

pub none_told : (t : List ℕ) → changes_of t t ≡ []
unfolding changes_of
none_told t = none_from t (length t / 512) 0
