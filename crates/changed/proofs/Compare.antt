-- Two texts compared byte after byte, with no early end: what was found so far, and the comparison of what is left, are that of the
-- whole. Assumes nothing.
use mathlib.Core.Path.{◌≡◌, refl, sym, ◌∙◌}
use mathlib.Core.Bool.{Bool, true, false, ◌&&◌}
use mathlib.Core.List.{List, [], ◌∷◌}
use Prim.Native.Nat.{ℕ}
use lib.Dec.{eqb}
use Rattle.protocol.specs.Bytes.{same}
use Rattle.protocol.proofs.Laws.{and_assoc}

and-true : (x : Bool) → x ≡ x && true
and-true true = refl
and-true false = refl

module _ (good whole : Bool) (xs ys : List ℕ) (left : good && same xs ys ≡ whole) where
  pub agree_next : (x y : ℕ) (rest others : List ℕ) → xs ≡ x ∷ rest → ys ≡ y ∷ others → (good && eqb x y) && same rest others ≡ whole
  unfolding same
  agree_next x y rest others e f = let l : good && (eqb x y && same rest others) ≡ whole = rw (e, f) at left in sym (and_assoc good (eqb x y) (same rest others)) ∙ l

  pub agree_all : xs ≡ [] → ys ≡ [] → good ≡ whole
  unfolding same
  agree_all e f = let l : good && true ≡ whole = rw (e, f) at left in and-true good ∙ l
