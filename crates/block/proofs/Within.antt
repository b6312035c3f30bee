-- Bytes tested one after the other, with no early end. Assumes nothing.
use mathlib.Core.Path.{◌≡◌, refl, sym, ap, ◌∙◌}
use mathlib.Core.Bool.{Bool, true, false, ◌&&◌}
use mathlib.Core.List.{List}
use Prim.Native.Nat.{ℕ, ◌+◌, ◌<◌, ◌≤◌}
use native.Mathlib.Omega.{arith}
use native.Mathlib.Numerals.{add-one}
use lib.Dec.{leb}
use lib.ListN.{length, drop, get_or, drop_of_length-le}
use lib.Seq.{drop-cons}
use Rattle.protocol.specs.Bytes.{within, all_within}

-- what was found of the bytes before i, and the test of what is left, are that of the whole
pub record Passed (lo hi : ℕ) (s : List ℕ) (good : Bool) (i : ℕ) : Type 0 where
  pub high : i ≤ length s
  pub rest : good && all_within lo hi (drop i s) ≡ all_within lo hi s

regroup : (a b c d : Bool) → ((a && b) && c) && d ≡ a && ((b && c) && d)
regroup true b c d = refl
regroup false b c d = refl

and-true : (a : Bool) → a ≡ a && true
and-true true = refl
and-true false = refl

module _ (lo hi : ℕ) (s : List ℕ) where
  pass_cut : (i : ℕ) → i < length s → all_within lo hi (drop i s) ≡ within lo hi (get_or s i 0) && all_within lo hi (drop (i + 1) s)
  unfolding all_within
  pass_cut i h = rw (add-one, drop-cons s i 0)

  pub pass_on : (good : Bool) (i : ℕ) → Passed lo hi s good i → i < length s → Passed lo hi s ((good && leb lo (get_or s i 0)) && leb (get_or s i 0) hi) (i + 1)
  pass_on good i p h = record {
    high = omega arith;
    rest = regroup good (leb lo (get_or s i 0)) (leb (get_or s i 0) hi) (all_within lo hi (drop (i + 1) s)) ∙ ap (λ r. good && r) (sym (pass_cut i h)) ∙ p.rest;
  }

  pub pass_all : (good : Bool) (i : ℕ) → Passed lo hi s good i → length s ≤ i → good ≡ all_within lo hi s
  unfolding all_within
  pass_all good i p h = and-true good ∙ (rw (drop_of_length-le s h) at p.rest)
