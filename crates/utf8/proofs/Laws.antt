-- What each test of the code tells, and the judgement a byte at a time, for every loop that makes it. Assumes nothing.
use mathlib.Core.Path.{◌≡◌, refl, sym, ap, ◌∙◌}
use mathlib.Core.Bool.{Bool, true, false}
use mathlib.Core.List.{List, [], ◌∷◌}
use Prim.Native.Nat.{ℕ, ◌+◌, ◌-◌, ◌≤◌, ◌<◌}
use lib.Dec.{ltb}
use lib.ListN.{length, drop, get_or, drop_of_length-le}
use borrow.Author.Tests.{lt-ltb, le-ltb, eq-eqb, ne_eqb}
use Rattle.protocol.specs.Bytes.{if, within}
use Rattle.protocol.proofs.Laws.{drop-step}
use Rattle.utf8.specs.Machine.{tailed, followed, is_start, judged_from}
use Rattle.utf8.specs.declared.Next.{Next}
use Rattle.utf8.specs.declared.Next.TheVariants.{Start, Tail, Bad}

-- a rung of the ladder of first bytes
module _ (b t : ℕ) (x rest : Next) where
  pub rung_yes : b < t → x ≡ if (ltb b t) x rest
  rung_yes h = rw (lt-ltb b t h)

  pub rung_no : (y : Next) → t ≤ b → y ≡ rest → y ≡ if (ltb b t) x rest
  rung_no y h e = rw (le-ltb b t h) e

-- a tail
module _ (lo hi more b : ℕ) where
  pub tail_last : within lo hi b ≡ true → more ≡ 0 → Start ≡ tailed lo hi more b
  unfolding tailed
  tail_last e z = rw (e, eq-eqb more 0 z)

  pub tail_more : within lo hi b ≡ true → (more ≡ 0 → ⊥) → Tail 0x80 0xBF (more - 1) ≡ tailed lo hi more b
  unfolding tailed
  tail_more e n = rw (e, ne_eqb more 0 n)

  pub tail_bad : within lo hi b ≡ false → Bad ≡ tailed lo hi more b
  unfolding tailed
  tail_bad e = rw e

-- what a state says of the rest: a byte more, the end, and nothing after what is bad
pub judged-step : (state : Next) (b : ℕ) (s : List ℕ) → judged_from state (b ∷ s) ≡ judged_from (followed state b) s
unfolding judged_from
judged-step state b s = refl

pub judged_end : (state : Next) → judged_from state [] ≡ is_start state
unfolding judged_from
judged_end state = refl

pub judged_bad : (s : List ℕ) → judged_from Bad s ≡ false
judged_bad [] = judged_end Bad
judged_bad (b ∷ s) = judged-step Bad b s ∙ judged_bad s

-- a loop: what is left decides
module _ (state : Next) (left : List ℕ) (right : Bool) (decides : judged_from state left ≡ right) where
  pub judged_turn : (b : ℕ) (rest : List ℕ) (next : Next) → left ≡ b ∷ rest → next ≡ followed state b → judged_from next rest ≡ right
  judged_turn b rest next e n = ap (λ (m : Next). judged_from m rest) n ∙ sym (judged-step state b rest) ∙ sym (ap (judged_from state) e) ∙ decides

  pub judged_done : (r : Bool) → left ≡ [] → r ≡ is_start state → r ≡ right
  judged_done r e n = n ∙ sym (judged_end state) ∙ sym (ap (judged_from state) e) ∙ decides

-- such a loop over the bytes of a text
module _ (s : List ℕ) (i : ℕ) (state : Next) (right : Bool) (decides : judged_from state (drop i s) ≡ right) where
  pub name_turn : (b : ℕ) (next : Next) → i < length s → b ≡ get_or s i 0 → next ≡ followed state b → judged_from next (drop (i + 1) s) ≡ right
  name_turn b next h e n = judged_turn state (drop i s) right decides (get_or s i 0) (drop (i + 1) s) next (drop-step s i h) (n ∙ ap (followed state) e)

  pub name_done : (r : Bool) → length s ≤ i → r ≡ is_start state → r ≡ right
  name_done r h e = judged_done state (drop i s) right decides r (drop_of_length-le s h) e
