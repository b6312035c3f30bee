-- A rung of the list: where its test fails its number is answered, else what comes later. Assumes nothing.
use mathlib.Core.Path.{◌≡◌, sym, ◌∙◌}
use mathlib.Core.Bool.{Bool, true, false}
use Prim.Native.Nat.{ℕ}
use Rattle.std.specs.Prelude.{Result}
use Rattle.std.specs.Result.{IsErrAnd}
use Rattle.protocol.specs.Calls.{unless}
use Rattle.protocol.specs.Refusals.{refusal_number, number_of_result}
use Rattle.protocol.specs.declared.Refusal.{Refusal}
use Rattle.protocol.proofs.Refusals.{refused_some, handed}

-- a rung that was judged
module _ (b : Bool) (n later : ℕ) where
  pub rung_no : (r : Result Unit Refusal) (e : Refusal) → IsErrAnd r (λ y. y ≡ e) → refusal_number e ≡ unless b n 0 → number_of_result r ≡ unless b n later
  rung_no r e is h = handed r e is ∙ go b h
    where
      go : (x : Bool) → refusal_number e ≡ unless x n 0 → refusal_number e ≡ unless x n later
      go true q = absurd (refused_some e q)
      go false q = q

  pub rung_yes : {k : ℕ} (f : Refusal) → refusal_number f ≡ n → 0 ≡ unless b n 0 → k ≡ later → k ≡ unless b n later
  rung_yes {k} f is h g = go b h
    where
      go : (x : Bool) → 0 ≡ unless x n 0 → k ≡ unless x n later
      go true q = g
      go false q = absurd (refused_some f (is ∙ sym q))

-- the first two rungs, judged before the others
module _ (b c : Bool) (n m later : ℕ) where
  pub judged_no : (r : Result Unit Refusal) (e : Refusal) → IsErrAnd r (λ y. y ≡ e) → refusal_number e ≡ unless b n (unless c m 0) → number_of_result r ≡ unless b n (unless c m later)
  judged_no r e is h = handed r e is ∙ go b c h
    where
      go : (x y : Bool) → refusal_number e ≡ unless x n (unless y m 0) → refusal_number e ≡ unless x n (unless y m later)
      go false y q = q
      go true false q = q
      go true true q = absurd (refused_some e q)

  pub judged_yes : {k : ℕ} (f g : Refusal) → refusal_number f ≡ n → refusal_number g ≡ m → 0 ≡ unless b n (unless c m 0) → k ≡ later → k ≡ unless b n (unless c m later)
  judged_yes {k} f g is also h l = go b c h
    where
      go : (x y : Bool) → 0 ≡ unless x n (unless y m 0) → k ≡ unless x n (unless y m later)
      go true true q = l
      go false y q = absurd (refused_some f (is ∙ sym q))
      go true false q = absurd (refused_some g (also ∙ sym q))
