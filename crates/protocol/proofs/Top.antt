-- A call that is not refused, over plain variables, in the form in which code knows its facts, for `search`. Assumes nothing.
use mathlib.Core.Path.{◌≡◌, sym, ◌∙◌}
use mathlib.Core.Bool.{Bool}
use mathlib.Core.List.{List}
use Prim.Native.Nat.{ℕ}
use lib.ListN.{length}
use Rattle.protocol.specs.Calls.{inputs, answer_refusal}
use Rattle.protocol.specs.declared.Method.{Method}
use Rattle.protocol.proofs.Lasting.{Passed, passed}

module _ (t g : List ℕ) (m : Method) (u b k : List ℕ) (n : ℕ) (r : List ℕ) (v : Bool) (o c : List ℕ) where
  pub top_passed : {x : ℕ} → x ≡ answer_refusal t g (length u) (length b) n (length r) (length o) (length c) → x ≡ 0 → Passed (inputs t g m u b k n r v o c)
  top_passed e z = passed (inputs t g m u b k n r v o c) (sym e ∙ z)
