-- A service found in the register is the one that was given, and what is not found is unknown. Assumes nothing.
use mathlib.Core.Path.{◌≡◌, refl, sym, ap, ◌∙◌}
use mathlib.Core.Bool.{Bool, true, false, ◌&&◌, not}
use mathlib.Core.List.{List, [], ◌∷◌}
use Prim.Native.Nat.{ℕ, ◌+◌, ◌*◌, ◌/◌, ◌≤◌, ◌<◌}
use native.Mathlib.Omega.{arith}
use borrow.Author.Tests.{ne_eqb, lt-ltb, ltb-true, ltb-false}
use lib.Dec.{eqb, ltb}
use lib.ListN.{length}
use Rattle.std.specs.Prelude.{Option, Some, None, MatchOption, is_none, unwrap_or}
use Rattle.std.specs.Option.{option_map}
use Rattle.std.specs.List.{find, range_with_len}
use Rattle.protocol.specs.Bytes.{if, is_empty, same}
use Rattle.protocol.specs.Register.{Entry, decode_register, registered, callback_of}
use Rattle.protocol.specs.Panels.{service_in}
use Rattle.protocol.specs.Steps.{link_to, unknown_service}
use Rattle.request.specs.Value.{spelled}
use Rattle.request.specs.declared.value.Value.{Value}
use Rattle.register.specs.Blockwise.{place_of, callback_in, if_below}
use Rattle.known.specs.Standing.{standing}
use Rattle.register.proofs.Laws.{place_found, stands, service_found, callback_found, callback_nowhere}

-- `standing`: the place that `find` gives, or none
module _ (s b : List ℕ) where
  place_standing : (x : Bool) → x ≡ ltb (place_of s (decode_register b)) (length b / 512) → if_below (length b / 512) (place_of s (decode_register b)) ≡ standing s (decode_register b)
  unfolding standing if_below
  place_standing x e = rw (← stands s b (place_of s (decode_register b)) refl, ← e)

  pub standing_found : {r : Option ℕ} → option_map (λ (x : ℕ). x) r ≡ find (λ (j : ℕ). same s (service_in b j)) (range_with_len 0 (length b / 512)) → r ≡ standing s (decode_register b)
  standing_found e = place_found s b e ∙ place_standing (ltb (place_of s (decode_register b)) (length b / 512)) refl

-- `service_of` and `callback_of`: what stands at the place
module _ (s b : List ℕ) where
  place_told : (o : Option ℕ) (p : ℕ) → o ≡ standing s (decode_register b) → o ≡ Some p → (registered s (decode_register b) ≡ true) × (p ≡ place_of s (decode_register b))
  unfolding standing
  place_told o p e k = go (registered s (decode_register b)) (sym k ∙ e)
    where
      go : (r : Bool) → ◌≡◌ {A = Option ℕ} (Some p) (if r (Some (place_of s (decode_register b))) None) → (r ≡ true) × (p ≡ place_of s (decode_register b))
      go true z = (refl, ap (λ (u : Option ℕ). unwrap_or u 0) z)
      go false z = absurd (let w : ◌≡◌ {A = Bool} false true = ap is_none z in let v : ◌≡◌ {A = ℕ} 0 1 = cc in omega arith)

  nowhere_told : (o : Option ℕ) → o ≡ standing s (decode_register b) → o ≡ None → registered s (decode_register b) ≡ false
  unfolding standing
  nowhere_told o e k = go (registered s (decode_register b)) (sym k ∙ e)
    where
      go : (r : Bool) → ◌≡◌ {A = Option ℕ} None (if r (Some (place_of s (decode_register b))) None) → r ≡ false
      go true z = absurd (let w : ◌≡◌ {A = Bool} true false = ap is_none z in let v : ◌≡◌ {A = ℕ} 0 1 = cc in omega arith)
      go false z = refl

  module _ (o : Option ℕ) (e : o ≡ standing s (decode_register b)) where
    module _ (p : ℕ) (k : o ≡ Some p) where
      inside : p < length b / 512
      inside = let t = place_told o p e k in ltb-true p (length b / 512) (stands s b p t.1 ∙ t.0)

      pub place_inside : 512 * p + 512 ≤ length b
      place_inside = omega (arith, inside)

      service_there : (v : List ℕ) → v ≡ service_in b p → v ≡ link_to s (decode_register b)
      unfolding link_to
      service_there v q = let t = place_told o p e k in q ∙ sym (service_found s b p t.1 inside) ∙ rw t.0

      callback_there : (v : List ℕ) → v ≡ callback_in b p → v ≡ callback_of s (decode_register b)
      callback_there v q = q ∙ callback_found s b p (place_told o p e k).1 inside

    module _ (k : o ≡ None) where
      service_nowhere : [] ≡ link_to s (decode_register b)
      unfolding link_to
      service_nowhere = rw (nowhere_told o e k)

      callback_none : [] ≡ callback_of s (decode_register b)
      callback_none =
          let p : ℕ = place_of s (decode_register b) in
          callback_nowhere s b p refl (ltb-false p (length b / 512) (stands s b p refl ∙ nowhere_told o e k))

  -- what `map_or` gives
  module _ (v : List ℕ) {P : Type 0} {Q : ℕ → Type 0} (nothing : P → v ≡ []) where
    pub service_told : (o : Option ℕ) → o ≡ standing s (decode_register b) → MatchOption o P Q → ((k : ℕ) → Q k → v ≡ service_in b k) → v ≡ link_to s (decode_register b)
    service_told None e m there = nothing m ∙ service_nowhere None e refl
    service_told (Some k) e m there = service_there (Some k) e k refl v (there k m)

    pub callback_told : (o : Option ℕ) → o ≡ standing s (decode_register b) → MatchOption o P Q → ((k : ℕ) → Q k → v ≡ callback_in b k) → v ≡ callback_of s (decode_register b)
    callback_told None e m there = nothing m ∙ callback_none None e refl
    callback_told (Some k) e m there = callback_there (Some k) e k refl v (there k m)

-- For callers

-- what was found is no longer than what may be given
pub known-short : {most : ℕ} (v : List ℕ) (value : Value most) (es : List Entry) → v ≡ link_to (spelled value) es → length v ≤ most
unfolding link_to
known-short {most} v value es e = rw e (go (spelled value) (registered (spelled value) es) (omega (arith, value.spelling.measured, value.short)))
  where
    go : (l : List ℕ) (r : Bool) → length l ≤ most → length (if r l []) ≤ most
    go l true k = k
    go l false k = omega arith

module _ (s v : List ℕ) (es : List Entry) (e : v ≡ link_to s es) where
  -- given and not found is unknown
  pub unknown_as : (n : ℕ) → n ≡ length s → ltb 0 n && eqb (length v) 0 ≡ unknown_service s es
  unfolding link_to unknown_service
  unknown_as n k = rw (k, e) (go s (registered s es))
    where
      go : (l : List ℕ) (r : Bool) → ltb 0 (length l) && eqb (length (if r l [])) 0 ≡ not (is_empty l) && not r
      go [] r = refl
      go (x ∷ l) true = rw (lt-ltb 0 (length (x ∷ l)) (omega arith), ne_eqb (length (x ∷ l)) 0 (λ z. omega arith))
      go (x ∷ l) false = rw (lt-ltb 0 (length (x ∷ l)) (omega arith))

  -- where it is not unknown, what was found is what was given
  pub known_is : unknown_service s es ≡ false → v ≡ s
  unfolding link_to unknown_service
  known_is h = e ∙ go s (registered s es) h
    where
      go : (l : List ℕ) (r : Bool) → not (is_empty l) && not r ≡ false → if r l [] ≡ l
      go [] true q = refl
      go [] false q = refl
      go (x ∷ l) true q = refl
      go (x ∷ l) false q = absurd (let z : ◌≡◌ {A = ℕ} 0 1 = cc in omega arith)
