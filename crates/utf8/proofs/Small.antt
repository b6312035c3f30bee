-- A name has bytes only: no number over 255 can stand in it. Assumes nothing.
use mathlib.Core.Path.{◌≡◌, refl, sym, ap, ◌∙◌}
use mathlib.Core.Bool.{Bool, true, false}
use mathlib.Core.List.{List, [], ◌∷◌}
use Prim.Native.Nat.{ℕ, ◌≤◌}
use native.Mathlib.Omega.{arith}
use native.Mathlib.Decide.{dec_le}
use borrow.Author.Tests.{le-ltb, le-leb, lt-leb}
use lib.Dec.{eqb, ltb, leb, lit≤}
use Rattle.protocol.specs.Bytes.{if, within, all_within}
use Rattle.protocol.specs.Utf8.{name_right}
use Rattle.protocol.proofs.Laws.{and-false}
use Rattle.utf8.specs.declared.Next.{Next}
use Rattle.utf8.specs.declared.Next.TheVariants.{Start, Tail, Bad}
use Rattle.utf8.specs.Machine.{begun, tailed, followed, judged_from}
use Rattle.utf8.proofs.Laws.{judged_bad}
use Rattle.utf8.proofs.Join.{judged_name_lem}

-- what is due next is a byte
abbrev Narrow : Next → Type 0
Narrow Start = Unit
Narrow (Tail lo hi more) = hi ≤ 255
Narrow Bad = Unit

either : (z : Bool) (x y : Next) → Narrow x → Narrow y → Narrow (if z x y)
either true x y a b = a
either false x y a b = b

begun_narrow : (b : ℕ) → Narrow (begun b)
unfolding begun
begun_narrow b =
    either (ltb b 0x20) _ _ tt
    (either (ltb b 0x7F) _ _ tt
    (either (ltb b 0xC2) _ _ tt
    (either (ltb b 0xE0) _ _ (lit≤ tt)
    (either (ltb b 0xE1) _ _ (lit≤ tt)
    (either (ltb b 0xED) _ _ (lit≤ tt)
    (either (ltb b 0xEE) _ _ (lit≤ tt)
    (either (ltb b 0xF0) _ _ (lit≤ tt)
    (either (ltb b 0xF1) _ _ (lit≤ tt)
    (either (ltb b 0xF4) _ _ (lit≤ tt)
    (either (ltb b 0xF5) _ _ (lit≤ tt) tt))))))))))

followed_narrow : (state : Next) (b : ℕ) → Narrow (followed state b)
unfolding tailed
followed_narrow Start b = begun_narrow b
followed_narrow (Tail lo hi more) b = either (within lo hi b) _ _ (either (eqb more 0) _ _ tt (lit≤ tt)) tt
followed_narrow Bad b = tt

followed_large : (state : Next) (b : ℕ) → Narrow state → 256 ≤ b → followed state b ≡ Bad
unfolding begun tailed
followed_large Start b n h =
    rw (
      le-ltb b 0x20 (omega arith),
      le-ltb b 0x7F (omega arith),
      le-ltb b 0xC2 (omega arith),
      le-ltb b 0xE0 (omega arith),
      le-ltb b 0xE1 (omega arith),
      le-ltb b 0xED (omega arith),
      le-ltb b 0xEE (omega arith),
      le-ltb b 0xF0 (omega arith),
      le-ltb b 0xF1 (omega arith),
      le-ltb b 0xF4 (omega arith),
      le-ltb b 0xF5 (omega arith),
    )
followed_large (Tail lo hi more) b n h = rw (lt-leb b hi (omega arith), and-false (leb lo b))
followed_large Bad b n h = refl

bytes_from : (state : Next) (s : List ℕ) → Narrow state → judged_from state s ≡ true → all_within 0 255 s ≡ true
unfolding judged_from all_within
bytes_from state [] n e = refl
bytes_from state (b ∷ s) n e = by_size (dec_le b 255) (bytes_from (followed state b) s (followed_narrow state b) e)
  where
    by_size : Dec (b ≤ 255) → all_within 0 255 s ≡ true → all_within 0 255 (b ∷ s) ≡ true
    by_size (yes h) r = rw (le-leb 0 b (omega arith), le-leb b 255 h) r
    by_size (no h) r =
        let f : followed state b ≡ Bad = followed_large state b n (omega arith) in
        let g : judged_from Bad s ≡ true = rw f at e in
        absurd (let z : ◌≡◌ {A = ℕ} 0 1 = (let q : ◌≡◌ {A = Bool} false true = sym (judged_bad s) ∙ g in ap (λ (t : Bool). if t 1 0) q) in omega arith)

pub name_bytes : (s : List ℕ) → name_right s ≡ true → all_within 0 255 s ≡ true
name_bytes s e = bytes_from Start s tt (judged_name_lem s ∙ e)
