-- Decoding a byte at a time: what the next one is, and two ways through bytes that go together. Assumes nothing.
use mathlib.Core.Path.{◌≡◌, refl, ap}
use mathlib.Core.Bool.{Bool, true, false, ◌&&◌}
use mathlib.Core.List.{List, [], ◌∷◌}
use Prim.Native.Nat.{ℕ, zero, suc, ◌+◌, ◌*◌, ◌≤◌, ◌<◌}
use native.Mathlib.Omega.{arith}
use lib.Dec.{eqb, ltb}
use lib.ListN.{length, drop, get_or}
use borrow.Author.Tests.{eq-eqb, ne_eqb, eqb-true}
use Rattle.protocol.specs.Bytes.{same}
use Rattle.protocol.specs.Request.{hex_value, hex_leads, unit_of, skip_of, decoded_from, decoded}
use Rattle.protocol.proofs.Laws.{both}
use Rattle.decode.specs.Judging.{Hex}
use Rattle.std.specs.Char.{digit_value}
use Rattle.std.proofs.lemmas.Bool.Decides.{nat_tests}
use Rattle.std.specs.Prelude.{Option, Some, None, MatchOption, IfSome}
use Rattle.std.specs.Iterator.{AlwaysYields, Yields, YieldsThen}
use Rattle.std.proofs.lemmas.Iterator.{YieldsList}
use Rattle.std.specs.List.{AllZip}

and_false : (t : Bool) → t && false ≡ false
and_false true = refl
and_false false = refl

-- `hex_value`: what `to_digit` says of 16
pub hex_digit : (b d : ℕ) → digit_value b < 16 → d ≡ digit_value b → Hex b (Some d)
unfolding hex_value
hex_digit b d h e = record { is = grind (arith, nat_tests); small = omega arith }

pub hex_none : (b : ℕ) → (digit_value b < 16 → ⊥) → Hex b None
unfolding hex_value
hex_none b h = record { is = grind (arith, nat_tests); small = omega arith }

-- skipping bytes that belong to a byte before
decoded_skip : (in_body : Bool) (k : ℕ) (s : List ℕ) → decoded_from in_body k s ≡ decoded in_body (drop k s)
unfolding decoded_from
decoded_skip in_body zero s = refl
decoded_skip in_body (suc k) [] = refl
decoded_skip in_body (suc k) (b ∷ s) = decoded_skip in_body k s

decoded_next : (in_body : Bool) (b : ℕ) (s : List ℕ) → decoded in_body (b ∷ s) ≡ unit_of in_body b s ∷ decoded in_body (drop (skip_of b s) s)
unfolding decoded_from
decoded_next in_body b s = ap (λ (l : List ℕ). unit_of in_body b s ∷ l) (decoded_skip in_body (skip_of b s) s)

-- what is decoded is no longer than what it is decoded from
short_from : (in_body : Bool) (k : ℕ) (s : List ℕ) → length (decoded_from in_body k s) ≤ length s
unfolding decoded_from
short_from in_body k [] = omega arith
short_from in_body zero (b ∷ s) = omega (arith, short_from in_body (skip_of b s) s)
short_from in_body (suc k) (b ∷ s) = omega (arith, short_from in_body k s)

pub decoded_short : (in_body : Bool) (s : List ℕ) → length (decoded in_body s) ≤ length s
decoded_short in_body s = short_from in_body 0 s

-- `escape`
pub hex_short : (s : List ℕ) → length s < 2 → hex_leads s ≡ false
unfolding hex_value
hex_short [] h = refl
hex_short (a ∷ []) h = and_false (ltb (hex_value a) 16)
hex_short (a ∷ b ∷ s) h = absurd (omega arith)

-- `next`: s is what was left, b its first byte, and t what stands behind that
pub decoded_end : (in_body : Bool) (s : List ℕ) → length s ≡ 0 → decoded in_body s ≡ []
unfolding decoded_from
decoded_end in_body [] h = refl
decoded_end in_body (b ∷ s) h = absurd (omega arith)

module _ (in_body : Bool) (s t : List ℕ) (b : ℕ) (e : s ≡ b ∷ t) where
  pub next_escape : (v : ℕ) (r : List ℕ) → b ≡ 37 → hex_leads t ≡ true → v ≡ hex_value (get_or t 0 0) * 16 + hex_value (get_or t 1 0) → r ≡ drop 2 t → decoded in_body s ≡ v ∷ decoded in_body r
  unfolding unit_of skip_of
  next_escape v r p l k d = rw (e, decoded_next in_body b t, eq-eqb b 37 p, l, k, d)

  pub next_bad : b ≡ 37 → hex_leads t ≡ false → decoded in_body s ≡ 256 ∷ decoded in_body t
  unfolding unit_of skip_of
  next_bad p l = rw (e, decoded_next in_body b t, eq-eqb b 37 p, l)

  pub next_space : in_body && eqb b 43 ≡ true → decoded in_body s ≡ 32 ∷ decoded in_body t
  unfolding unit_of skip_of
  next_space k =
      let plus : b ≡ 43 = eqb-true b 43 (both in_body (eqb b 43) k).1 in
      let z : eqb b 37 ≡ false = ne_eqb b 37 (λ q. omega arith) in
      rw (e, decoded_next in_body b t, z, k)

  pub next_plain : (b ≡ 37 → ⊥) → in_body && eqb b 43 ≡ false → decoded in_body s ≡ b ∷ decoded in_body t
  unfolding unit_of skip_of
  next_plain x k = rw (e, decoded_next in_body b t, ne_eqb b 37 x, k)

-- `is_text`: what `eq` says of two iterators, of which one has the bytes ds left and the other ts
abbrev pub Ends : Bool → Option ℕ → Option ℕ → Type 0
Ends r o p = MatchOption o (MatchOption p (r ≡ true) (λ _. r ≡ false)) (λ x. (r ≡ false) × IfSome p (λ y. eqb x y ≡ false))

module _ {S T : Type 0} (steps : S → Option ℕ → S → Type 0) (others : T → Option ℕ → T → Type 0) (r : Bool) where
  ended : (ds ts : List ℕ) (s u : S) (j z : T) (o p : Option ℕ) → AlwaysYields steps (λ x. x) s ds → AlwaysYields others (λ x. x) j ts
      → steps s o u → others j p z → Ends r o p → r ≡ same ds ts
  unfolding same
  ended [] [] s u j z None None a b k l e = e
  ended [] (y ∷ ts) s u j z None None a b k l e = absurd (b.0 z l)
  ended (x ∷ ds) ts s u j z None p a b k l e = absurd (a.0 u k)
  ended [] [] s u j z None (Some q) a b k l e = absurd (b q z l)
  ended [] (y ∷ ts) s u j z None (Some q) a b k l e = e
  ended [] ts s u j z (Some q) p a b k l e = absurd (a q u k)
  ended (x ∷ ds) [] s u j z (Some q) p a b k l e = e.0
  ended (x ∷ ds) (y ∷ ts) s u j z (Some q) None a b k l e = absurd (b.0 z l)
  ended (x ∷ ds) (y ∷ ts) s u j z (Some q) (Some h) a b k l e = rw (← (a.1 q u k).0, ← (b.1 h z l).0, e.1) e.0

  met : (xs ys ds ts : List ℕ) (s t u : S) (j i z : T) (o p : Option ℕ) → AlwaysYields steps (λ x. x) s ds → AlwaysYields others (λ x. x) j ts
      → Yields steps s xs t → steps t o u → Yields others j ys i → others i p z → AllZip (λ x y. eqb x y ≡ true) xs ys → Ends r o p → r ≡ same ds ts
  unfolding same
  met [] [] ds ts s t u j i z o p a b m k n l w e = ended ds ts s u j z o p a b (rw (← m) at k) (rw (← n) at l) e
  met [] (y ∷ ys) ds ts s t u j i z o p a b m k n l w e = elim w [ ]
  met (x ∷ xs) [] ds ts s t u j i z o p a b m k n l w e = elim w [ ]
  met (x ∷ xs) (y ∷ ys) [] ts s t u j i z o p a b m k n l w e = absurd (a x m.0 m.1)
  met (x ∷ xs) (y ∷ ys) (d ∷ ds) [] s t u j i z o p a b m k n l w e = absurd (b y n.0 n.1)
  met (x ∷ xs) (y ∷ ys) (d ∷ ds) (c ∷ ts) s t u j i z o p a b m k n l w e =
      let f = a.1 x m.0 m.1 in
      let g = b.1 y n.0 n.1 in
      rw (← f.0, ← g.0, w.0) (met xs ys ds ts m.0 t u n.0 i z o p f.1 g.1 m.2 k n.2 l w.1 e)

pub same_from_eq : {S T : Type 0} {steps : S → Option ℕ → S → Type 0} {others : T → Option ℕ → T → Type 0} {s : S} {j : T} {ds ts : List ℕ} (r : Bool)
    → ((it : T) × (xs : List ℕ) × (ys : List ℕ) × (o : Option ℕ) × (p : Option ℕ) × (u : S) × (z : T) × (it ≡ j) × YieldsThen steps s xs o u × YieldsThen others it ys p z × AllZip (λ x y. eqb x y ≡ true) xs ys × Ends r o p)
    → YieldsList steps (λ x. x) s ds → YieldsList others (λ x. x) j ts → r ≡ same ds ts
same_from_eq {steps = steps} {others = others} {s = s} {ds = ds} {ts = ts} r d a b =
    met steps others r d.1 d.2 ds ts s d.8.0 d.5 d.0 d.9.0 d.6 d.3 d.4 a.runs (rw (d.7) b.runs) d.8.1 d.8.2 d.9.1 d.9.2 d.10 d.11
