-- A register read block by block: the block that `find` gives, and what the answer of each function says. Assumes nothing.
use mathlib.Core.Path.{◌≡◌, refl, sym, ap, ◌∙◌}
use mathlib.Core.Bool.{Bool, true, false, ◌&&◌, cond}
use mathlib.Core.List.{List, [], ◌∷◌}
use Prim.Native.Nat.{ℕ, zero, suc, ◌+◌, ◌-◌, ◌*◌, ◌/◌, ◌≤◌, ◌<◌}
use native.Mathlib.Nat.{zero-add}
use native.Mathlib.Omega.{arith}
use borrow.Author.Tests.{eq-eqb, eqb-true, eqb-false, lt-ltb, le-ltb, ltb-true, ltb-false}
use lib.Dec.{eqb, ltb}
use lib.Pointwise.{pointwise}
use lib.ListN.{length, take, drop}
use lib.Seq.{drop-drop, take_all}
use Rattle.std.specs.Prelude.{Option, Some, None, is_some, is_none}
use Rattle.std.specs.Option.{option_map}
use Rattle.std.specs.List.{starts_with, find, range_with_len}
use Rattle.protocol.specs.Bytes.{if, ascii, same, all_within, part, blocks}
use Rattle.protocol.specs.Blocks.{check_right}
use Rattle.protocol.specs.Register.{decode_entry, decode_register, register_shape, register_lawful, registered, callback_of}
use Rattle.protocol.specs.Panels.{service_in, at_fault, fault_from, fault, fault_of}
use Rattle.protocol.proofs.Laws.{one_test, same-eq}
use Rattle.protocol.proofs.Faults.{behind, said, faults_none, faults_some}
use Rattle.register.specs.Blockwise.{secure, rest_right, place_of, callback_in, if_below}

-- `is_secure`
turned : (x y : ℕ) → eqb x y ≡ eqb y x
turned x y = one_test (eqb x y) (eqb y x) (λ e. eq-eqb y x (sym (eqb-true x y e))) (λ e. eq-eqb x y (sym (eqb-true y x e)))

pub same_bytewise : (a b : List ℕ) → pointwise eqb a b ≡ same b a
unfolding same
same_bytewise [] [] = refl
same_bytewise [] (y ∷ b) = refl
same_bytewise (x ∷ a) [] = refl
same_bytewise (x ∷ a) (y ∷ b) = rw (turned x y, same_bytewise a b)

pub secure_none : (s : List ℕ) (r : Bool) → r ≡ eqb (length s) 0 → r ≡ true → r ≡ secure s
unfolding secure
secure_none [] r e f = f
secure_none (x ∷ s) r e f = absurd (omega (arith, eqb-true (length (x ∷ s)) 0 (sym e ∙ f)))

pub secure_some : (s : List ℕ) (r q : Bool) → r ≡ eqb (length s) 0 → r ≡ false → q ≡ starts_with eqb s (ascii "https://") → q ≡ secure s
unfolding secure
secure_some [] r q e f h = absurd (omega (arith, eqb-false 0 0 (sym e ∙ f)))
secure_some (x ∷ s) r q e f h = h ∙ same_bytewise (ascii "https://") (take 8 (x ∷ s))

-- `rest_right`: the parts as the code has them
module _ (b : List ℕ) (n m : ℕ) (long : length b ≡ 512) (short : n ≤ 200) (brief : m ≤ 200) where
  pub rest_as : (c z y : Bool) → c ≡ check_right (part (512 * 0) 512 b) → z ≡ all_within 0 0 (part (4 + n) (204 - (4 + n)) b) → y ≡ all_within 0 0 (part (204 + m) (508 - (204 + m)) b)
      → c && z && y ≡ rest_right n m b
  unfolding rest_right
  rest_as c z y ec ez ey =
      let whole : part (512 * 0) 512 b ≡ b = take_all 512 b (omega arith) in
      let p : 204 - (4 + n) ≡ 200 - n = omega arith in
      let q : 508 - (204 + m) ≡ 304 - m = omega arith in
      rw (ec, ez, ey, whole, p, q)

-- a place, or none
some_below : (n p k : ℕ) → k ≡ p → k < n → Some k ≡ if_below n p
unfolding if_below
some_below n p k e h = rw (← e, lt-ltb k n h)

none_below : (n p : ℕ) → n ≤ p → None ≡ if_below n p
unfolding if_below
none_below n p h = rw (le-ltb p n h)

-- what a place, or none, says
abbrev place_size : Option ℕ → ℕ
place_size None = 0
place_size (Some k) = suc k

module _ (n p : ℕ) where
  below_some : (k : ℕ) → Some k ≡ if_below n p → (k ≡ p) × (p < n)
  unfolding if_below
  below_some k e = go (ltb p n) refl e
    where
      go : (x : Bool) → ltb p n ≡ x → Some k ≡ if x (Some p) None → (k ≡ p) × (p < n)
      go true q h = let w : suc k ≡ suc p = ap place_size h in (omega arith, ltb-true p n q)
      go false q h = let w : suc k ≡ 0 = ap place_size h in absurd (omega arith)

  below_none : None ≡ if_below n p → n ≤ p
  unfolding if_below
  below_none e = go (ltb p n) refl e
    where
      go : (x : Bool) → ltb p n ≡ x → None ≡ if x (Some p) None → n ≤ p
      go true q h = let w : 0 ≡ suc p = ap place_size h in absurd (omega arith)
      go false q h = ltb-false p n q

  -- whether there is a place
  below_is : (o : Option ℕ) → o ≡ if_below n p → is_some o ≡ ltb p n
  unfolding if_below
  below_is o e = ap is_some e ∙ go (ltb p n)
    where
      go : (x : Bool) → is_some (if x (Some p) None) ≡ x
      go true = refl
      go false = refl

-- `find` over the blocks from k on
kept : (r : Option ℕ) → option_map (λ (x : ℕ). x) r ≡ r
kept None = refl
kept (Some x) = refl

step : (x : Bool) (k n p q : ℕ) (o : Option ℕ) → q ≡ if x k p → o ≡ if_below (k + 1 + n) p → cond x (Some k) o ≡ if_below (k + suc n) q
step true k n p q o e h = some_below (k + suc n) q k (sym e) (omega arith)
step false k n p q o e h = let w : k + 1 + n ≡ k + suc n = omega arith in h ∙ rw (w, e)

-- `place_of`
module _ (s b : List ℕ) where
  left : ℕ → ℕ → ℕ
  left n k = place_of s (said n (drop (512 * k) b))

  left_next : (n k : ℕ) → left (suc n) k ≡ if (same s (service_in b k)) 0 (suc (left n (k + 1)))
  unfolding left place_of service_in blocks
  left_next n k =
      let q : 512 * k + 512 ≡ 512 * (k + 1) = omega arith in
      ap (λ (d : List ℕ). if (same s (service_in b k)) 0 (suc (place_of s (said n d)))) (drop-drop 512 (512 * k) b ∙ ap (λ (i : ℕ). drop i b) q)

  place_listed : (n k : ℕ) → find (λ (j : ℕ). same s (service_in b j)) (range_with_len k n) ≡ if_below (k + n) (k + left n k)
  unfolding left place_of blocks
  place_listed zero k = none_below (k + 0) (k + 0) (omega arith)
  place_listed (suc n) k =
      step (same s (service_in b k)) k n (k + 1 + left n (k + 1)) (k + left (suc n) k) (find (λ (j : ℕ). same s (service_in b j)) (range_with_len (k + 1) n))
      (ap (λ (i : ℕ). k + i) (left_next n k) ∙ moved (same s (service_in b k))) (place_listed n (k + 1))
    where
      moved : (x : Bool) → k + if x 0 (suc (left n (k + 1))) ≡ if x k (k + 1 + left n (k + 1))
      moved true = omega arith
      moved false = omega arith

  pub place_found : {r : Option ℕ} → option_map (λ (x : ℕ). x) r ≡ find (λ (j : ℕ). same s (service_in b j)) (range_with_len 0 (length b / 512))
      → r ≡ if_below (length b / 512) (place_of s (decode_register b))
  unfolding left decode_register
  place_found {r} e = sym (kept r) ∙ e ∙ place_listed (length b / 512) 0 ∙ rw (zero-add (length b / 512), zero-add (place_of s (said (length b / 512) b)))

-- what stands at the place
both_more : (p n : ℕ) → ltb (suc p) (suc n) ≡ ltb p n
both_more p n = one_test (ltb (suc p) (suc n)) (ltb p n) (λ e. lt-ltb p n (omega (arith, ltb-true (suc p) (suc n) e))) (λ e. lt-ltb (suc p) (suc n) (omega (arith, ltb-true p n e)))

module _ (s : List ℕ) where
  registered_place : (n : ℕ) (b : List ℕ) → ltb (place_of s (said n b)) n ≡ registered s (said n b)
  unfolding place_of registered blocks
  registered_place zero b = refl
  registered_place (suc n) b = go (same s (decode_entry (take 512 b)).service) (registered_place n (drop 512 b))
    where
      go : (x : Bool) → ltb (place_of s (said n (drop 512 b))) n ≡ registered s (said n (drop 512 b))
          → ltb (if x 0 (suc (place_of s (said n (drop 512 b))))) (suc n) ≡ if x true (registered s (said n (drop 512 b)))
      go true later = lt-ltb 0 (suc n) (omega arith)
      go false later = both_more (place_of s (said n (drop 512 b))) n ∙ later

  callback_place : (n : ℕ) (b : List ℕ) (p : ℕ) → p ≡ place_of s (said n b) → p < n
      → (decode_entry (part (512 * p) 512 b)).callback ≡ callback_of s (said n b)
  unfolding place_of callback_of blocks
  callback_place zero b p e h = absurd (omega arith)
  callback_place (suc n) b zero e h = first (same s (decode_entry (take 512 b)).service) e
    where
      first : (x : Bool) → 0 ≡ if x 0 (suc (place_of s (said n (drop 512 b))))
          → (decode_entry (take 512 b)).callback ≡ if x (decode_entry (take 512 b)).callback (callback_of s (said n (drop 512 b)))
      first true q = refl
      first false q = absurd (omega arith)
  callback_place (suc n) b (suc p) e h = later (same s (decode_entry (take 512 b)).service) e (callback_place n (drop 512 b) p)
    where
      later : (x : Bool) → suc p ≡ if x 0 (suc (place_of s (said n (drop 512 b))))
          → (p ≡ place_of s (said n (drop 512 b)) → p < n → (decode_entry (part (512 * p) 512 (drop 512 b))).callback ≡ callback_of s (said n (drop 512 b)))
          → (decode_entry (part (512 * suc p) 512 b)).callback ≡ if x (decode_entry (take 512 b)).callback (callback_of s (said n (drop 512 b)))
      later true q r = absurd (omega arith)
      later false q r = ap (λ (x : List ℕ). (decode_entry x).callback) (sym (behind b p)) ∙ r (omega arith) (omega arith)

  service_place : (n : ℕ) (b : List ℕ) (p : ℕ) → p ≡ place_of s (said n b) → p < n → same s (decode_entry (part (512 * p) 512 b)).service ≡ true
  unfolding place_of blocks
  service_place zero b p e h = absurd (omega arith)
  service_place (suc n) b zero e h = first (same s (decode_entry (take 512 b)).service) e
    where
      first : (x : Bool) → 0 ≡ if x 0 (suc (place_of s (said n (drop 512 b)))) → x ≡ true
      first true q = refl
      first false q = absurd (omega arith)
  service_place (suc n) b (suc p) e h = later (same s (decode_entry (take 512 b)).service) e (service_place n (drop 512 b) p)
    where
      later : (x : Bool) → suc p ≡ if x 0 (suc (place_of s (said n (drop 512 b))))
          → (p ≡ place_of s (said n (drop 512 b)) → p < n → same s (decode_entry (part (512 * p) 512 (drop 512 b))).service ≡ true)
          → same s (decode_entry (part (512 * suc p) 512 b)).service ≡ true
      later true q r = absurd (omega arith)
      later false q r = ap (λ (x : List ℕ). same s (decode_entry x).service) (sym (behind b p)) ∙ r (omega arith) (omega arith)

  callback_none : (n : ℕ) (b : List ℕ) → n ≤ place_of s (said n b) → callback_of s (said n b) ≡ []
  unfolding place_of callback_of blocks
  callback_none zero b h = refl
  callback_none (suc n) b h = go (same s (decode_entry (take 512 b)).service) h (callback_none n (drop 512 b))
    where
      go : (x : Bool) → suc n ≤ if x 0 (suc (place_of s (said n (drop 512 b))))
          → (n ≤ place_of s (said n (drop 512 b)) → callback_of s (said n (drop 512 b)) ≡ [])
          → if x (decode_entry (take 512 b)).callback (callback_of s (said n (drop 512 b))) ≡ []
      go true q later = absurd (omega arith)
      go false q later = later (omega arith)

module _ (s b : List ℕ) (p : ℕ) (e : p ≡ place_of s (decode_register b)) where
  pub stands : ltb p (length b / 512) ≡ registered s (decode_register b)
  unfolding decode_register
  stands = rw e (registered_place s (length b / 512) b)

  pub callback_found : p < length b / 512 → callback_in b p ≡ callback_of s (decode_register b)
  unfolding decode_register callback_in
  callback_found h = callback_place s (length b / 512) b p e h

  pub callback_nowhere : length b / 512 ≤ p → take 0 b ≡ callback_of s (decode_register b)
  unfolding decode_register
  callback_nowhere h = sym (callback_none s (length b / 512) b (rw (← e) h))

  -- the service that is found is the one that was looked for
  pub service_found : p < length b / 512 → s ≡ service_in b p
  unfolding decode_register service_in
  service_found h = same-eq s (decode_entry (part (512 * p) 512 b)).service (service_place s (length b / 512) b p e h)

-- `registered`
pub registered_some : (s b : List ℕ) (o : Option ℕ) → o ≡ if_below (length b / 512) (place_of s (decode_register b)) → is_some o ≡ registered s (decode_register b)
registered_some s b o e = below_is (length b / 512) (place_of s (decode_register b)) o e ∙ stands s b (place_of s (decode_register b)) refl

-- `first_fault`
module _ (b : List ℕ) where
  fault_listed : (n k : ℕ) → find (at_fault b) (range_with_len k n) ≡ if_below (k + n) (fault_from k n b)
  unfolding fault_from
  fault_listed zero k = none_below (k + 0) k (omega arith)
  fault_listed (suc n) k = step (at_fault b k) k n (fault_from (k + 1) n b) (fault_from k (suc n) b) (find (at_fault b) (range_with_len (k + 1) n)) refl (fault_listed n (k + 1))

  pub fault_found : {r : Option ℕ} → option_map (λ (x : ℕ). x) r ≡ find (at_fault b) (range_with_len 0 (length b / 512)) → r ≡ if_below (length b / 512) (fault_from 0 (length b / 512) b)
  fault_found {r} e = sym (kept r) ∙ e ∙ fault_listed (length b / 512) 0 ∙ rw (zero-add (length b / 512))

-- `check` and `register_lawful`
module _ (b : List ℕ) (s : Bool) (es : s ≡ register_shape (length b)) where
  module _ (f : s ≡ true) (o : Option ℕ) (e : o ≡ if_below (length b / 512) (fault_from 0 (length b / 512) b)) where
    pub check_fault : (k : ℕ) → o ≡ Some k → fault 3 k ≡ fault_of b
    unfolding fault_of
    check_fault k q =
        let p = below_some (length b / 512) (fault_from 0 (length b / 512) b) k (sym q ∙ e) in
        rw (← es, f, p.0, faults_some b (sym es ∙ f) p.1)

    pub check_none : o ≡ None → fault 0 0 ≡ fault_of b
    unfolding fault_of
    check_none q = rw (faults_none b (sym es ∙ f) (below_none (length b / 512) (fault_from 0 (length b / 512) b) (sym q ∙ e)))

    pub lawful_none : {r : Bool} → r ≡ is_none o → r ≡ register_lawful b
    lawful_none h = h ∙ go o e
      where
        go : (x : Option ℕ) → x ≡ if_below (length b / 512) (fault_from 0 (length b / 512) b) → is_none x ≡ register_lawful b
        go None h = sym (faults_none b (sym es ∙ f) (below_none (length b / 512) (fault_from 0 (length b / 512) b) h))
        go (Some k) h = sym (faults_some b (sym es ∙ f) (below_some (length b / 512) (fault_from 0 (length b / 512) b) k h).1)
