-- A register is lawful where its length is right and no block is at fault; else the block that is told is at fault, and none before it is.
-- And a made block is read back as its two texts and is a lawful register by itself. Assumes nothing.
use mathlib.Core.Path.{◌≡◌, refl, sym, ap, ◌∙◌}
use mathlib.Core.Bool.{Bool, true, false, not}
use mathlib.Core.List.{List, [], ◌∷◌, ◌++◌, map, append-nil}
use Prim.Native.Nat.{ℕ, zero, suc, ◌+◌, ◌*◌, ◌/◌, ◌%◌, ◌<◌, ◌≤◌}
use native.Mathlib.Omega.{arith}
use native.Mathlib.Decide.{dec_lt}
use borrow.Author.Tests.{eqb-true}
use lib.Dec.{eqb}
use lib.ListN.{length, take, drop, length-drop, take-append-drop}
use lib.Seq.{take-take, drop-drop, take_at, drop_at, length-take-le}
use Rattle.protocol.specs.Bytes.{if, same, among, all_differ, within, part, joined, blocks}
use Rattle.protocol.specs.Register.{Entry, encode_entry, decode_entry, decode_register, entry_right, all_entries_right, services_of, register_shape, register_lawful, registered}
use Rattle.protocol.specs.Panels.{entry, panel_refusal, panel_of, panel_right, service_in, at_fault, fault_from, fault, fault_of}
use Rattle.protocol.specs.Calls.{unless}
use Rattle.protocol.proofs.Laws.{both, or_both, same-eq, same_refl}
use Rattle.protocol.proofs.Panels.{AllShort, length-entry, entry_back, register_back, right_short, lawful_register}
use Rattle.protocol.proofs.Lasting.{passes}

-- tests of texts, and of the other way round
eq-same : (a b : List ℕ) → a ≡ b → same a b ≡ true
eq-same a b e = ap (same a) (sym e) ∙ same_refl a

same_as : {a b c d : List ℕ} → a ≡ b → c ≡ d → same b d ≡ same a c
same_as {a} {b} {c} {d} e f = ap (λ (x : List ℕ). same x d) (sym e) ∙ ap (same a) (sym f)

turned : (a b : List ℕ) → same a b ≡ false → same b a ≡ false
turned a b h = go (same b a) refl
  where
    go : (x : Bool) → same b a ≡ x → x ≡ false
    go true e = sym (eq-same a b (sym (same-eq b a e))) ∙ h
    go false e = refl

not-false : (x : Bool) → not x ≡ false → x ≡ true
not-false true e = refl
not-false false e = sym e

not-true : (x : Bool) → not x ≡ true → x ≡ false
not-true true e = sym e
not-true false e = refl

-- the blocks behind the first, and those of a front
pub behind : (b : List ℕ) (k : ℕ) → part (512 * k) 512 (drop 512 b) ≡ part (512 * suc k) 512 b
behind b k = let q : 512 * suc k ≡ 512 + 512 * k = omega arith in rw (q, drop-drop (512 * k) 512 b)

in_front : (at n m : ℕ) (s : List ℕ) → at + n ≤ m → part at n (take m s) ≡ part at n s
in_front zero n m s h = take-take n m s (omega arith)
in_front (suc at) n zero s h = absurd (omega arith)
in_front (suc at) n (suc m) [] h = refl
in_front (suc at) n (suc m) (x ∷ s) h = in_front at n m s (omega arith)

service_behind : (b : List ℕ) (k : ℕ) → service_in (drop 512 b) k ≡ service_in b (suc k)
unfolding service_in
service_behind b k = ap (λ (x : List ℕ). (decode_entry x).service) (behind b k)

service_front : (b : List ℕ) (j k : ℕ) → j < k → service_in (take (512 * k) b) j ≡ service_in b j
unfolding service_in
service_front b j k l = ap (λ (x : List ℕ). (decode_entry x).service) (in_front (512 * j) 512 (512 * k) b (omega arith))

-- what n blocks say
abbrev pub said : ℕ → List ℕ → List Entry
said n b = map decode_entry (blocks n 512 b)

-- a service stands in none of them where it is the service of none
hit_none : (s : List ℕ) (n : ℕ) (b : List ℕ) → registered s (said n b) ≡ false → (j : ℕ) → j < n → same s (service_in b j) ≡ false
unfolding registered blocks service_in
hit_none s zero b e j l = absurd (omega arith)
hit_none s (suc n) b e zero l = first (same s (service_in b 0)) e
  where
    first : (x : Bool) → if x true (registered s (said n (drop 512 b))) ≡ false → x ≡ false
    first true q = q
    first false q = refl
hit_none s (suc n) b e (suc j) l = ap (same s) (sym (service_behind b j)) ∙ hit_none s n (drop 512 b) (later (same s (service_in b 0)) e) j (omega arith)
  where
    later : (x : Bool) → if x true (registered s (said n (drop 512 b))) ≡ false → registered s (said n (drop 512 b)) ≡ false
    later true q = absurd (let z : ◌≡◌ {A = ℕ} 0 1 = cc in omega arith)
    later false q = q

none_hit : (s : List ℕ) (n : ℕ) (b : List ℕ) → ((j : ℕ) → j < n → same s (service_in b j) ≡ false) → registered s (said n b) ≡ false
unfolding registered blocks service_in
none_hit s zero b h = refl
none_hit s (suc n) b h = rw (h 0 (omega arith)) (none_hit s n (drop 512 b) (λ j l. ap (same s) (service_behind b j) ∙ h (suc j) (omega arith)))

-- services differ where no later one is an earlier one
among-registered : (s : List ℕ) (es : List Entry) → among s (services_of es) ≡ registered s es
unfolding among services_of registered
among-registered s [] = refl
among-registered s (e ∷ es) = rw (among-registered s es)

differ_apart : (n : ℕ) (b : List ℕ) → all_differ (services_of (said n b)) ≡ true → (j k : ℕ) → j < k → k < n → same (service_in b j) (service_in b k) ≡ false
unfolding all_differ services_of blocks service_in
differ_apart zero b e j k h l = absurd (omega arith)
differ_apart (suc n) b e j zero h l = absurd (omega arith)
differ_apart (suc n) b e zero (suc k) h l =
    let p = both (not (among (service_in b 0) (services_of (said n (drop 512 b))))) (all_differ (services_of (said n (drop 512 b)))) e in
    let q : registered (service_in b 0) (said n (drop 512 b)) ≡ false = sym (among-registered (service_in b 0) (said n (drop 512 b))) ∙ not-true _ p.0 in
    ap (same (service_in b 0)) (sym (service_behind b k)) ∙ hit_none (service_in b 0) n (drop 512 b) q k (omega arith)
differ_apart (suc n) b e (suc j) (suc k) h l =
    let p = both (not (among (service_in b 0) (services_of (said n (drop 512 b))))) (all_differ (services_of (said n (drop 512 b)))) e in
    same_as (service_behind b j) (service_behind b k) ∙ differ_apart n (drop 512 b) p.1 j k (omega arith) (omega arith)

apart_differ : (n : ℕ) (b : List ℕ) → ((j k : ℕ) → j < k → k < n → same (service_in b j) (service_in b k) ≡ false) → all_differ (services_of (said n b)) ≡ true
unfolding all_differ services_of blocks service_in
apart_differ zero b h = refl
apart_differ (suc n) b h =
    let q : registered (service_in b 0) (said n (drop 512 b)) ≡ false =
    none_hit (service_in b 0) n (drop 512 b) (λ j l. ap (same (service_in b 0)) (service_behind b j) ∙ h 0 (suc j) (omega arith) (omega arith)) in
    rw (among-registered (service_in b 0) (said n (drop 512 b)), q)
    (apart_differ n (drop 512 b) (λ j k i l. sym (same_as (service_behind b j) (service_behind b k)) ∙ h (suc j) (suc k) (omega arith) (omega arith)))

-- bytes are those of entries that keep the rules where each block is
each_right : (m : ℕ) (b : List ℕ) → b ≡ joined (map encode_entry (said m b)) → all_entries_right (said m b) ≡ true → (k : ℕ) → k < m → panel_right (part (512 * k) 512 b) ≡ true
unfolding joined all_entries_right blocks panel_right
each_right zero b e r k l = absurd (omega arith)
each_right (suc m) b e r zero l =
    let x : List ℕ = take 512 b in
    let p = both (entry_right (decode_entry x)) (all_entries_right (said m (drop 512 b))) r in
    let n = length-entry (decode_entry x) (right_short (decode_entry x) p.0) in
    rw (eq-same x (encode_entry (decode_entry x)) (ap (λ (s : List ℕ). take 512 s) e ∙ take_at (encode_entry (decode_entry x)) (joined (map encode_entry (said m (drop 512 b)))) 512 n)) p.0
each_right (suc m) b e r (suc k) l =
    let x : List ℕ = take 512 b in
    let p = both (entry_right (decode_entry x)) (all_entries_right (said m (drop 512 b))) r in
    let n = length-entry (decode_entry x) (right_short (decode_entry x) p.0) in
    let back : drop 512 b ≡ joined (map encode_entry (said m (drop 512 b))) =
    ap (λ (s : List ℕ). drop 512 s) e ∙ drop_at (encode_entry (decode_entry x)) (joined (map encode_entry (said m (drop 512 b)))) 512 n in
    ap panel_right (sym (behind b k)) ∙ each_right m (drop 512 b) back p.1 k (omega arith)

right_both : (x : List ℕ) → panel_right x ≡ true → (x ≡ encode_entry (decode_entry x)) × (entry_right (decode_entry x) ≡ true)
unfolding panel_right
right_both x e = let p = both (same x (encode_entry (decode_entry x))) (entry_right (decode_entry x)) e in (same-eq x (encode_entry (decode_entry x)) p.0, p.1)

right_each : (m : ℕ) (b : List ℕ) → length b ≡ 512 * m → ((k : ℕ) → k < m → panel_right (part (512 * k) 512 b) ≡ true)
    → (b ≡ joined (map encode_entry (said m b))) × (all_entries_right (said m b) ≡ true)
unfolding joined all_entries_right blocks
right_each zero [] h g = (refl, refl)
right_each zero (x ∷ b) h g = absurd (omega arith)
right_each (suc m) b h g =
    let p = right_both (take 512 b) (g 0 (omega arith)) in
    let q = right_each m (drop 512 b) (omega (arith, length-drop 512 b)) (λ k l. ap panel_right (behind b k) ∙ g (suc k) (omega arith)) in
    (sym (take-append-drop 512 b) ∙ ap (λ (s : List ℕ). s ++ drop 512 b) p.0 ∙ ap (λ (s : List ℕ). encode_entry (decode_entry (take 512 b)) ++ s) q.0, rw (p.1, q.1))

-- what it means that a block is not at fault
module _ (b : List ℕ) (k : ℕ) (h : 512 * k ≤ length b) where
  count : length (take (512 * k) b) / 512 ≡ k
  count = omega (arith, length-take-le (512 * k) b h)

  no_fault : at_fault b k ≡ false → (panel_right (part (512 * k) 512 b) ≡ true) × ((j : ℕ) → j < k → same (service_in b k) (service_in b j) ≡ false)
  unfolding at_fault decode_register
  no_fault e =
      let p = or_both (not (panel_right (part (512 * k) 512 b))) (registered (service_in b k) (decode_register (take (512 * k) b))) e in
      (not-false (panel_right (part (512 * k) 512 b)) p.0, λ j l. same_as refl (service_front b j k l) ∙ hit_none (service_in b k) k (take (512 * k) b) (rw count at p.1) j l)

  faultless : panel_right (part (512 * k) 512 b) ≡ true → ((j : ℕ) → j < k → same (service_in b k) (service_in b j) ≡ false) → at_fault b k ≡ false
  unfolding at_fault decode_register
  faultless e g = rw (e, count) (none_hit (service_in b k) k (take (512 * k) b) (λ j l. sym (same_as refl (service_front b j k l)) ∙ g j l))

shape_whole : (n : ℕ) → register_shape n ≡ true → n ≡ 512 * (n / 512)
shape_whole n e = let r : n % 512 ≡ 0 = eqb-true (n % 512) 0 (both (eqb (n % 512) 0) (within 1 16 (n / 512)) e).0 in omega arith

lawful_none : (b : List ℕ) → register_lawful b ≡ true → (k : ℕ) → k < length b / 512 → at_fault b k ≡ false
unfolding decode_register
lawful_none b e k l =
    let r = lawful_register b e in
    let w : length b ≡ 512 * (length b / 512) = shape_whole (length b) r.shape in
    faultless b k (omega arith) (each_right (length b / 512) b r.bytes r.entries k l)
    (λ j i. turned (service_in b j) (service_in b k) (differ_apart (length b / 512) b r.services j k i l))

none_lawful : (b : List ℕ) → register_shape (length b) ≡ true → ((k : ℕ) → k < length b / 512 → at_fault b k ≡ false) → register_lawful b ≡ true
unfolding register_lawful decode_register
none_lawful b s g =
    let w : length b ≡ 512 * (length b / 512) = shape_whole (length b) s in
    let p = right_each (length b / 512) b w (λ k l. (no_fault b k (omega arith) (g k l)).0) in
    let d = apart_differ (length b / 512) b (λ j k i l. turned (service_in b k) (service_in b j) ((no_fault b k (omega arith) (g k l)).1 j i)) in
    rw (s, eq-same b (joined (map encode_entry (said (length b / 512) b))) p.0, p.1, d)

from_before : (k m : ℕ) (b : List ℕ) (j : ℕ) → k ≤ j → j < fault_from k m b → at_fault b j ≡ false
unfolding fault_from
from_before k zero b j h l = absurd (omega arith)
from_before k (suc m) b j h l = go (at_fault b k) refl l (dec_lt k j) (from_before (k + 1) m b j)
  where
    go : (x : Bool) → at_fault b k ≡ x → j < if x k (fault_from (k + 1) m b) → Dec (k < j) → (k + 1 ≤ j → j < fault_from (k + 1) m b → at_fault b j ≡ false) → at_fault b j ≡ false
    go true e l d later = absurd (omega arith)
    go false e l (yes i) later = later (omega arith) l
    go false e l (no i) later = let q : j ≡ k = omega arith in rw q e

from_at : (k m : ℕ) (b : List ℕ) → fault_from k m b < k + m → at_fault b (fault_from k m b) ≡ true
unfolding fault_from
from_at k zero b h = absurd (omega arith)
from_at k (suc m) b h = go (at_fault b k) refl h (from_at (k + 1) m b)
  where
    go : (x : Bool) → at_fault b k ≡ x → if x k (fault_from (k + 1) m b) < k + suc m → (fault_from (k + 1) m b < k + 1 + m → at_fault b (fault_from (k + 1) m b) ≡ true)
        → at_fault b (if x k (fault_from (k + 1) m b)) ≡ true
    go true e h later = e
    go false e h later = later (omega arith)

-- a register of a right length is lawful where the first block at fault is the one after the last
module _ (b : List ℕ) (s : register_shape (length b) ≡ true) where
  pub faults_none : length b / 512 ≤ fault_from 0 (length b / 512) b → register_lawful b ≡ true
  faults_none h = none_lawful b s (λ k l. from_before 0 (length b / 512) b k (omega arith) (omega arith))

  pub faults_some : fault_from 0 (length b / 512) b < length b / 512 → register_lawful b ≡ false
  faults_some h = go (register_lawful b) refl
    where
      go : (x : Bool) → register_lawful b ≡ x → x ≡ false
      go true e = sym (from_at 0 (length b / 512) b (omega arith)) ∙ lawful_none b e (fault_from 0 (length b / 512) b) h
      go false e = refl

-- what the block that is told is
pub record FirstFault (b : List ℕ) (k : ℕ) : Type 0 where
  pub inside : k < length b / 512
  pub faulty : at_fault b k ≡ true
  pub before : (j : ℕ) → j < k → at_fault b j ≡ false

pub fault_first : (b : List ℕ) → register_shape (length b) ≡ true → register_lawful b ≡ false → FirstFault b (fault_of b).block
unfolding fault_of
fault_first b s e = rw (e, s) (by_place (dec_lt (fault_from 0 (length b / 512) b) (length b / 512)))
  where
    by_place : Dec (fault_from 0 (length b / 512) b < length b / 512) → FirstFault b (fault_from 0 (length b / 512) b)
    by_place (yes h) = record { inside = h; faulty = from_at 0 (length b / 512) b (omega arith); before = λ j l. from_before 0 (length b / 512) b j (omega arith) l }
    by_place (no h) = absurd (let z : true ≡ false = sym (faults_none b s (omega arith)) ∙ e in let w : ◌≡◌ {A = ℕ} 0 1 = cc in omega arith)

-- the refusal is answer's own
pub fault-refusal : (b : List ℕ) → (fault_of b).refusal ≡ unless (register_lawful b) 3 0
unfolding fault_of
fault-refusal b = go (register_lawful b)
  where
    go : (x : Bool) → (if x (fault 0 0) (fault 3 (if (register_shape (length b)) (fault_from 0 (length b / 512) b) 0))).refusal ≡ unless x 3 0
    go true = refl
    go false = refl

-- a made block is read back, and is a lawful register
module _ (service callback block : List ℕ) (e : panel_refusal service callback (length block) ≡ 0) where
  pub panel_passed : (entry_right (entry service callback) ≡ true) × (length block ≡ 512)
  unfolding panel_refusal
  panel_passed =
      let p = passes (entry_right (entry service callback)) 3 _ (omega arith) e in
      (p.0, eqb-true (length block) 512 (passes (eqb (length block) 512) 4 0 (omega arith) p.1).0)

  panel_bytes : (panel_of service callback block).block ≡ encode_entry (entry service callback)
  unfolding panel_of
  panel_bytes = rw e

  pub panel_back : decode_entry (panel_of service callback block).block ≡ entry service callback
  panel_back = ap decode_entry panel_bytes ∙ entry_back (entry service callback) (right_short (entry service callback) panel_passed.0)

  pub panel_length : length (panel_of service callback block).block ≡ length block
  panel_length = ap length panel_bytes ∙ length-entry (entry service callback) (right_short (entry service callback) panel_passed.0) ∙ sym panel_passed.1

  pub panel_lawful : register_lawful (panel_of service callback block).block ≡ true
  unfolding register_lawful joined all_entries_right all_differ services_of among AllShort
  panel_lawful =
      let x : Entry = entry service callback in
      let short = right_short x panel_passed.0 in
      let n : length (encode_entry x) ≡ 512 = length-entry x short in
      let one : joined (map encode_entry (x ∷ [])) ≡ encode_entry x = append-nil (encode_entry x) in
      let back : decode_register (encode_entry x) ≡ x ∷ [] = ap decode_register (sym one) ∙ register_back (x ∷ []) (short, tt) in
      rw (panel_bytes, back, n, append-nil (encode_entry x), same_refl (encode_entry x), panel_passed.0)
