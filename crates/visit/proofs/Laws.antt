-- Visits by their slots, which of them is told, and that the call is so answered. Assumes nothing.
use mathlib.Core.Path.{◌≡◌, refl, sym, ◌∙◌}
use mathlib.Core.Bool.{Bool, true, false, ◌&&◌, cond}
use mathlib.Core.List.{List, [], ◌∷◌}
use Prim.Native.Nat.{ℕ, zero, suc, ◌+◌, ◌-◌, ◌/◌, ◌≤◌, ◌<◌, max}
use native.Mathlib.Nat.{zero-add}
use native.Mathlib.Numerals.{add-one, sub-one}
use native.Mathlib.Omega.{arith}
use borrow.Author.Tests.{ne_eqb, eqb-true, lt-ltb, le-ltb, ltb-true, ltb-false}
use lib.Dec.{eqb, leb, ltb}
use lib.ListN.{length, drop, get_or, drop_of_length-le}
use lib.Seq.{drop-cons}
use Rattle.std.specs.List.{filter, slice_get, range_with_len}
use Rattle.protocol.specs.Bytes.{if}
use Rattle.protocol.specs.Records.{Rec, free_rec}
use Rattle.protocol.specs.Table.{decode_table, rec_at, table_shape, table_lawful, last_time}
use Rattle.protocol.specs.Written.{Wrote}
use Rattle.protocol.specs.Held.{In, said_at}
use Rattle.protocol.specs.Calls.{unless}
use Rattle.protocol.specs.Visits.{is_visit, visits_in, visits_of, visit_text, visit_unless, visit_refusal, visit_said, VisitRead, visit_read, visit_given, visit_refused, visit_of}
use Rattle.protocol.proofs.Laws.{both}
use Rattle.protocol.proofs.Places.{slots_count}
use Rattle.protocol.proofs.Held.{slot_in}
use Rattle.std.specs.Prelude.{Option, Some, None}
use Rattle.table_find.specs.Searches.{found_at}
use Rattle.table.proofs.Laws.{at_slot}
use Rattle.table_find.proofs.Laws.{found_is, found_low, found_none}
use Rattle.visit.specs.Telling.{visit_from, visit_slot, told}

-- the n-th of the slots behind the first k that pass the test is the slot of the n-th visit there
behind : (s : ℕ) (slots : List Rec) (k m n : ℕ) → k + m ≡ length slots → slice_get (filter (λ i. is_visit s (rec_at i slots)) (range_with_len (k + 1) m)) n ≡ found_at (visit_from (k + 1) s n (drop k slots))
unfolding visit_from found_at
behind s slots k zero n h = rw (drop_of_length-le slots {i = k} (omega (arith, h)))
behind s slots k (suc m) n h =
    let r : Rec = get_or slots k free_rec in
    let d : drop k slots ≡ r ∷ drop (suc k) slots = drop-cons slots k free_rec (omega arith) in
    let q : k + 1 ≡ suc k = add-one k in
    rw (d, q) (one (is_visit s r) n (λ j. behind s slots (suc k) m j (omega arith)))
  where
    one : (z : Bool) (n : ℕ) → ((j : ℕ) → slice_get (filter (λ i. is_visit s (rec_at i slots)) (range_with_len (suc k + 1) m)) j ≡ found_at (visit_from (suc k + 1) s j (drop (suc k) slots)))
        → slice_get (cond z (suc k ∷ filter (λ i. is_visit s (rec_at i slots)) (range_with_len (suc k + 1) m)) (filter (λ i. is_visit s (rec_at i slots)) (range_with_len (suc k + 1) m))) n
        ≡ found_at (if (z && eqb n 0) (suc k) (visit_from (suc k + 1) s (if z (n - 1) n) (drop (suc k) slots)))
    one false n later = later n
    one true zero later = refl
    one true (suc n) later = rw (sub-one, ne_eqb (suc n) 0 (λ e. omega arith)) (later n)

pub visit_found : (b : List ℕ) (s n : ℕ) → 512 ≤ length b
    → slice_get (filter (λ k. is_visit s (said_at k b)) (range_with_len 1 (length b / 512 - 1))) n ≡ found_at (visit_slot s n (decode_table b).slots)
visit_found b s n h = behind s (decode_table b).slots 0 (length b / 512 - 1) n (omega (arith, slots_count b))

-- The visit of a number

-- of the slots from k on, which have these visits, v is the slot of the n-th
record Chosen (rs visits : List Rec) (k n v : ℕ) : Type 0 where
  low : k ≤ v
  high : v < k + length rs
  is : get_or rs (v - k) free_rec ≡ get_or visits n free_rec

chosen_here : (r : Rec) (rs visits : List Rec) (k : ℕ) → Chosen (r ∷ rs) (r ∷ visits) k 0 k
chosen_here r rs visits k = let e : k - k ≡ 0 = omega arith in record { low = omega arith; high = omega arith; is = rw e }

chosen_past : (r : Rec) (rs visits : List Rec) (k n v : ℕ) → Chosen rs visits (k + 1) n v → Chosen (r ∷ rs) (r ∷ visits) k (suc n) v
chosen_past r rs visits k n v c =
    let e : v - k ≡ suc (v - (k + 1)) = omega (arith, c.low) in
    record { low = omega (arith, c.low); high = omega (arith, c.high); is = rw e c.is }

chosen_next : (r : Rec) (rs visits : List Rec) (k n v : ℕ) → Chosen rs visits (k + 1) n v → Chosen (r ∷ rs) visits k n v
chosen_next r rs visits k n v c =
    let e : v - k ≡ suc (v - (k + 1)) = omega (arith, c.low) in
    record { low = omega (arith, c.low); high = omega (arith, c.high); is = rw e c.is }

-- below the count a search finds it
visit_chosen : (s : ℕ) (rs : List Rec) (k n : ℕ) → n < length (visits_in s rs) → Chosen rs (visits_in s rs) k n (visit_from k s n rs)
unfolding visit_from visits_in
visit_chosen s [] k n h = absurd (omega arith)
visit_chosen s (r ∷ rs) k n h = step (is_visit s r) n (visit_chosen s rs (k + 1)) h
  where
    step : (z : Bool) (n : ℕ) → ((m : ℕ) → m < length (visits_in s rs) → Chosen rs (visits_in s rs) (k + 1) m (visit_from (k + 1) s m rs))
        → n < length (if z (r ∷ visits_in s rs) (visits_in s rs))
        → Chosen (r ∷ rs) (if z (r ∷ visits_in s rs) (visits_in s rs)) k n (if (z && eqb n 0) k (visit_from (k + 1) s (if z (n - 1) n) rs))
    step false n later h = chosen_next r rs (visits_in s rs) k n (visit_from (k + 1) s n rs) (later n h)
    step true zero later h = chosen_here r rs (visits_in s rs) k
    step true (suc n) later h = rw (sub-one, ne_eqb (suc n) 0 (λ e. omega arith)) (chosen_past r rs (visits_in s rs) k n (visit_from (k + 1) s n rs) (later n (omega arith)))

-- each of them is a visit
visits_are : (s : ℕ) (rs : List Rec) (n : ℕ) → n < length (visits_in s rs) → 7 ≡ (get_or (visits_in s rs) n free_rec).kind
unfolding visits_in
visits_are s [] n h = absurd (omega arith)
visits_are s (r ∷ rs) n h = step (is_visit s r) refl n (visits_are s rs) h
  where
    step : (z : Bool) → is_visit s r ≡ z → (n : ℕ) → ((m : ℕ) → m < length (visits_in s rs) → 7 ≡ (get_or (visits_in s rs) m free_rec).kind)
        → n < length (if z (r ∷ visits_in s rs) (visits_in s rs)) → 7 ≡ (get_or (if z (r ∷ visits_in s rs) (visits_in s rs)) n free_rec).kind
    step false e n later h = later n h
    step true e zero later h = sym (eqb-true r.kind 7 (both (eqb r.kind 7) (eqb r.session s) e).0)
    step true e (suc n) later h = later n (omega arith)

-- and else nothing
visit_none : (s : ℕ) (rs : List Rec) (k n : ℕ) → length (visits_in s rs) ≤ n → visit_from k s n rs ≡ 0
unfolding visit_from visits_in
visit_none s [] k n h = refl
visit_none s (r ∷ rs) k n h = step (is_visit s r) n (visit_none s rs (k + 1)) h
  where
    step : (z : Bool) (n : ℕ) → ((m : ℕ) → length (visits_in s rs) ≤ m → visit_from (k + 1) s m rs ≡ 0)
        → length (if z (r ∷ visits_in s rs) (visits_in s rs)) ≤ n → if (z && eqb n 0) k (visit_from (k + 1) s (if z (n - 1) n) rs) ≡ 0
    step false n later h = later n h
    step true zero later h = absurd (omega arith)
    step true (suc n) later h = rw (sub-one, ne_eqb (suc n) 0 (λ e. omega arith)) (later n (omega arith))

module _ (b : List ℕ) (s n : ℕ) {f : Option ℕ} (e : f ≡ found_at (visit_slot s n (decode_table b).slots)) where
  abbrev recs : List Rec
  recs = (decode_table b).slots

  abbrev visits : List Rec
  visits = visits_in s recs

  module _ {k : ℕ} (g : f ≡ Some k) where
    is_slot : k ≡ visit_slot s n recs
    is_slot = found_is (visit_slot s n recs) e g

    below : n < length visits
    below = go (ltb n (length visits)) refl
      where
        go : (z : Bool) → ltb n (length visits) ≡ z → n < length visits
        go true q = ltb-true n (length visits) q
        go false q = absurd (omega (arith, is_slot, found_low (visit_slot s n recs) e g, visit_none s recs 1 n (ltb-false n (length visits) q)))

    chosen : Chosen recs visits 1 n k
    chosen = let q = is_slot in rw q (visit_chosen s recs 1 n below)

    pub visit_slot_lem : In k b
    visit_slot_lem = slot_in b k chosen.low (omega (arith, chosen.high))

    visit_is : rec_at k recs ≡ get_or visits n free_rec
    visit_is = at_slot recs k chosen.low ∙ chosen.is

    pub visit_kind : 7 ≡ (rec_at k recs).kind
    visit_kind = rw visit_is (visits_are s recs n below)

    pub told_given : (random o o' : List ℕ) (clock m : ℕ) → Wrote o 0 o' m (visit_text (rec_at k (decode_table b).slots) clock random)
        → visit_read (record { refusal = 0; length = m }) b o' ≡ told (visits_in s (decode_table b).slots) n clock random b o
    unfolding told
    told_given random o o' clock m w =
        let y : m ≡ length (visit_text (rec_at k recs) clock random) = w.moves ∙ zero-add _ in
        rw (lt-ltb n (length visits) below, sym visit_is, y, w.holds)

  pub told_none : f ≡ None → (random o : List ℕ) (clock : ℕ) → visit_read (record { refusal = 9; length = 0 }) b o ≡ told (visits_in s (decode_table b).slots) n clock random b o
  unfolding told
  told_none g random o clock = rw (le-ltb n (length visits) (beyond (ltb n (length visits)) refl))
    where
      beyond : (z : Bool) → ltb n (length visits) ≡ z → length visits ≤ n
      beyond true q = absurd (omega (arith, found_none (visit_slot s n recs) e g, (visit_chosen s recs 1 n (ltb-true n (length visits) q)).low))
      beyond false q = ltb-false n (length visits) q

-- The call: refused, or so told

-- a refusal of the list stands before the last one, and without it the last one decides
module _ (b : List ℕ) (time random out : ℕ) where
  refused_first : (y : ℕ) → (visit_unless b time random out 0 ≡ 0 → ⊥) → visit_unless b time random out y ≡ visit_unless b time random out 0
  refused_first y h = first (table_shape (length b)) (table_lawful b) (leb 8192 out && eqb random 48) (leb time last_time) h
    where
      first : (p q r s : Bool) → (unless p 1 (unless q 2 (unless r 4 (unless s 6 0))) ≡ 0 → ⊥) → unless p 1 (unless q 2 (unless r 4 (unless s 6 y))) ≡ unless p 1 (unless q 2 (unless r 4 (unless s 6 0)))
      first true true true true h = absurd (h refl)
      first true true true false h = refl
      first true true false s h = refl
      first true false r s h = refl
      first false q r s h = refl

  refused_last : (y : ℕ) → visit_unless b time random out 0 ≡ 0 → visit_unless b time random out y ≡ y
  refused_last y h = last (table_shape (length b)) (table_lawful b) (leb 8192 out && eqb random 48) (leb time last_time) h
    where
      last : (p q r s : Bool) → unless p 1 (unless q 2 (unless r 4 (unless s 6 0))) ≡ 0 → unless p 1 (unless q 2 (unless r 4 (unless s 6 y))) ≡ y
      last true true true true h = refl
      last true true true false h = absurd (omega arith)
      last true true false s h = absurd (omega arith)
      last true false r s h = absurd (omega arith)
      last false q r s h = absurd (omega arith)

module _ (b cookie : List ℕ) (n time : ℕ) (random o : List ℕ) {x : ℕ} (e : x ≡ visit_unless b time (length random) (length o) 0) where
  pub visit_refused_lem : (x ≡ 0 → ⊥) → visit_read (record { refusal = x; length = 0 }) b o ≡ visit_of b cookie n time random o
  unfolding visit_of visit_refusal
  visit_refused_lem h =
      let y = refused_first b time (length random) (length o) (unless (ltb n (length (visits_of cookie time (decode_table b)))) 9 0) (λ z. h (e ∙ z)) in
      rw (y, ← e, ne_eqb x 0 h)

  pub visit_told : {r : VisitRead} → x ≡ 0 → r ≡ told (visits_of cookie time (decode_table b)) n (max (decode_table b).clock time) random b o → r ≡ visit_of b cookie n time random o
  unfolding visit_of visit_refusal visit_said told
  visit_told z q =
      let y = refused_last b time (length random) (length o) (unless (ltb n (length (visits_of cookie time (decode_table b)))) 9 0) (sym e ∙ z) in
      q ∙ rw y (by (ltb n (length (visits_of cookie time (decode_table b)))))
    where
      by : (z : Bool) → let given = visit_given (visit_text (get_or (visits_of cookie time (decode_table b)) n free_rec) (max (decode_table b).clock time) random) b o in
          if z given (visit_refused 9 b o) ≡ if (eqb (unless z 9 0) 0) given (visit_refused (unless z 9 0) b o)
      by true = refl
      by false = refl
