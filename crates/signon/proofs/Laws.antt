-- The calls: refused with nothing written, or answered on the table after the clock. Assumes nothing.
use mathlib.Core.Path.{◌≡◌, refl, sym, ap, ◌∙◌}
use mathlib.Core.Bool.{Bool, true, false, ◌&&◌}
use mathlib.Core.List.{List, []}
use Prim.Native.Nat.{ℕ, ◌≤◌}
use native.Mathlib.Omega.{arith}
use borrow.Author.Tests.{eqb-true, leb-true}
use lib.Dec.{eqb, leb}
use lib.ListN.{length}
use Rattle.protocol.specs.Table.{decode_table, table_shape, table_lawful, last_time}
use Rattle.protocol.specs.Request.{request_of}
use Rattle.protocol.specs.Steps.{tick, request_step, finish}
use Rattle.protocol.specs.Calls.{inputs, result_of, answer_refusal, step_of, answer_of, format_refusal, housekeep_refusal, finish_refusal, finish_of, brought_by}
use Rattle.protocol.specs.Visits.{visit_unless}
use Rattle.protocol.specs.Held.{Fine, Holds, Lawful, Done, Did, Lent}
use Rattle.protocol.specs.declared.Method.{Method}
use Rattle.protocol.specs.declared.Method.TheVariants as method
use Rattle.protocol.specs.declared.Outcome.{Outcome}
use Rattle.protocol.proofs.Laws.{both, lawful_rules}
use Rattle.protocol.proofs.Sound.{sound_lawful, tick_sound}
use Rattle.protocol.proofs.Held.{sound_held, holds_bytes}
use Rattle.protocol.proofs.Told.{done_did, did_delivered}
use Rattle.protocol.proofs.Lasting.{passes, Passed}
use Rattle.protocol.proofs.Top.{top_passed}
use Rattle.table_judge.proofs.Worth.{shaped, lawful_law}
use Rattle.table_edit.specs.Edits.{Shape}

-- the clock keeps a lawful table lawful
pub clock_lawful : (b : List ℕ) {b' : List ℕ} (n : ℕ) → Lawful b → n ≤ last_time → Holds b' (tick n (decode_table b)) → Lawful b'
clock_lawful b {b'} n l h k =
    let e : table_lawful b' ≡ true = ap table_lawful (holds_bytes b' (tick n (decode_table b)) k) ∙ sound_lawful (tick n (decode_table b)) (tick_sound n (decode_table b) h (sound_held b l)) in
    record { fine = k.fine; rules = lawful_rules b' e }

-- format
module _ (t : List ℕ) (n : ℕ) (e : 0 ≡ format_refusal (length t) n) where
  pub format_shape : Shape (length t)
  unfolding format_refusal
  format_shape =
      let p = passes (table_shape (length t)) 1 _ (omega arith) (sym e) in
      let s = shaped (length t) p.0 in
      record { whole = omega (arith, s.whole); least = s.low; most = s.high }

-- housekeeping
module _ (t : List ℕ) (n : ℕ) (e : 0 ≡ housekeep_refusal t n) where
  tidied : (Lawful t) × (n ≤ last_time)
  unfolding housekeep_refusal
  tidied =
      let p1 = passes (table_shape (length t)) 1 _ (omega arith) (sym e) in
      let p2 = passes (table_lawful t) 2 _ (omega arith) p1.1 in
      let p6 = passes (leb n last_time) 6 0 (omega arith) p2.1 in
      (lawful_law t p1.0 p2.0, leb-true n last_time p6.0)

  pub housekeep_lawful : Lawful t
  housekeep_lawful = tidied.0

  pub housekeep_time : n ≤ last_time
  housekeep_time = tidied.1

-- finish
module _ (t : List ℕ) (n : ℕ) (o : List ℕ) (e : 0 ≡ finish_refusal t n (length o)) where
  seen : (Lawful t) × (8192 ≤ length o) × (n ≤ last_time)
  unfolding finish_refusal
  seen =
      let p1 = passes (table_shape (length t)) 1 _ (omega arith) (sym e) in
      let p2 = passes (table_lawful t) 2 _ (omega arith) p1.1 in
      let p4 = passes (leb 8192 (length o)) 4 _ (omega arith) p2.1 in
      let p6 = passes (leb n last_time) 6 0 (omega arith) p4.1 in
      (lawful_law t p1.0 p2.0, leb-true 8192 (length o) p4.0, leb-true n last_time p6.0)

  pub finish_lawful : Lawful t
  finish_lawful = seen.0

  pub finish_room : 8192 ≤ length o
  finish_room = seen.1

  pub finish_time : n ≤ last_time
  finish_time = seen.2

  pub finish_started : {b : List ℕ} → Holds b (tick n (decode_table t)) → Lawful b
  finish_started k = clock_lawful t n finish_lawful finish_time k

  pub finish_done : (s : ℕ) (v : Bool) {b t' o' : List ℕ} {y : Outcome} → Holds b (tick n (decode_table t)) → Done (finish s v (decode_table b)) y t' o o'
      → result_of y t' o' [] ≡ finish_of t s v n o
  unfolding finish_of
  finish_done s v {b} {t'} {o'} {y} k d =
      did_delivered (done_did [] d) ∙ rw (k.is, ← e)

-- answer: no refusal reads the method, the cookie or the verdict, so any will do for what an answered call knows
module _ (t g u b : List ℕ) (n : ℕ) (d o c : List ℕ) (e : 0 ≡ answer_refusal t g (length u) (length b) n (length d) (length o) (length c)) where
  told : Passed (inputs t g method.Get u b [] n d false o c)
  told = top_passed t g method.Get u b [] n d false o c e refl

  pub answer_lawful : Lawful t
  answer_lawful = lawful_law t told.shape told.lawful

  pub answer_time : n ≤ last_time
  answer_time = told.time

  pub answer_cookie : 64 ≤ length c
  answer_cookie = told.cookie

  pub answer_drawn : length d ≡ 48
  answer_drawn = told.random

  pub answer_lent : {b' : List ℕ} → Holds b' (tick n (decode_table t)) → Lent b' g d o
  answer_lent k = record { lawful = clock_lawful t n answer_lawful answer_time k; panels = told.register; drawn = told.random; room = told.out }

  pub answer_done : (m : Method) (k : List ℕ) (v : Bool) {b' t' o' c' : List ℕ} {y : Outcome} → Holds b' (tick n (decode_table t))
      → Did (request_step (request_of m u b) (brought_by g k d v) (decode_table b')) y t' o o' c c'
      → result_of y t' o' c' ≡ answer_of (inputs t g m u b k n d v o c)
  unfolding answer_of step_of
  answer_done m k v h w = did_delivered w ∙ rw (h.is, ← e)

-- visit: what an answered call knows
module _ (t : List ℕ) (n : ℕ) (d o : List ℕ) (e : 0 ≡ visit_unless t n (length d) (length o) 0) where
  ready : (Lawful t) × (8192 ≤ length o) × (length d ≡ 48) × (n ≤ last_time)
  ready =
      let p1 = passes (table_shape (length t)) 1 _ (omega arith) (sym e) in
      let p2 = passes (table_lawful t) 2 _ (omega arith) p1.1 in
      let p4 = passes (leb 8192 (length o) && eqb (length d) 48) 4 _ (omega arith) p2.1 in
      let p6 = passes (leb n last_time) 6 0 (omega arith) p4.1 in
      let q = both (leb 8192 (length o)) (eqb (length d) 48) p4.0 in
      (lawful_law t p1.0 p2.0, leb-true 8192 (length o) q.0, eqb-true (length d) 48 q.1, leb-true n last_time p6.0)

  pub visit_fine : Fine t
  visit_fine = ready.0.fine

  pub visit_room : 8192 ≤ length o
  visit_room = ready.1

  pub visit_drawn : length d ≡ 48
  visit_drawn = ready.2

  pub visit_time : n ≤ last_time
  visit_time = ready.3
