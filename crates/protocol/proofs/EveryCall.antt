-- What holds of every call: the length of no table and of no buffer changes, what is told to have been written fits, and the next serial never falls.
-- Assumes nothing.
use mathlib.Core.Path.{◌≡◌, refl, ap, ◌∙◌}
use mathlib.Core.Bool.{Bool, true, false, ◌&&◌}
use mathlib.Core.List.{List, [], ◌∷◌}
use Prim.Native.Nat.{ℕ, zero, suc, ◌-◌, ◌/◌, ◌%◌, ◌≤◌, max}
use native.Mathlib.Omega.{arith}
use borrow.Author.Tests.{eqb-true, leb-true}
use lib.Dec.{eqb, leb}
use lib.ListN.{length, get_or, length-replicate, length-map}
use Rattle.protocol.specs.Bytes.{if, within}
use Rattle.protocol.specs.Records.{Rec, free_rec}
use Rattle.protocol.specs.Table.{Table, encode_table, decode_table, table_shape, table_lawful, last_time, formatted}
use Rattle.protocol.specs.Request.{Read, Malformed, Given, Posted, posted, request_of}
use Rattle.protocol.specs.Answers.{reply_text}
use Rattle.protocol.specs.Steps.{Step, tick, clear_rec, clear, finished, finish}
use Rattle.protocol.specs.Calls.{Inputs, Result, refusal, brought, step_of, outcome_with, delivered, unchanged, answer_of, finish_refusal, finish_of, Numbered, format_refusal, format_of, housekeep_refusal, housekeep_of, form_refusal, FormRead, form_by, form_refused, form_of}
use Rattle.protocol.specs.Visits.{is_visit, visits_in, session_at, visits_of, VisitRead, visit_given, visit_refusal, visit_said, visit_of}
use Rattle.protocol.specs.Held.{AllFit}
use Rattle.protocol.proofs.Laws.{both, fork, length_table, table_back}
use Rattle.protocol.proofs.Sound.{Sound, clear_sound}
use Rattle.protocol.proofs.Proper.{ProperPosted, posted_proper}
use Rattle.protocol.proofs.Visits.{visit_fits}
use Rattle.protocol.proofs.Places.{slots_count}
use Rattle.protocol.proofs.Edits.{Edits, request_edits, finish_edits, size_edits, size_tick, reach, reach_rises}
use Rattle.protocol.proofs.Courses.{FinishCourse, none, raises, drops, finish_course}
use Rattle.protocol.proofs.Sizes.{length-spliced, small_fits}
use Rattle.protocol.proofs.Replies.{Fitting, finish_fits}
use Rattle.protocol.proofs.StepSound.{finish_sound}
use Rattle.protocol.proofs.Lasting.{passes, lawful_sound, passed, started, step_sound, step_fits, finishes, housekept, formatted_sound}

-- The calls that answer over a table

-- a result beside the table, the output and the cookie output that were lent
pub record Kept (b o c : List ℕ) (r : Result) : Type 0 where
  pub table : length r.table ≡ length b
  pub out : length r.out ≡ length o
  pub cookie : length r.cookie ≡ length c
  pub written : r.outcome.length ≤ length o
  pub cookie_written : r.outcome.cookie_length ≤ length c
  pub serials : reach (decode_table b).next ≤ reach (decode_table r.table).next

unchanged-kept : (n : ℕ) (b out cookie_out : List ℕ) → Kept b out cookie_out (unchanged n b out cookie_out)
unchanged-kept n b out cookie_out = record { table = refl; out = refl; cookie = refl; written = omega arith; cookie_written = omega arith; serials = omega arith }

-- a table of as many slots is as long
same_size : (b : List ℕ) → table_shape (length b) ≡ true → (t : Table) → Sound t → length t.slots ≡ length (decode_table b).slots → length (encode_table t) ≡ length b
same_size b h t s e =
    let w = both (eqb (length b % 512) 0) (within 9 128 (length b / 512)) h in
    let x = eqb-true (length b % 512) 0 w.0 in
    let y = leb-true 9 (length b / 512) (both (leb 9 (length b / 512)) (leb (length b / 512) 128) w.1).0 in
    omega (arith, length_table t s.fit, slots_count b)

-- a step that edits the table after the clock, leaves it sound, and fits
module _ (b : List ℕ) (time : ℕ) (h : table_shape (length b) ≡ true) (n : Sound (tick time (decode_table b))) (s : Step) (e : Edits (tick time (decode_table b)) s.table) (k : Sound s.table) (f : Fitting s) where
  same_length : length (encode_table s.table) ≡ length b
  same_length = same_size b h s.table k (omega (arith, size_edits e, size_tick time (decode_table b)))

  later_serial : reach (decode_table b).next ≤ reach (decode_table (encode_table s.table)).next
  unfolding tick
  later_serial =
      let q : decode_table (encode_table s.table) ≡ s.table = table_back s.table k.fit (omega (arith, k.rules.clock)) k.next in
      rw q (reach_rises e n.next)

  delivered-kept : (out cookie_out : List ℕ) → 8192 ≤ length out → length s.cookie ≤ length cookie_out → Kept b out cookie_out (delivered s out cookie_out)
  unfolding delivered outcome_with
  delivered-kept out cookie_out o c =
      let m = small_fits f.reply in
      record {
        table = same_length;
        out = length-spliced out 0 (reply_text s.reply) (omega arith);
        cookie = length-spliced cookie_out 0 s.cookie (omega arith);
        written = omega arith;
        cookie_written = c;
        serials = later_serial;
      }

pub answer_kept : (i : Inputs) → Kept i.table i.out i.cookie_out (answer_of i)
unfolding answer_of step_of
answer_kept i =
    fork (Kept i.table i.out i.cookie_out) (eqb (refusal i) 0)
    (λ z. let p = passed i (eqb-true (refusal i) 0 z) in
    let f = step_fits i p in
    delivered-kept i.table i.time p.shape (started i p) (step_of i) (request_edits (request_of i.method i.target i.body) (brought i) (tick i.time (decode_table i.table))) (step_sound i p) f i.out i.cookie_out p.out
    (omega (arith, f.cookie, p.cookie)))
    (λ z. unchanged-kept (refusal i) i.table i.out i.cookie_out)

-- finish writes no cookie
finish_cookie : (serial : ℕ) (outcome : Bool) (t : Table) → length (finish serial outcome t).cookie ≤ 0
unfolding finished
finish_cookie serial outcome t = none_written (finish_course serial outcome t)
  where
    none_written : {x : Step} → FinishCourse serial outcome t x → length x.cookie ≤ 0
    none_written (none e) = omega arith
    none_written (raises o l) = omega arith
    none_written (drops o l) = omega arith

pub finish-kept : (table : List ℕ) (serial : ℕ) (outcome : Bool) (time : ℕ) (out : List ℕ) → Kept table out [] (finish_of table serial outcome time out)
unfolding finish_of
finish-kept table serial outcome time out =
    fork (Kept table out []) (eqb (finish_refusal table time (length out)) 0)
    (λ z. let p = finishes table time out (eqb-true (finish_refusal table time (length out)) 0 z) in
    let t : Table = tick time (decode_table table) in
    delivered-kept table time p.shape p.sound (finish serial outcome t) (finish_edits serial outcome t) (finish_sound serial outcome t p.sound) (finish_fits serial outcome t p.sound) out [] p.room (finish_cookie serial outcome t))
    (λ z. unchanged-kept (finish_refusal table time (length out)) table out [])

-- The other calls

formatted_slots : (n time : ℕ) → length (formatted n time).slots ≡ n
unfolding formatted
formatted_slots n time = length-replicate n free_rec

pub format_kept : (table : List ℕ) (time : ℕ) → length (format_of table time).table ≡ length table
unfolding format_of format_refusal
format_kept table time = fork (λ (r : Numbered). length r.table ≡ length table) (eqb (format_refusal (length table) time) 0) (λ z. fresh (eqb-true (format_refusal (length table) time) 0 z)) (λ z. refl)
  where
    fresh : format_refusal (length table) time ≡ 0 → length (encode_table (formatted (length table / 512 - 1) time)) ≡ length table
    fresh e =
        let p = passes (table_shape (length table)) 1 _ (omega arith) e in
        let q = passes (leb time last_time) 6 0 (omega arith) p.1 in
        let w = both (eqb (length table % 512) 0) (within 9 128 (length table / 512)) p.0 in
        let x = eqb-true (length table % 512) 0 w.0 in
        let y = both (leb 9 (length table / 512)) (leb (length table / 512) 128) w.1 in
        let s = formatted_sound (length table / 512 - 1) time (omega (arith, leb-true (length table / 512) 128 y.1)) (leb-true time last_time q.0) in
        omega (arith, length_table (formatted (length table / 512 - 1) time) s.fit, formatted_slots (length table / 512 - 1) time, leb-true 9 (length table / 512) y.0)

-- housekeeping; the next serial is the one that it was
size_clear : (t : Table) → length (clear t).slots ≡ length t.slots
unfolding clear
size_clear t = length-map t.slots (clear_rec t.clock)

same_next : (time : ℕ) (t : Table) → (clear (tick time t)).next ≡ t.next
unfolding clear tick
same_next time t = refl

pub housekeep_kept : (table : List ℕ) (time : ℕ) → length (housekeep_of table time).table ≡ length table
unfolding housekeep_of
housekeep_kept table time =
    fork (λ (r : Numbered). length r.table ≡ length table) (eqb (housekeep_refusal table time) 0)
    (λ z. let p = housekept table time (eqb-true (housekeep_refusal table time) 0 z) in
    same_size table p.shape (clear (tick time (decode_table table))) (clear_sound (tick time (decode_table table)) p.sound) (size_clear (tick time (decode_table table)) ∙ size_tick time (decode_table table)))
    (λ z. refl)

pub housekeep_serials : (table : List ℕ) (time : ℕ) → (decode_table (housekeep_of table time).table).next ≡ (decode_table table).next
unfolding housekeep_of
housekeep_serials table time =
    fork (λ (r : Numbered). (decode_table r.table).next ≡ (decode_table table).next) (eqb (housekeep_refusal table time) 0)
    (λ z. let k = clear_sound (tick time (decode_table table)) (housekept table time (eqb-true (housekeep_refusal table time) 0 z)).sound in
    ap (λ (t : Table). t.next) (table_back (clear (tick time (decode_table table))) k.fit (omega (arith, k.rules.clock)) k.next) ∙ same_next time (decode_table table))
    (λ z. refl)

-- the form reader
pub record FormKept (u w : List ℕ) (f : FormRead) : Type 0 where
  pub username : length f.username ≡ length u
  pub password : length f.password ≡ length w
  pub name_written : f.form.username_length ≤ length u
  pub word_written : f.form.password_length ≤ length w

refused_form_lem : (n : ℕ) (u w : List ℕ) → FormKept u w (form_refused n u w)
refused_form_lem n u w = record { username = refl; password = refl; name_written = omega arith; word_written = omega arith }

read_form : (r : Read Posted) → ProperPosted r → (u w : List ℕ) → 64 ≤ length u → 128 ≤ length w → FormKept u w (form_by r u w)
read_form Malformed q u w a b = refused_form_lem 7 u w
read_form (Given p) q u w a b =
    let m = q.user_short in
    let n = q.password_short in
    record { username = length-spliced u 0 p.username (omega arith); password = length-spliced w 0 p.password (omega arith); name_written = omega arith; word_written = omega arith }

pub form_kept : (body u w : List ℕ) → FormKept u w (form_of body u w)
unfolding form_of form_refusal
form_kept body u w =
    fork (FormKept u w) (eqb (form_refusal body (length u) (length w)) 0)
    (λ z. let p = passes (leb 64 (length u) && leb 128 (length w)) 4 _ (omega arith) (eqb-true (form_refusal body (length u) (length w)) 0 z) in
    let q = both (leb 64 (length u)) (leb 128 (length w)) p.0 in
    read_form (posted body) (posted_proper body) u w (leb-true 64 (length u) q.0) (leb-true 128 (length w) q.1))
    (λ z. refused_form_lem (form_refusal body (length u) (length w)) u w)

-- a visit's text is a record's
visits_short : (s : ℕ) (rs : List Rec) (n : ℕ) → AllFit rs → length (get_or (visits_in s rs) n free_rec).text ≤ 200
unfolding visits_in AllFit
visits_short s [] n f = omega arith
visits_short s (r ∷ rs) n f = pick (λ m. visits_short s rs m f.1) (is_visit s r) n
  where
    pick : ((m : ℕ) → length (get_or (visits_in s rs) m free_rec).text ≤ 200) → (z : Bool) (n : ℕ) → length (get_or (if z (r ∷ visits_in s rs) (visits_in s rs)) n free_rec).text ≤ 200
    pick later true zero = f.0.sized.text
    pick later true (suc n) = later n
    pick later false n = later n

visit_short : (t : Table) → Sound t → (cookie : List ℕ) (number time : ℕ) → length (get_or (visits_of cookie time t) number free_rec).text ≤ 200
unfolding visits_of
visit_short t s cookie number time =
    fork (λ (rs : List Rec). length (get_or rs number free_rec).text ≤ 200) (eqb (session_at cookie time t) 0) (λ e. omega arith) (λ e. visits_short (session_at cookie time t) t.slots number s.fit)

-- visit; its table is as it was (`visit_keeps`)
pub record VisitKept (o : List ℕ) (v : VisitRead) : Type 0 where
  pub out : length v.out ≡ length o
  pub written : v.visit.length ≤ length o

pub visit_kept : (table cookie : List ℕ) (number time : ℕ) (random out : List ℕ) → VisitKept out (visit_of table cookie number time random out)
unfolding visit_of visit_refusal visit_said
visit_kept table cookie number time random out =
    fork (VisitKept out) (eqb (visit_refusal table cookie number time (length random) (length out)) 0) (λ z. told (eqb-true (visit_refusal table cookie number time (length random) (length out)) 0 z)) (λ z. record { out = refl; written = omega arith })
  where
    told : visit_refusal table cookie number time (length random) (length out) ≡ 0 → VisitKept out (visit_given (visit_said table cookie number time random) table out)
    told e =
        let p1 = passes (table_shape (length table)) 1 _ (omega arith) e in
        let p2 = passes (table_lawful table) 2 _ (omega arith) p1.1 in
        let p4 = passes (leb 8192 (length out) && eqb (length random) 48) 4 _ (omega arith) p2.1 in
        let p6 = passes (leb time last_time) 6 _ (omega arith) p4.1 in
        let s = lawful_sound table p1.0 p2.0 in
        let m = leb-true 8192 (length out) (both (leb 8192 (length out)) (eqb (length random) 48) p4.0).0 in
        let f = visit_fits (get_or (visits_of cookie time (decode_table table)) number free_rec) (max (decode_table table).clock time) random (visit_short (decode_table table) s cookie number time) (omega (arith, s.rules.clock, leb-true time last_time p6.0)) in
        record { out = length-spliced out 0 (visit_said table cookie number time random) (omega arith); written = omega arith }
