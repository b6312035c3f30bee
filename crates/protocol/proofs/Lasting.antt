-- A lawful table stays lawful: after every answer and every finish, and a formatted table is lawful. Assumes nothing.
use mathlib.Core.Path.{◌≡◌, refl, ap}
use mathlib.Core.Bool.{Bool, true, false, ◌&&◌}
use mathlib.Core.List.{List}
use Prim.Native.Nat.{ℕ, zero, suc, ◌-◌, ◌/◌, ◌%◌, ◌≤◌}
use native.Mathlib.Omega.{arith}
use borrow.Author.Tests.{eqb-true, leb-true}
use lib.Dec.{eqb, leb}
use lib.ListN.{length, drop, replicate, length-map, length-replicate}
use Rattle.protocol.specs.Bytes.{within, blocks}
use Rattle.protocol.specs.Records.{Rec, free_rec, decode_rec}
use Rattle.protocol.specs.Table.{decode_table, table_shape, table_lawful, last_time, all_right, serials_differ, count_kind, formatted, login_cap}
use Rattle.protocol.specs.Register.{register_lawful}
use Rattle.protocol.specs.Request.{request_of}
use Rattle.protocol.specs.Steps.{tick, clear, finish}
use Rattle.protocol.specs.Calls.{Inputs, answer_refusal, refusal, brought, step_of, delivered, answer_of, finish_refusal, finish_of, format_refusal, format_of, check_of, unless, sizes_right, request_fits, housekeep_refusal, housekeep_of}
use Rattle.protocol.specs.Held.{AllFit}
use Rattle.protocol.proofs.Laws.{both, rules, lawful_rules, lawful_fits, lawful_next}
use Rattle.protocol.proofs.Sound.{Sound, sound_lawful, tick_sound, clear_sound, free_fits}
use Rattle.protocol.proofs.Kept.{free_right}
use Rattle.protocol.proofs.Proper.{request_proper}
use Rattle.protocol.proofs.Replies.{Fitting, request_fits_lem}
use Rattle.protocol.proofs.StepSound.{request_sound, finish_sound}

length-blocks : (m n : ℕ) (s : List ℕ) → length (blocks m n s) ≡ m
unfolding blocks
length-blocks zero n s = refl
length-blocks (suc m) n s = ap suc (length-blocks m n (drop n s))

-- what lawful bytes of a right shape say is sound
pub lawful_sound : (b : List ℕ) → table_shape (length b) ≡ true → table_lawful b ≡ true → Sound (decode_table b)
unfolding decode_table
lawful_sound b h e =
    let p = both (eqb (length b % 512) 0) (within 9 128 (length b / 512)) h in
    let q = both (leb 9 (length b / 512)) (leb (length b / 512) 128) p.1 in
    let x = eqb-true (length b % 512) 0 p.0 in
    let lo = leb-true 9 (length b / 512) q.0 in
    let hi = leb-true (length b / 512) 128 q.1 in
    record {
      rules = rules (decode_table b) (lawful_rules b e);
      next = lawful_next b e;
      fit = lawful_fits b (omega arith) e;
      few = rw (length-map (blocks (length b / 512 - 1) 512 (drop 512 b)) decode_rec, length-blocks (length b / 512 - 1) 512 (drop 512 b)) (omega arith);
    }

-- the tests of a call that is not refused
pub passes : (b : Bool) (n later : ℕ) → 1 ≤ n → unless b n later ≡ 0 → (b ≡ true) × (later ≡ 0)
passes true n later h e = (refl, e)
passes false n later h e = absurd (omega arith)

-- what an answered call knows
pub record Passed (i : Inputs) : Type 0 where
  pub shape : table_shape (length i.table) ≡ true
  pub lawful : table_lawful i.table ≡ true
  pub register : register_lawful i.register ≡ true
  pub out : 8192 ≤ length i.out
  pub cookie : 64 ≤ length i.cookie_out
  pub random : length i.random ≡ 48
  pub target : length i.target ≤ 2048
  pub body : length i.body ≤ 1024
  pub time : i.time ≤ last_time

pub passed : (i : Inputs) → refusal i ≡ 0 → Passed i
unfolding answer_refusal
passed i e =
    let p1 = passes (table_shape (length i.table)) 1 _ (omega arith) e in
    let p2 = passes (table_lawful i.table) 2 _ (omega arith) p1.1 in
    let p3 = passes (register_lawful i.register) 3 _ (omega arith) p2.1 in
    let p4 = passes (sizes_right (length i.out) (length i.cookie_out) (length i.random)) 4 _ (omega arith) p3.1 in
    let p5 = passes (request_fits (length i.target) (length i.body)) 5 _ (omega arith) p4.1 in
    let p6 = passes (leb i.time last_time) 6 0 (omega arith) p5.1 in
    let s = both (leb 8192 (length i.out) && leb 64 (length i.cookie_out)) (eqb (length i.random) 48) p4.0 in
    let o = both (leb 8192 (length i.out)) (leb 64 (length i.cookie_out)) s.0 in
    let r = both (leb (length i.target) 2048) (leb (length i.body) 1024) p5.0 in
    record {
      shape = p1.0;
      lawful = p2.0;
      register = p3.0;
      out = leb-true 8192 (length i.out) o.0;
      cookie = leb-true 64 (length i.cookie_out) o.1;
      random = eqb-true (length i.random) 48 s.1;
      target = leb-true (length i.target) 2048 r.0;
      body = leb-true (length i.body) 1024 r.1;
      time = leb-true i.time last_time p6.0;
    }

-- the table that a step starts from, and the one that it leaves
pub started : (i : Inputs) → Passed i → Sound (tick i.time (decode_table i.table))
started i p = tick_sound i.time (decode_table i.table) p.time (lawful_sound i.table p.shape p.lawful)

pub step_sound : (i : Inputs) → Passed i → Sound (step_of i).table
unfolding step_of
step_sound i p = request_sound (request_of i.method i.target i.body) (brought i) (tick i.time (decode_table i.table)) (request_proper i.method i.target i.body) p.random (started i p)

pub step_fits : (i : Inputs) → Passed i → Fitting (step_of i)
unfolding step_of
step_fits i p = request_fits_lem (request_of i.method i.target i.body) (brought i) (tick i.time (decode_table i.table)) (request_proper i.method i.target i.body) p.random (started i p)

-- an answered call leaves a table that the next call will not refuse
pub answer_lasts : (i : Inputs) → refusal i ≡ 0 → table_lawful (answer_of i).table ≡ true
unfolding answer_of delivered
answer_lasts i e = rw e (sound_lawful (step_of i).table (step_sound i (passed i e)))

-- so does a finished one

-- what an answered finish knows
pub record Finishes (table : List ℕ) (time : ℕ) (out : List ℕ) : Type 0 where
  pub shape : table_shape (length table) ≡ true
  pub room : 8192 ≤ length out
  pub sound : Sound (tick time (decode_table table))

pub finishes : (table : List ℕ) (time : ℕ) (out : List ℕ) → finish_refusal table time (length out) ≡ 0 → Finishes table time out
unfolding finish_refusal
finishes table time out e =
    let p1 = passes (table_shape (length table)) 1 _ (omega arith) e in
    let p2 = passes (table_lawful table) 2 _ (omega arith) p1.1 in
    let p4 = passes (leb 8192 (length out)) 4 _ (omega arith) p2.1 in
    let p6 = passes (leb time last_time) 6 0 (omega arith) p4.1 in
    record {
      shape = p1.0;
      room = leb-true 8192 (length out) p4.0;
      sound = tick_sound time (decode_table table) (leb-true time last_time p6.0) (lawful_sound table p1.0 p2.0);
    }

pub finish_lasts : (table : List ℕ) (serial : ℕ) (outcome : Bool) (time : ℕ) (out : List ℕ) → finish_refusal table time (length out) ≡ 0 → table_lawful (finish_of table serial outcome time out).table ≡ true
unfolding finish_of delivered
finish_lasts table serial outcome time out e =
    rw e (sound_lawful (finish serial outcome (tick time (decode_table table))).table (finish_sound serial outcome (tick time (decode_table table)) (finishes table time out e).sound))

-- so does housekeeping

-- what it knows where it is not refused
pub record Housekept (table : List ℕ) (time : ℕ) : Type 0 where
  pub shape : table_shape (length table) ≡ true
  pub sound : Sound (tick time (decode_table table))

pub housekept : (table : List ℕ) (time : ℕ) → housekeep_refusal table time ≡ 0 → Housekept table time
unfolding housekeep_refusal
housekept table time e =
    let p1 = passes (table_shape (length table)) 1 _ (omega arith) e in
    let p2 = passes (table_lawful table) 2 _ (omega arith) p1.1 in
    let p6 = passes (leb time last_time) 6 0 (omega arith) p2.1 in
    record { shape = p1.0; sound = tick_sound time (decode_table table) (leb-true time last_time p6.0) (lawful_sound table p1.0 p2.0) }

pub housekeep_lasts : (table : List ℕ) (time : ℕ) → housekeep_refusal table time ≡ 0 → table_lawful (housekeep_of table time).table ≡ true
unfolding housekeep_of
housekeep_lasts table time e = rw e (sound_lawful (clear (tick time (decode_table table))) (clear_sound (tick time (decode_table table)) (housekept table time e).sound))

-- and a formatted table is lawful
frees_fit : (n : ℕ) → AllFit (replicate n free_rec)
unfolding AllFit
frees_fit zero = tt
frees_fit (suc n) = (free_fits, frees_fit n)

frees_right : (c x : ℕ) (slots : List Rec) (n : ℕ) → all_right c x slots (replicate n free_rec) ≡ true
unfolding all_right
frees_right c x slots zero = refl
frees_right c x slots (suc n) = rw (free_right c x slots) (frees_right c x slots n)

frees_differ : (n : ℕ) → serials_differ (replicate n free_rec) ≡ true
unfolding serials_differ
frees_differ zero = refl
frees_differ (suc n) = frees_differ n

frees_none : (n : ℕ) → count_kind 1 (replicate n free_rec) ≡ 0
unfolding count_kind
frees_none zero = refl
frees_none (suc n) = rw (frees_none n)

pub formatted_sound : (n time : ℕ) → n ≤ 127 → time ≤ last_time → Sound (formatted n time)
unfolding formatted login_cap
formatted_sound n time h g =
    record {
      rules = record { clock = g; records = frees_right time 1 (replicate n free_rec) n; serials = frees_differ n; logins = omega (arith, frees_none n) };
      next = omega arith;
      fit = frees_fit n;
      few = rw (length-replicate n free_rec) h;
    }

pub format_lasts : (table : List ℕ) (time : ℕ) → format_refusal (length table) time ≡ 0 → table_lawful (format_of table time).table ≡ true
unfolding format_of format_refusal
format_lasts table time e =
    let p1 = passes (table_shape (length table)) 1 _ (omega arith) e in
    let p6 = passes (leb time last_time) 6 0 (omega arith) p1.1 in
    let p = both (eqb (length table % 512) 0) (within 9 128 (length table / 512)) p1.0 in
    let q = both (leb 9 (length table / 512)) (leb (length table / 512) 128) p.1 in
    rw e (sound_lawful (formatted (length table / 512 - 1) time) (formatted_sound (length table / 512 - 1) time (omega (arith, leb-true (length table / 512) 128 q.1)) (leb-true time last_time p6.0)))

-- check gives 0 exactly for such tables: for them, and for no others
pub check_zero : (table : List ℕ) → table_shape (length table) ≡ true → table_lawful table ≡ true → check_of table ≡ 0
unfolding check_of
check_zero table h e = rw (h, e)

pub check_passed : (table : List ℕ) → check_of table ≡ 0 → (table_shape (length table) ≡ true) × (table_lawful table ≡ true)
unfolding check_of
check_passed table e =
    let p1 = passes (table_shape (length table)) 1 _ (omega arith) e in
    (p1.0, (passes (table_lawful table) 2 0 (omega arith) p1.1).0)
