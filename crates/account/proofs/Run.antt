-- From one call to a whole run: after any calls the table stands where its history does. Assumes nothing.
use mathlib.Core.Path.{◌≡◌, refl, ap}
use mathlib.Core.Bool.{true, false}
use mathlib.Core.List.Memᴰ
use mathlib.Core.List.{List, [], ◌∷◌, map}
use Prim.Native.Nat.{ℕ, zero, suc, ◌+◌, ◌-◌, ◌/◌, ◌%◌, ◌≤◌}
use native.Mathlib.Omega.{arith}
use borrow.Author.Tests.{eqb-true, leb-true}
use lib.Dec.{eqb, leb}
use lib.ListN.{length, replicate}
use Rattle.protocol.specs.Bytes.{ascii, same, among, within}
use Rattle.protocol.specs.Records.{Rec, free_rec}
use Rattle.protocol.specs.Table.{Table, encode_table, decode_table, table_shape, table_lawful, last_time, formatted}
use Rattle.protocol.specs.Request.{path_part, request_of}
use Rattle.protocol.specs.Answers.{reply_text, reply_answer}
use Rattle.protocol.specs.Steps.{Step, tick, housekept, finish}
use Rattle.protocol.specs.Calls.{Inputs, Result, inputs, refusal, step_of, outcome_with, delivered, unchanged, answer_of, finish_refusal, finish_of, Numbered, numbered, housekeep_refusal, housekeep_of, format_refusal, format_of}
use Rattle.protocol.proofs.Laws.{both, fork, and-false, table_back}
use Rattle.protocol.proofs.Sound.{Sound, tick_sound, clear_sound}
use Rattle.protocol.proofs.StepSound.{finish_sound}
use Rattle.protocol.proofs.Lasting.{lawful_sound, passes, passed, step_sound, housekept as housekept-sound, formatted_sound}
use Rattle.account.specs.History.{Text, AnswerCall, FinishCall, Call, ask, tell, tidy, by_number, served, Event, event_of, table_after, history_of}
use Rattle.account.specs.Reading.{Said, said_in, read_request, read_call, trail_of}
use Rattle.account.specs.Notebook.{Line, notebook, note}
use Rattle.account.specs.Truth.{Known, known}
use Rattle.account.specs.Account.{validators, issued_by, accepted_by, success_by, sum_of, Frank, AllFrank, Honest}
use Rattle.account.proofs.Base.{Case, is, isnt, case, clash}
use Rattle.account.proofs.Sim.{no_slot, on, lives, weigh}
use Rattle.account.proofs.Look.{rec_of, Tied}
use Rattle.account.proofs.Balance.{no_books}
use Rattle.account.proofs.Reached.{Reached}
use Rattle.account.proofs.Parts.{reach_pass, reach_clear}
use Rattle.account.proofs.Texts.{said_is}
use Rattle.account.proofs.Counts.{Ok}
use Rattle.account.proofs.Others.{finish_ok, request_ok}

-- a sound table is read back as it was written
back : (t : Table) → Sound t → decode_table (encode_table t) ≡ t
back t s = table_back t s.fit (omega (arith, s.rules.clock)) s.next

-- where a history stands beside a table
abbrev Stands : ℕ → List Said → Table → Type 0
Stands start h t = Reached (known start h) (notebook start h) t

-- after a call: the table where the history stands, what is owed, the counts of the result are those of what is read, and it is frank
record After (start : ℕ) (es : List Event) (c : Call) (r : Result) : Type 0 where
  reached : Stands start (trail_of (event_of c r ∷ es)) (decode_table r.table)
  honest : Honest start (trail_of (event_of c r ∷ es))
  issues : issued_by c r.outcome.answer + length (known start (trail_of es)).issued ≡ length (known start (trail_of (event_of c r ∷ es))).issued
  accepts : accepted_by c r.outcome.answer + length (known start (trail_of es)).accepted ≡ length (known start (trail_of (event_of c r ∷ es))).accepted
  wins : success_by c r.outcome.answer + length (known start (trail_of es)).successful ≡ length (known start (trail_of (event_of c r ∷ es))).successful
  frank : Frank c r.outcome.answer (said_in (event_of c r))

module _ (start : ℕ) (es : List Event) (b : Text) (R : Stands start (trail_of es) (decode_table b)) (H : Honest start (trail_of es)) where
  -- a refused call says nothing and changes nothing
  refused : (c : Call) (n : ℕ) (out cookie : Text) → eqb n 0 ≡ false → After start es c (unchanged n b out cookie)
  unfolding trail_of event_of issued_by accepted_by success_by Frank same
  refused (ask a) n out cookie e =
      record {
        reached = rw e R;
        honest = rw e H;
        issues = rw (e, and-false (same (path_part a.target) (ascii "/cas/proxy"))) (omega arith);
        accepts = rw (e, and-false (among (path_part a.target) validators)) (omega arith);
        wins = rw (e, and-false (among (path_part a.target) validators)) (omega arith);
        frank = λ v x. refl;
      }
  refused (tidy time) n out cookie e = record { reached = rw e R; honest = rw e H; issues = rw e (omega arith); accepts = rw e (omega arith); wins = rw e (omega arith); frank = tt }
  refused (tell f) n out cookie e = record { reached = rw e R; honest = rw e H; issues = rw e (omega arith); accepts = rw e (omega arith); wins = rw e (omega arith); frank = λ x. refl }

  -- a call of answer
  module _ (a : AnswerCall) where
    abbrev i : Inputs
    i = inputs b a.register a.method a.target a.body a.cookie a.time a.random a.verdict a.out a.cookie_out

    abbrev said : Step → Said
    said s = read_request a (request_of a.method a.target a.body) (reply_answer s.reply) (reply_text s.reply) s.cookie s.cleared

    stepped : Ok (known start (trail_of es)) (notebook start (trail_of es)) (path_part a.target) (said (step_of i)) (step_of i)
    unfolding step_of
    stepped = request_ok (known start (trail_of es)) (notebook start (trail_of es)) (tick a.time (decode_table b)) a (reach_pass R a.time) a.method

    answered : refusal i ≡ 0 → After start es (ask a) (delivered (step_of i) a.out a.cookie_out)
    unfolding delivered outcome_with event_of trail_of read_call issued_by accepted_by success_by Frank known notebook Honest
    answered e =
        let s : Step = step_of i in
        let o = stepped in
        let r = said_is a.out (reply_text s.reply) in
        let c = said_is a.cookie_out s.cookie in
        record {
          reached = rw (r, c, back s.table (step_sound i (passed i e))) o.reached;
          honest = (rw (r, c) o.owed, H);
          issues = rw (r, c) o.issues;
          accepts = rw (r, c) o.accepts;
          wins = rw (r, c) o.wins;
          frank = λ v x. rw r (o.frank v x);
        }

    ask_after : After start es (ask a) (answer_of i)
    unfolding answer_of
    ask_after = fork (After start es (ask a)) (eqb (refusal i) 0) (λ e. answered (eqb-true (refusal i) 0 e)) (λ e. refused (ask a) (refusal i) a.out a.cookie_out e)

  -- a call of finish
  module _ (f : FinishCall) where
    abbrev t : Table
    t = tick f.time (decode_table b)

    abbrev n : ℕ
    n = finish_refusal b f.time (length f.out)

    finish_started : n ≡ 0 → Sound t
    unfolding finish_refusal
    finish_started e =
        let p1 = passes (table_shape (length b)) 1 _ (omega arith) e in
        let p2 = passes (table_lawful b) 2 _ (omega arith) p1.1 in
        let p4 = passes (leb 8192 (length f.out)) 4 _ (omega arith) p2.1 in
        let p6 = passes (leb f.time last_time) 6 0 (omega arith) p4.1 in
        tick_sound f.time (decode_table b) (leb-true f.time last_time p6.0) (lawful_sound b p1.0 p2.0)

    told : n ≡ 0 → After start es (tell f) (delivered (finish f.serial f.outcome t) f.out [])
    unfolding delivered outcome_with event_of trail_of read_call issued_by accepted_by success_by Frank known notebook Honest
    told e =
        let s : Step = finish f.serial f.outcome t in
        let o = finish_ok (known start (trail_of es)) (notebook start (trail_of es)) t f (reach_pass R f.time) in
        let r = said_is f.out (reply_text s.reply) in
        record {
          reached = rw (r, back s.table (finish_sound f.serial f.outcome t (finish_started e))) o.reached;
          honest = (rw r o.owed, H);
          issues = omega arith;
          accepts = omega arith;
          wins = o.wins;
          frank = λ x. rw r (o.frank x);
        }

    tell_after : After start es (tell f) (finish_of b f.serial f.outcome f.time f.out)
    unfolding finish_of
    tell_after = fork (After start es (tell f)) (eqb n 0) (λ e. told (eqb-true n 0 e)) (λ e. refused (tell f) n f.out [] e)

  -- a call of housekeeping
  module _ (time : ℕ) where
    tidied : housekeep_refusal b time ≡ 0 → After start es (tidy time) (by_number (numbered 0 (encode_table (housekept time (decode_table b)))))
    unfolding event_of trail_of read_call issued_by accepted_by success_by Frank known notebook Honest note
    tidied e =
        let s = clear_sound (tick time (decode_table b)) (housekept-sound b time e).sound in
        record {
          reached = rw (back (housekept time (decode_table b)) s) (reach_clear (reach_pass R time));
          honest = (record { opens = λ z. absurd (clash refl z); accepts = λ z. absurd (clash z refl); welcomes = λ z. absurd (clash z refl); settles = λ z. absurd (clash z refl) }, H);
          issues = omega arith;
          accepts = omega arith;
          wins = omega arith;
          frank = tt;
        }

    tidy_after : After start es (tidy time) (by_number (housekeep_of b time))
    unfolding housekeep_of
    tidy_after =
        fork (λ (n : Numbered). After start es (tidy time) (by_number n)) (eqb (housekeep_refusal b time) 0) (λ e. tidied (eqb-true (housekeep_refusal b time) 0 e))
        (λ e. refused (tidy time) (housekeep_refusal b time) [] [] e)

  call_after : (c : Call) → After start es c (served c b)
  unfolding served
  call_after (ask a) = ask_after a
  call_after (tell f) = tell_after f
  call_after (tidy time) = tidy_after time

-- a run
pub record Life (start : ℕ) (es : List Event) (b : Text) : Type 0 where
  pub reached : Reached (known start (trail_of es)) (notebook start (trail_of es)) (decode_table b)
  pub honest : Honest start (trail_of es)
  pub issues : sum_of issued_by es ≡ length (known start (trail_of es)).issued
  pub accepts : sum_of accepted_by es ≡ length (known start (trail_of es)).accepted
  pub wins : sum_of success_by es ≡ length (known start (trail_of es)).successful
  pub frank : AllFrank es

pub life : (start : ℕ) (b : Text) → Reached (known start []) (notebook start []) (decode_table b) → (cs : List Call) → Life start (history_of b cs) (table_after b cs)
unfolding history_of table_after trail_of sum_of AllFrank event_of known Honest
life start b R [] = record { reached = R; honest = tt; issues = refl; accepts = refl; wins = refl; frank = tt }
life start b R (c ∷ cs) =
    let l = life start b R cs in
    let o = call_after start (history_of b cs) (table_after b cs) l.reached l.honest c in
    record {
      reached = o.reached;
      honest = o.honest;
      issues = omega (arith, o.issues, l.issues);
      accepts = omega (arith, o.accepts, l.accepts);
      wins = omega (arith, o.wins, l.wins);
      frank = (o.frank, l.frank);
    }

-- the start: a formatted table beside an empty notebook
map_free : (n : ℕ) → replicate n free_rec ≡ map rec_of (replicate n no_slot)
map_free zero = refl
map_free (suc n) = ap (λ (l : List Rec). free_rec ∷ l) (map_free n)

free_weigh : (c : ℕ) (f : Line → ℕ) (n : ℕ) → 0 ≡ weigh c f (replicate n no_slot)
free_weigh c f zero = refl
free_weigh c f (suc n) = omega (arith, free_weigh c f n)

on_free : (n i : ℕ) → on (replicate n no_slot) i ≡ no_slot
on_free zero i = refl
on_free (suc n) zero = refl
on_free (suc n) (suc i) = on_free n i

none_lives : (c n i : ℕ) → lives c (replicate n no_slot) i ≡ true → ⊥
none_lives c n i l = clash l (rw (on_free n i))

start_tied : (K : Known) (n time : ℕ) → Tied K (record { clock = time; book = [] }) (formatted n time)
unfolding formatted
start_tied K n time =
    record {
      A = replicate (suc n) no_slot;
      n = 1;
      slots_are = ap (λ (l : List Rec). free_rec ∷ l) (map_free n);
      clock_is = refl;
      next_is = refl;
      sim =
          record {
            sums = λ f. free_weigh time f (suc n);
            known = λ e m h. absurd (Memᴰ.not-nil m);
            good = λ i l. absurd (none_lives time (suc n) i l);
            one = λ i j l k e. absurd (none_lives time (suc n) i l);
            old = λ e m. absurd (Memᴰ.not-nil m);
            refs = λ e m. absurd (Memᴰ.not-nil m);
            top = omega arith;
          };
    }

not_refused : (old : Text) (time : ℕ) → (format_of old time).refusal ≡ 0 → format_refusal (length old) time ≡ 0
unfolding format_of
not_refused old time e = go (case (eqb (format_refusal (length old) time) 0))
  where
    go : Case (eqb (format_refusal (length old) time) 0) → format_refusal (length old) time ≡ 0
    go (is z) = eqb-true (format_refusal (length old) time) 0 z
    go (isnt z) = rw z at e

pub started : (old : Text) (time : ℕ) → (format_of old time).refusal ≡ 0 → Reached (known time []) (notebook time []) (decode_table (format_of old time).table)
unfolding format_of format_refusal notebook known
started old time e =
    let z = not_refused old time e in
    let p1 = passes (table_shape (length old)) 1 _ (omega arith) z in
    let p6 = passes (leb time last_time) 6 0 (omega arith) p1.1 in
    let q = both (leb 9 (length old / 512)) (leb (length old / 512) 128) (both (eqb (length old % 512) 0) (within 9 128 (length old / 512)) p1.0).1 in
    let few : length old / 512 - 1 ≤ 127 = omega (arith, leb-true (length old / 512) 128 q.1) in
    rw (z, back (formatted (length old / 512 - 1) time) (formatted_sound (length old / 512 - 1) time few (leb-true time last_time p6.0)))
    (record { tied = start_tied _ (length old / 512 - 1) time; clock_eq = refl; books = no_books _ })
