-- Every table of a run is lawful. Assumes nothing.
use mathlib.Core.Path.{◌≡◌}
use mathlib.Core.Bool.{true}
use mathlib.Core.List.{List, [], ◌∷◌}
use Prim.Native.Nat.{ℕ}
use borrow.Author.Tests.{eqb-true}
use lib.Dec.{eqb}
use lib.ListN.{length}
use Rattle.protocol.specs.Table.{table_lawful}
use Rattle.protocol.specs.Calls.{Inputs, inputs, refusal, answer_of, finish_refusal, finish_of, housekeep_refusal, housekeep_of, format_refusal, format_of}
use Rattle.protocol.proofs.Lasting.{answer_lasts, finish_lasts, housekeep_lasts, format_lasts}
use Rattle.account.specs.History.{Text, AnswerCall, FinishCall, Call, ask, tell, tidy, served, table_after}
use Rattle.account.proofs.Base.{Case, is, isnt, case}

ask_lawful : (b : Text) (a : AnswerCall) → table_lawful b ≡ true → table_lawful (served (ask a) b).table ≡ true
unfolding served answer_of
ask_lawful b a l = go (case (eqb (refusal i) 0))
  where
    i : Inputs
    i = inputs b a.register a.method a.target a.body a.cookie a.time a.random a.verdict a.out a.cookie_out

    go : Case (eqb (refusal i) 0) → table_lawful (answer_of i).table ≡ true
    go (is z) = answer_lasts i (eqb-true (refusal i) 0 z)
    go (isnt z) = rw z l

tell_lawful : (b : Text) (f : FinishCall) → table_lawful b ≡ true → table_lawful (served (tell f) b).table ≡ true
unfolding served finish_of
tell_lawful b f l = go (case (eqb (finish_refusal b f.time (length f.out)) 0))
  where
    go : Case (eqb (finish_refusal b f.time (length f.out)) 0) → table_lawful (finish_of b f.serial f.outcome f.time f.out).table ≡ true
    go (is z) = finish_lasts b f.serial f.outcome f.time f.out (eqb-true (finish_refusal b f.time (length f.out)) 0 z)
    go (isnt z) = rw z l

tidy_lawful : (b : Text) (time : ℕ) → table_lawful b ≡ true → table_lawful (served (tidy time) b).table ≡ true
unfolding served housekeep_of
tidy_lawful b time l = go (case (eqb (housekeep_refusal b time) 0))
  where
    go : Case (eqb (housekeep_refusal b time) 0) → table_lawful (housekeep_of b time).table ≡ true
    go (is z) = housekeep_lasts b time (eqb-true (housekeep_refusal b time) 0 z)
    go (isnt z) = rw z l

lawful_on : (b : Text) (calls : List Call) → table_lawful b ≡ true → table_lawful (table_after b calls) ≡ true
unfolding table_after
lawful_on b [] l = l
lawful_on b (ask a ∷ cs) l = ask_lawful (table_after b cs) a (lawful_on b cs l)
lawful_on b (tell f ∷ cs) l = tell_lawful (table_after b cs) f (lawful_on b cs l)
lawful_on b (tidy time ∷ cs) l = tidy_lawful (table_after b cs) time (lawful_on b cs l)

lawful_start : (old : Text) (time : ℕ) → (format_of old time).refusal ≡ 0 → table_lawful (format_of old time).table ≡ true
unfolding format_of
lawful_start old time e = go (case (eqb (format_refusal (length old) time) 0))
  where
    go : Case (eqb (format_refusal (length old) time) 0) → table_lawful (format_of old time).table ≡ true
    go (is z) = format_lasts old time (eqb-true (format_refusal (length old) time) 0 z)
    go (isnt z) = format_lasts old time (rw z at e)

pub lawful_run : (old : Text) (time : ℕ) → (format_of old time).refusal ≡ 0 → (calls : List Call) → table_lawful (table_after (format_of old time).table calls) ≡ true
lawful_run old time e calls = lawful_on (format_of old time).table calls (lawful_start old time e)
