-- Histories: the calls of answer, finish and housekeeping on one table, one after another, and what each of them gave back.
use Rattle.std.specs.Prelude.{Bool, List, [], ◌∷◌, ℕ}
use Rattle.protocol.specs.Calls.{Result, result_of, refused_outcome, inputs, answer_of, finish_of, Numbered, housekeep_of}
use Rattle.protocol.specs.declared.Method.{Method}
use Rattle.protocol.specs.declared.Outcome.{Outcome}

abbrev pub Text : Type 0
Text = List ℕ

-- a call of answer as the host makes it; its table is the one that the calls before it have left
pub record AnswerCall : Type 0 where
  pub register : Text
  pub method : Method
  pub target : Text
  pub body : Text
  pub cookie : Text
  pub time : ℕ
  pub random : Text
  pub verdict : Bool
  pub out : Text
  pub cookie_out : Text

-- a call of finish
pub record FinishCall : Type 0 where
  pub serial : ℕ
  pub outcome : Bool
  pub time : ℕ
  pub out : Text

-- a call of housekeeping has its time only
pub data Call : Type 0 where
  ask : AnswerCall → Call
  tell : FinishCall → Call
  tidy : (time : ℕ) → Call

-- housekeeping gives its number, and writes nothing but the table
abbrev pub by_number : Numbered → Result
by_number n = result_of (refused_outcome n.refusal) n.table [] []

-- what the call gives, by the same functions that the contracts of the public calls cite
unfoldable pub served : Call → Text → Result
served (ask a) table =
    answer_of (inputs table a.register a.method a.target a.body a.cookie a.time a.random a.verdict a.out a.cookie_out)
served (tell f) table = finish_of table f.serial f.outcome f.time f.out
served (tidy time) table = by_number (housekeep_of table time)

-- what is seen of a call from outside: the call, its result, the output and the cookie output after it; not the table
pub record Event : Type 0 where
  pub call : Call
  pub outcome : Outcome
  pub out : Text
  pub cookie : Text

unfoldable pub event_of : Call → Result → Event
event_of c r = record { call = c; outcome = r.outcome; out = r.out; cookie = r.cookie }

-- the table after some calls, and their history, the newest first
unfoldable pub table_after : Text → List Call → Text
table_after b [] = b
table_after b (c ∷ cs) = (served c (table_after b cs)).table

unfoldable pub history_of : Text → List Call → List Event
history_of b [] = []
history_of b (c ∷ cs) = event_of c (served c (table_after b cs)) ∷ history_of b cs
