-- Words for contracts below the calls: what the bytes of a lent table hold, and what a step has left behind.
use Rattle.std.specs.Prelude.{◌≡◌, Bool, true, false, List, [], ◌∷◌, ℕ, ◌+◌, ◌*◌, ◌≤◌, ◌<◌, length}
use Rattle.protocol.specs.Bytes.{spliced}
use Rattle.protocol.specs.Records.{Rec}
use Rattle.protocol.specs.Table.{Table, encode_table, decode_table, rec_at, rules_hold, last_time}
use Rattle.protocol.specs.Register.{register_lawful}
use Rattle.protocol.specs.Answers.{Reply, reply_text}
use Rattle.protocol.specs.Steps.{Brought, Step}
use Rattle.protocol.specs.Calls.{outcome_with, outcome_of, brought_by}
use Rattle.protocol.specs.declared.Outcome.{Outcome}

-- texts and secrets that a record's block has room for
pub record Sized (r : Rec) : Type 0 where
  pub secret : length r.secret ≡ 16
  pub text : length r.text ≤ 200
  pub iou : length r.iou ≡ 16

-- and numbers that its fields can hold
pub record Fits (r : Rec) : Type 0 where
  pub parent : r.parent < 65536
  pub session : r.session < 65536
  pub serial : r.serial < 4294967296
  pub expiry : r.expiry < 18446744073709551616
  pub since : r.since < 18446744073709551616
  pub sized : Sized r

unfoldable pub AllFit : List Rec → Type 0
AllFit [] = Unit
AllFit (r ∷ rs) = Fits r × AllFit rs

-- the bytes are those of the table that they say, and that is one that bytes can say
pub record Fine (b : List ℕ) : Type 0 where
  pub same : b ≡ encode_table (decode_table b)
  pub clock : (decode_table b).clock ≤ last_time
  pub next : (decode_table b).next < 4294967296
  pub fit : AllFit (decode_table b).slots
  pub few : length (decode_table b).slots ≤ 127
  pub count : length b ≡ 512 + 512 * length (decode_table b).slots

-- the bytes b hold the table t
pub record Holds (b : List ℕ) (t : Table) : Type 0 where
  pub is : decode_table b ≡ t
  pub fine : Fine b

-- the bytes were b and are b', and the table that they say was edited so
abbrev pub Edited : (Table → Table) → List ℕ → List ℕ → Type 0
Edited edit b b' = Holds b' (edit (decode_table b))

-- k is a slot of the table's bytes
pub record In (k : ℕ) (b : List ℕ) : Type 0 where
  pub low : 1 ≤ k
  pub high : 512 * k + 512 ≤ length b

-- k is a slot of the table's bytes, or 0 for none
pub record Within (k : ℕ) (b : List ℕ) : Type 0 where
  pub high : 512 * k + 512 ≤ length b

-- the record that the table's bytes say in slot k
abbrev pub said_at : ℕ → List ℕ → Rec
said_at k b = rec_at k (decode_table b).slots

-- k is the slot of a live service or proxy ticket
pub record Spendable (k : ℕ) (b : List ℕ) : Type 0 where
  pub slot : In k b
  pub least : 3 ≤ (said_at k b).kind
  pub most : (said_at k b).kind ≤ 4
  pub lasts : (decode_table b).clock < (said_at k b).expiry

-- the table that the bytes say keeps the rules, too
pub record Lawful (b : List ℕ) : Type 0 where
  pub fine : Fine b
  pub rules : rules_hold (decode_table b) ≡ true

-- what a step is lent, once the call is not refused and the clock is set: such a table, a register, the random input, and an output with
-- room for any answer
pub record Lent (table register random out : List ℕ) : Type 0 where
  pub lawful : Lawful table
  pub panels : register_lawful register ≡ true
  pub drawn : length random ≡ 48
  pub room : 8192 ≤ length out

-- what a validator or proxy reads of what a request brings: no cookie and no verdict
abbrev pub bringing : List ℕ → List ℕ → Brought
bringing register random = brought_by register [] random false

-- a result with the length of the cookie that was written
abbrev pub cookied : ℕ → Outcome → Outcome
cookied n r =
    record {
      refusal = r.refusal;
      answer = r.answer;
      status = r.status;
      length = r.length;
      cookie_length = n;
      cookie_cleared = r.cookie_cleared;
      callback_serial = r.callback_serial;
    }

-- a result with the cookie cleared, or not
abbrev pub cleared_if : Bool → Outcome → Outcome
cleared_if ended r =
    record {
      refusal = r.refusal;
      answer = r.answer;
      status = r.status;
      length = r.length;
      cookie_length = r.cookie_length;
      cookie_cleared = ended;
      callback_serial = r.callback_serial;
    }

-- A reply was said: the result r is one without a cookie, and the output, o before and o' after it, holds the reply's bytes
pub record Said (reply : Reply) (r : Outcome) (o o' : List ℕ) : Type 0 where
  pub outcome : r ≡ outcome_with reply 0 false
  pub out : o' ≡ spliced o 0 (reply_text reply)

-- a step was done that writes no cookie: the result, the table's bytes b and the output are as the step tells
pub record Done (s : Step) (r : Outcome) (b o o' : List ℕ) : Type 0 where
  pub outcome : r ≡ outcome_of s
  pub table : Holds b s.table
  pub out : o' ≡ spliced o 0 (reply_text s.reply)
  pub cookie : s.cookie ≡ []

-- such a step of the table that the bytes b say, which are b' after it
abbrev pub Does : (Table → Step) → Outcome → List ℕ → List ℕ → List ℕ → List ℕ → Type 0
Does s r b b' o o' = Done (s (decode_table b)) r b' o o'

-- a step was done: so is the cookie output, c before and c' after it
pub record Did (s : Step) (r : Outcome) (b o o' c c' : List ℕ) : Type 0 where
  pub outcome : r ≡ outcome_of s
  pub table : Holds b s.table
  pub out : o' ≡ spliced o 0 (reply_text s.reply)
  pub cookie : c' ≡ spliced c 0 s.cookie
