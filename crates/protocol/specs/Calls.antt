-- The calls: all that goes in, all that comes out, and the function between.
use Rattle.std.specs.Prelude.{Bool, false, ◌&&◌, not, List, [], ℕ, ◌-◌, ◌/◌, eqb, leb, length}
use Rattle.protocol.specs.Bytes.{if, is_empty, spliced}
use Rattle.protocol.specs.Table.{encode_table, decode_table, table_shape, table_lawful, last_time, formatted}
use Rattle.protocol.specs.Register.{decode_register, register_lawful}
use Rattle.protocol.specs.Request.{Read, Malformed, Given, Posted, posted, request_of}
use Rattle.protocol.specs.Answers.{Reply, reply_text, reply_answer, status_of, serial_of}
use Rattle.protocol.specs.Steps.{Brought, Step, tick, housekept, request_step, finish}
use Rattle.protocol.specs.declared.Method.{Method}
use Rattle.protocol.specs.declared.Answer.TheVariants as answer
use Rattle.protocol.specs.declared.Outcome.{Outcome}
use Rattle.protocol.specs.declared.Form.{Form}

-- a refusal: its number, else 0; the first of the list that applies
abbrev pub unless : Bool → ℕ → ℕ → ℕ
unless right n later = if right later n

-- A refused call returns the number, its other result fields 0
abbrev pub refused_outcome : ℕ → Outcome
refused_outcome n = record { refusal = n; answer = answer.Nothing; status = 0; length = 0; cookie_length = 0; cookie_cleared = false; callback_serial = 0 }

-- an answered call's result: by what it says, the length of the cookie that it writes, and whether the cookie is cleared
unfoldable pub outcome_with : Reply → ℕ → Bool → Outcome
outcome_with reply cookie cleared =
    record {
      refusal = 0;
      answer = reply_answer reply;
      status = status_of (reply_answer reply);
      length = length (reply_text reply);
      cookie_length = cookie;
      cookie_cleared = cleared;
      callback_serial = serial_of (reply_answer reply);
    }

abbrev pub outcome_of : Step → Outcome
outcome_of s = outcome_with s.reply (length s.cookie) s.cleared

-- answer

pub record Inputs : Type 0 where
  pub table : List ℕ
  pub register : List ℕ
  pub method : Method
  pub target : List ℕ
  pub body : List ℕ
  pub cookie : List ℕ
  pub time : ℕ
  pub random : List ℕ
  pub verdict : Bool
  pub out : List ℕ
  pub cookie_out : List ℕ

abbrev pub inputs : List ℕ → List ℕ → Method → List ℕ → List ℕ → List ℕ → ℕ → List ℕ → Bool → List ℕ → List ℕ → Inputs
inputs t g m u b k n r v o c =
    record { table = t; register = g; method = m; target = u; body = b; cookie = k; time = n; random = r; verdict = v; out = o; cookie_out = c }

-- the result, and the bytes after the call
pub record Result : Type 0 where
  pub outcome : Outcome
  pub table : List ℕ
  pub out : List ℕ
  pub cookie : List ℕ

abbrev pub result_of : Outcome → List ℕ → List ℕ → List ℕ → Result
result_of r t o c = record { outcome = r; table = t; out = o; cookie = c }

abbrev pub sizes_right : ℕ → ℕ → ℕ → Bool
sizes_right out cookie random = leb 8192 out && leb 64 cookie && eqb random 48

abbrev pub request_fits : ℕ → ℕ → Bool
request_fits target body = leb target 2048 && leb body 1024

-- answer's refusals, 1 to 6
unfoldable pub answer_refusal : List ℕ → List ℕ → ℕ → ℕ → ℕ → ℕ → ℕ → ℕ → ℕ
answer_refusal table register target body time random out cookie =
    unless (table_shape (length table)) 1
    (unless (table_lawful table) 2
    (unless (register_lawful register) 3
    (unless (sizes_right out cookie random) 4
    (unless (request_fits target body) 5
    (unless (leb time last_time) 6
    0)))))

abbrev pub refusal : Inputs → ℕ
refusal i = answer_refusal i.table i.register (length i.target) (length i.body) i.time (length i.random) (length i.out) (length i.cookie_out)

-- what a request brings, by the bytes of the register
abbrev pub brought_by : List ℕ → List ℕ → List ℕ → Bool → Brought
brought_by register cookie random verdict = record { register = decode_register register; cookie = cookie; random = random; verdict = verdict }

abbrev pub brought : Inputs → Brought
brought i = brought_by i.register i.cookie i.random i.verdict

-- what the request does to the table after the clock
unfoldable pub step_of : Inputs → Step
step_of i =
    request_step (request_of i.method i.target i.body) (brought i) (tick i.time (decode_table i.table))

-- the answer's bytes stand in the output, the cookie's in the cookie output; beyond their lengths both are unchanged
unfoldable pub delivered : Step → List ℕ → List ℕ → Result
delivered s out cookie_out = result_of (outcome_of s) (encode_table s.table) (spliced out 0 (reply_text s.reply)) (spliced cookie_out 0 s.cookie)

-- a refused call writes nothing anywhere
abbrev pub unchanged : ℕ → List ℕ → List ℕ → List ℕ → Result
unchanged n table out cookie_out = result_of (refused_outcome n) table out cookie_out

unfoldable pub answer_of : Inputs → Result
answer_of i =
    if (eqb (refusal i) 0) (delivered (step_of i) i.out i.cookie_out) (unchanged (refusal i) i.table i.out i.cookie_out)

-- finish: refusals 1, 2, 4 (output only), 6; there is no cookie

unfoldable pub finish_refusal : List ℕ → ℕ → ℕ → ℕ
finish_refusal table time out =
    unless (table_shape (length table)) 1
    (unless (table_lawful table) 2
    (unless (leb 8192 out) 4
    (unless (leb time last_time) 6
    0)))

unfoldable pub finish_of : List ℕ → ℕ → Bool → ℕ → List ℕ → Result
finish_of table serial outcome time out =
    if (eqb (finish_refusal table time (length out)) 0)
    (delivered (finish serial outcome (tick time (decode_table table))) out [])
    (unchanged (finish_refusal table time (length out)) table out [])

-- format: refusals 1, 6

unfoldable pub format_refusal : ℕ → ℕ → ℕ
format_refusal size time = unless (table_shape size) 1 (unless (leb time last_time) 6 0)

-- the number, and the table after it
pub record Numbered : Type 0 where
  pub refusal : ℕ
  pub table : List ℕ

abbrev pub numbered : ℕ → List ℕ → Numbered
numbered n table = record { refusal = n; table = table }

unfoldable pub format_of : List ℕ → ℕ → Numbered
format_of table time =
    if (eqb (format_refusal (length table) time) 0)
    (numbered 0 (encode_table (formatted (length table / 512 - 1) time)))
    (numbered (format_refusal (length table) time) table)

-- housekeeping: refusals 1, 2, 6

unfoldable pub housekeep_refusal : List ℕ → ℕ → ℕ
housekeep_refusal table time =
    unless (table_shape (length table)) 1
    (unless (table_lawful table) 2
    (unless (leb time last_time) 6
    0))

unfoldable pub housekeep_of : List ℕ → ℕ → Numbered
housekeep_of table time =
    if (eqb (housekeep_refusal table time) 0)
    (numbered 0 (encode_table (housekept time (decode_table table))))
    (numbered (housekeep_refusal table time) table)

-- check: refusals 1, 2

unfoldable pub check_of : List ℕ → ℕ
check_of table = unless (table_shape (length table)) 1 (unless (table_lawful table) 2 0)

-- the form reader: refusals 4, 5, 7, 8

-- 7 for a malformed body, 8 where username or password is absent
abbrev pub form_lacks : Read Posted → ℕ
form_lacks Malformed = 7
form_lacks (Given p) = unless (not (is_empty p.username) && not (is_empty p.password)) 8 0

unfoldable pub form_refusal : List ℕ → ℕ → ℕ → ℕ
form_refusal body username password =
    unless (leb 64 username && leb 128 password) 4
    (unless (leb (length body) 1024) 5
    (form_lacks (posted body)))

pub record FormRead : Type 0 where
  pub form : Form
  pub username : List ℕ
  pub password : List ℕ

abbrev pub form_read : Form → List ℕ → List ℕ → FormRead
form_read form username password = record { form = form; username = username; password = password }

-- the two lengths and the bytes of both
abbrev pub form_given : List ℕ → List ℕ → List ℕ → List ℕ → FormRead
form_given user word username password =
    form_read (record { refusal = 0; username_length = length user; password_length = length word }) (spliced username 0 user) (spliced password 0 word)

abbrev pub form_refused : ℕ → List ℕ → List ℕ → FormRead
form_refused n username password = form_read (record { refusal = n; username_length = 0; password_length = 0 }) username password

-- of a body that is not refused
abbrev pub form_by : Read Posted → List ℕ → List ℕ → FormRead
form_by Malformed username password = form_refused 7 username password
form_by (Given p) username password = form_given p.username p.password username password

unfoldable pub form_of : List ℕ → List ℕ → List ℕ → FormRead
form_of body username password =
    if (eqb (form_refusal body (length username) (length password)) 0)
    (form_by (posted body) username password)
    (form_refused (form_refusal body (length username) (length password)) username password)
