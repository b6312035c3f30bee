-- What each call promises of what goes in and what comes out: refused, by the first number that applies and with nothing written,
-- or answered, as the protocol says.
use Rattle.std.specs.Prelude.{◌≡◌, Bool, true, false, List, [], ℕ, ◌-◌, ◌/◌, length}
use Rattle.protocol.specs.Register.{encode_entry, register_shape, register_lawful}
use Rattle.protocol.specs.Table.{table_shape, table_lawful, encode_table, decode_table, formatted}
use Rattle.protocol.specs.Request.{posted}
use Rattle.protocol.specs.Steps.{tick, clear, finish}
use Rattle.protocol.specs.Visits.{visit_refusal, visit_said, VisitRead, visit_given, visit_refused}
use Rattle.protocol.specs.Panels.{entry, panel_refusal, Made, made, fault_from, fault}
use Rattle.protocol.specs.declared.Fault.{Fault}
use Rattle.protocol.specs.Calls.{Inputs, Result, refusal, step_of, delivered, unchanged, finish_refusal, Numbered, numbered, format_refusal, housekeep_refusal, FormRead, form_refusal, form_refused, form_by}

-- format: its number, or a fresh table
pub record Formats (table : List ℕ) (time : ℕ) (o : Numbered) : Type 0 where
  pub refused : (format_refusal (length table) time ≡ 0 → ⊥) → o ≡ numbered (format_refusal (length table) time) table
  pub answered : format_refusal (length table) time ≡ 0 → o ≡ numbered 0 (encode_table (formatted (length table / 512 - 1) time))

-- housekeeping: its number, or the table with the clock moved and the dead freed
pub record Housekeeps (table : List ℕ) (time : ℕ) (o : Numbered) : Type 0 where
  pub refused : (housekeep_refusal table time ≡ 0 → ⊥) → o ≡ numbered (housekeep_refusal table time) table
  pub answered : housekeep_refusal table time ≡ 0 → o ≡ numbered 0 (encode_table (clear (tick time (decode_table table))))

-- check: 1 for a wrong length, 2 for a broken rule, else 0
pub record Checks (table : List ℕ) (o : ℕ) : Type 0 where
  pub shape : table_shape (length table) ≡ false → o ≡ 1
  pub rules : table_shape (length table) ≡ true → table_lawful table ≡ false → o ≡ 2
  pub lawful : table_shape (length table) ≡ true → table_lawful table ≡ true → o ≡ 0

-- the form reader: its number, or both values
pub record Reads (body username password : List ℕ) (o : FormRead) : Type 0 where
  pub refused : (form_refusal body (length username) (length password) ≡ 0 → ⊥) → o ≡ form_refused (form_refusal body (length username) (length password)) username password
  pub answered : form_refusal body (length username) (length password) ≡ 0 → o ≡ form_by (posted body) username password

-- answer: its number, or the request's step on the table after the clock
pub record Answers (i : Inputs) (o : Result) : Type 0 where
  pub refused : (refusal i ≡ 0 → ⊥) → o ≡ unchanged (refusal i) i.table i.out i.cookie_out
  pub answered : refusal i ≡ 0 → o ≡ delivered (step_of i) i.out i.cookie_out

-- finish: its number, or the callback's outcome on the table after the clock
pub record Finishes (table : List ℕ) (serial : ℕ) (outcome : Bool) (time : ℕ) (out : List ℕ) (o : Result) : Type 0 where
  pub refused : (finish_refusal table time (length out) ≡ 0 → ⊥) → o ≡ unchanged (finish_refusal table time (length out)) table out []
  pub answered : finish_refusal table time (length out) ≡ 0 → o ≡ delivered (finish serial outcome (tick time (decode_table table))) out []

-- visit: its number, or the two lines of the visit; either way the table is as it was
pub record Visits (table cookie : List ℕ) (number time : ℕ) (random out : List ℕ) (o : VisitRead) : Type 0 where
  pub refused : (visit_refusal table cookie number time (length random) (length out) ≡ 0 → ⊥) → o ≡ visit_refused (visit_refusal table cookie number time (length random) (length out)) table out
  pub answered : visit_refusal table cookie number time (length random) (length out) ≡ 0 → o ≡ visit_given (visit_said table cookie number time random) table out

-- panel: its number, or the block of the two texts
pub record Makes (service callback block : List ℕ) (o : Made) : Type 0 where
  pub refused : (panel_refusal service callback (length block) ≡ 0 → ⊥) → o ≡ made (panel_refusal service callback (length block)) block
  pub answered : panel_refusal service callback (length block) ≡ 0 → o ≡ made 0 (encode_entry (entry service callback))

-- check_register: 3 and block 0 for a wrong length, 3 and the first block at fault for a broken rule, else 0 and 0
pub record Judges (register : List ℕ) (o : Fault) : Type 0 where
  pub shape : register_shape (length register) ≡ false → o ≡ fault 3 0
  pub rules : register_shape (length register) ≡ true → register_lawful register ≡ false → o ≡ fault 3 (fault_from 0 (length register / 512) register)
  pub lawful : register_shape (length register) ≡ true → register_lawful register ≡ true → o ≡ fault 0 0
