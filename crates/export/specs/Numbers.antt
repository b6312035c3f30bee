-- A result as a list of numbers, and each exported call as the call of `signon` that it is.
use Rattle.std.specs.Prelude.{Bool, true, false, List, [], ◌∷◌, ℕ, eqb, length}
use Rattle.protocol.specs.Bytes.{if}
use Rattle.protocol.specs.Answers.{number_of, data_of}
use Rattle.protocol.specs.Calls.{Inputs, Result, answer_of, finish_of, form_of}
use Rattle.protocol.specs.Visits.{VisitRead, visit_of}
use Rattle.protocol.specs.declared.Method.{Method}
use Rattle.protocol.specs.declared.Method.TheVariants as method
use Rattle.protocol.specs.declared.Outcome.{Outcome}
use Rattle.protocol.specs.declared.Form.{Form}
use Rattle.protocol.specs.Panels.{fault_of}
use Rattle.protocol.specs.declared.Visit.{Visit}
use Rattle.protocol.specs.declared.Fault.{Fault}

abbrev pub method_of : Bool → Method
method_of true = method.Post
method_of false = method.Get

-- refusal, kind, status, length, cookie length, cookie cleared, callback serial, the answer's data
unfoldable pub outcome_numbers : Outcome → List ℕ
outcome_numbers o =
    o.refusal
    ∷ number_of o.answer
    ∷ o.status
    ∷ o.length
    ∷ o.cookie_length
    ∷ if o.cookie_cleared 1 0
    ∷ o.callback_serial
    ∷ data_of o.answer
    ∷ []

-- refusal, length of the username, length of the password
unfoldable pub form_numbers : Form → List ℕ
form_numbers f = f.refusal ∷ f.username_length ∷ f.password_length ∷ []

-- refusal, length of what is told
unfoldable pub visit_numbers : Visit → List ℕ
visit_numbers v = v.refusal ∷ v.length ∷ []

-- refusal, the first block at fault
unfoldable pub fault_numbers : Fault → List ℕ
fault_numbers f = f.refusal ∷ f.block ∷ []

-- what comes back: whether the list had the right length, the list, and the bytes
pub record Handed : Type 0 where
  pub taken : Bool
  pub list : List ℕ
  pub table : List ℕ
  pub out : List ℕ
  pub cookie : List ℕ

abbrev pub handed : Bool → List ℕ → List ℕ → List ℕ → List ℕ → Handed
handed b l t o c = record { taken = b; list = l; table = t; out = o; cookie = c }

abbrev pub handed_result : Result → Handed
handed_result r = handed true (outcome_numbers r.outcome) r.table r.out r.cookie

-- a list of another length: false, and nothing is written
unfoldable pub answer_handed : List ℕ → Inputs → Handed
answer_handed l i = if (eqb (length l) 8) (handed_result (answer_of i)) (handed false l i.table i.out i.cookie_out)

unfoldable pub finish_handed : List ℕ → List ℕ → ℕ → Bool → ℕ → List ℕ → Handed
finish_handed l table serial ok time out = if (eqb (length l) 8) (handed_result (finish_of table serial ok time out)) (handed false l table out [])

abbrev pub handed_visit : VisitRead → Handed
handed_visit r = handed true (visit_numbers r.visit) r.table r.out []

unfoldable pub visit_handed : List ℕ → List ℕ → List ℕ → ℕ → ℕ → List ℕ → List ℕ → Handed
visit_handed l table cookie number time random out =
    if (eqb (length l) 2) (handed_visit (visit_of table cookie number time random out)) (handed false l table out [])

pub record HandedForm : Type 0 where
  pub taken : Bool
  pub list : List ℕ
  pub username : List ℕ
  pub password : List ℕ

abbrev pub handed_form : Bool → List ℕ → List ℕ → List ℕ → HandedForm
handed_form b l u p = record { taken = b; list = l; username = u; password = p }

unfoldable pub form_handed : List ℕ → List ℕ → List ℕ → List ℕ → HandedForm
form_handed l body username password =
    if (eqb (length l) 3)
    (handed_form true (form_numbers (form_of body username password).form) (form_of body username password).username (form_of body username password).password)
    (handed_form false l username password)

pub record HandedFault : Type 0 where
  pub taken : Bool
  pub list : List ℕ

abbrev pub handed_fault : Bool → List ℕ → HandedFault
handed_fault b l = record { taken = b; list = l }

unfoldable pub fault_handed : List ℕ → List ℕ → HandedFault
fault_handed l register = if (eqb (length l) 2) (handed_fault true (fault_numbers (fault_of register))) (handed_fault false l)
