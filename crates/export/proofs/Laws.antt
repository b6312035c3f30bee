-- A list of the right length filled with a result's numbers; the exported calls are those of `signon`. Assumes nothing.
use mathlib.Core.Path.{◌≡◌, refl, sym, ap, ◌∙◌}
use mathlib.Core.Bool.{Bool, true, false}
use mathlib.Core.List.{List, [], ◌∷◌}
use Prim.Native.Nat.{ℕ}
use borrow.Author.Tests.{eq-eqb, ne_eqb}
use lib.ListN.{length}
use Rattle.std.specs.Int.{from_bool}
use Rattle.protocol.specs.Bytes.{if}
use Rattle.protocol.specs.Answers.{number_of, data_of}
use Rattle.protocol.specs.Calls.{inputs, result_of, answer_of, finish_of, FormRead, form_read, form_of}
use Rattle.protocol.specs.Visits.{visit_read, visit_of}
use Rattle.protocol.specs.declared.Method.{Method}
use Rattle.protocol.specs.declared.Method.TheVariants as method
use Rattle.protocol.specs.declared.Outcome.{Outcome}
use Rattle.protocol.specs.declared.Form.{Form}
use Rattle.protocol.specs.Panels.{fault_of}
use Rattle.protocol.specs.declared.Visit.{Visit}
use Rattle.protocol.specs.declared.Fault.{Fault}
use Rattle.export.specs.Numbers.{method_of, outcome_numbers, form_numbers, visit_numbers, fault_numbers, handed, handed_result, answer_handed, finish_handed, handed_visit, visit_handed, handed_form, form_handed, handed_fault, fault_handed}

-- an outcome's numbers, where kind, flag and data were told
flag : (b : Bool) → from_bool b ≡ if b 1 0
flag true = refl
flag false = refl

pub outcome_put : (l : List ℕ) (o : Outcome) {k f d : ℕ} → k ≡ number_of o.answer → f ≡ from_bool o.cookie_cleared → d ≡ data_of o.answer
    → l ≡ o.refusal ∷ k ∷ o.status ∷ o.length ∷ o.cookie_length ∷ f ∷ o.callback_serial ∷ d ∷ [] → l ≡ outcome_numbers o
unfolding outcome_numbers
outcome_put l o {k} {f} {d} p q r e = e ∙ rw (p, q ∙ flag o.cookie_cleared, r)

-- the method, as it was told
pub method_told : (post : Bool) {m : Method} → m ≡ if post method.Post method.Get → m ≡ method_of post
method_told true e = e
method_told false e = e

module _ (l t g : List ℕ) (post : Bool) (u b k : List ℕ) (n : ℕ) (x : List ℕ) (v : Bool) (o c : List ℕ) where
  pub answer_none : (length l ≡ 8 → ⊥) → handed false l t o c ≡ answer_handed l (inputs t g (method_of post) u b k n x v o c)
  unfolding answer_handed
  answer_none h = rw (ne_eqb (length l) 8 h)

  pub answer_some : {l' t' o' c' : List ℕ} {r : Outcome} {m : Method} → length l ≡ 8 → m ≡ method_of post → result_of r t' o' c' ≡ answer_of (inputs t g m u b k n x v o c) → l' ≡ outcome_numbers r
      → handed true l' t' o' c' ≡ answer_handed l (inputs t g (method_of post) u b k n x v o c)
  unfolding answer_handed
  answer_some {l'} {t'} {o'} {c'} {r} {m} h q e w =
      let f : handed true (outcome_numbers r) t' o' c' ≡ handed_result (answer_of (inputs t g m u b k n x v o c)) = ap handed_result e in
      rw (eq-eqb (length l) 8 h, w, sym q) f

module _ (l table : List ℕ) (serial : ℕ) (ok : Bool) (time : ℕ) (out : List ℕ) where
  pub finish_none : (length l ≡ 8 → ⊥) → handed false l table out [] ≡ finish_handed l table serial ok time out
  unfolding finish_handed
  finish_none h = rw (ne_eqb (length l) 8 h)

  pub finish_some : {l' t o : List ℕ} {r : Outcome} → length l ≡ 8 → result_of r t o [] ≡ finish_of table serial ok time out → l' ≡ outcome_numbers r → handed true l' t o [] ≡ finish_handed l table serial ok time out
  unfolding finish_handed
  finish_some {l'} {t} {o} {r} h e m =
      let f : handed true (outcome_numbers r) t o [] ≡ handed_result (finish_of table serial ok time out) = ap handed_result e in
      rw (eq-eqb (length l) 8 h, m) f

module _ (l table cookie : List ℕ) (number time : ℕ) (random out : List ℕ) where
  pub visit_none : (length l ≡ 2 → ⊥) → handed false l table out [] ≡ visit_handed l table cookie number time random out
  unfolding visit_handed
  visit_none h = rw (ne_eqb (length l) 2 h)

  pub visit_some : {l' o : List ℕ} {v : Visit} → length l ≡ 2 → visit_read v table o ≡ visit_of table cookie number time random out → l' ≡ visit_numbers v
      → handed true l' table o [] ≡ visit_handed l table cookie number time random out
  unfolding visit_handed
  visit_some {l'} {o} {v} h e m =
      let f : handed true (visit_numbers v) table o [] ≡ handed_visit (visit_of table cookie number time random out) = ap handed_visit e in
      rw (eq-eqb (length l) 2 h, m) f

module _ (l body username password : List ℕ) where
  pub form_none : (length l ≡ 3 → ⊥) → handed_form false l username password ≡ form_handed l body username password
  unfolding form_handed
  form_none h = rw (ne_eqb (length l) 3 h)

  pub form_some : {l' u p : List ℕ} {f : Form} → length l ≡ 3 → form_read f u p ≡ form_of body username password → l' ≡ form_numbers f → handed_form true l' u p ≡ form_handed l body username password
  unfolding form_handed
  form_some {l'} {u} {p} {f} h e m =
      let g : handed_form true (form_numbers f) u p ≡ handed_form true (form_numbers (form_of body username password).form) (form_of body username password).username (form_of body username password).password =
      ap (λ (x : FormRead). handed_form true (form_numbers x.form) x.username x.password) e in
      rw (eq-eqb (length l) 3 h, m) g

module _ (l register : List ℕ) where
  pub fault_none : (length l ≡ 2 → ⊥) → handed_fault false l ≡ fault_handed l register
  unfolding fault_handed
  fault_none h = rw (ne_eqb (length l) 2 h)

  pub fault_some : {l' : List ℕ} {f : Fault} → length l ≡ 2 → f ≡ fault_of register → l' ≡ fault_numbers f → handed_fault true l' ≡ fault_handed l register
  unfolding fault_handed
  fault_some h e m = rw (eq-eqb (length l) 2 h, m, e)
