-- Two outcomes that one promise allows are equal, refusals too; and what the calls give is allowed. Assumes nothing.
use mathlib.Core.Path.{◌≡◌, refl, sym, ◌∙◌}
use mathlib.Core.Bool.{Bool, true, false}
use mathlib.Core.List.{List}
use Prim.Native.Nat.{ℕ}
use lib.Dec.{eqb}
use lib.ListN.{length}
use borrow.Author.Tests.{eqb-true, eqb-false, eq-eqb, ne_eqb}
use Rattle.protocol.specs.Table.{table_shape, table_lawful}
use Rattle.protocol.specs.Register.{register_shape, register_lawful}
use Rattle.protocol.specs.Calls.{Inputs, Result, refusal, answer_of, finish_refusal, finish_of, Numbered, format_refusal, format_of, housekeep_refusal, housekeep_of, check_of, FormRead, form_refusal, form_of}
use Rattle.protocol.specs.Visits.{visit_refusal, VisitRead, visit_of}
use Rattle.protocol.specs.Panels.{panel_refusal, Made, panel_of, fault_of}
use Rattle.protocol.specs.declared.Fault.{Fault}
use Rattle.signon.specs.Promise.{Formats, Housekeeps, Checks, Reads, Answers, Finishes, Visits, Makes, Judges}

-- refused, or not
by_number : {C : Type 0} (n : ℕ) → (n ≡ 0 → C) → ((n ≡ 0 → ⊥) → C) → C
by_number {C} n is isn = pick (eqb n 0) refl
  where
    pick : (b : Bool) → eqb n 0 ≡ b → C
    pick true e = is (eqb-true n 0 e)
    pick false e = isn (eqb-false n 0 e)

by_test : {C : Type 0} (b : Bool) → (b ≡ true → C) → (b ≡ false → C) → C
by_test true is isn = is refl
by_test false is isn = isn refl

pub format_determined : (table : List ℕ) (time : ℕ) (o o' : Numbered) → Formats table time o → Formats table time o' → o ≡ o'
format_determined table time o o' p q =
    by_number (format_refusal (length table) time) (λ z. p.answered z ∙ sym (q.answered z)) (λ h. p.refused h ∙ sym (q.refused h))

pub format_promised : (table : List ℕ) (time : ℕ) (o : Numbered) → o ≡ format_of table time → Formats table time o
unfolding format_of
format_promised table time o e =
    record { refused = λ h. e ∙ rw (ne_eqb (format_refusal (length table) time) 0 h); answered = λ z. e ∙ rw (eq-eqb (format_refusal (length table) time) 0 z) }

pub housekeep_determined : (table : List ℕ) (time : ℕ) (o o' : Numbered) → Housekeeps table time o → Housekeeps table time o' → o ≡ o'
housekeep_determined table time o o' p q =
    by_number (housekeep_refusal table time) (λ z. p.answered z ∙ sym (q.answered z)) (λ h. p.refused h ∙ sym (q.refused h))

pub housekeep_promised : (table : List ℕ) (time : ℕ) (o : Numbered) → o ≡ housekeep_of table time → Housekeeps table time o
unfolding housekeep_of
housekeep_promised table time o e =
    record { refused = λ h. e ∙ rw (ne_eqb (housekeep_refusal table time) 0 h); answered = λ z. e ∙ rw (eq-eqb (housekeep_refusal table time) 0 z) }

pub check_determined : (table : List ℕ) (o o' : ℕ) → Checks table o → Checks table o' → o ≡ o'
check_determined table o o' p q =
    by_test (table_shape (length table))
    (λ s. by_test (table_lawful table) (λ l. p.lawful s l ∙ sym (q.lawful s l)) (λ l. p.rules s l ∙ sym (q.rules s l)))
    (λ s. p.shape s ∙ sym (q.shape s))

pub check_promised : (table : List ℕ) (o : ℕ) → o ≡ check_of table → Checks table o
unfolding check_of
check_promised table o e = record { shape = λ s. e ∙ rw s; rules = λ s l. e ∙ rw (s, l); lawful = λ s l. e ∙ rw (s, l) }

pub read_determined : (body username password : List ℕ) (o o' : FormRead) → Reads body username password o → Reads body username password o' → o ≡ o'
read_determined body username password o o' p q =
    by_number (form_refusal body (length username) (length password)) (λ z. p.answered z ∙ sym (q.answered z)) (λ h. p.refused h ∙ sym (q.refused h))

pub read_promised : (body username password : List ℕ) (o : FormRead) → o ≡ form_of body username password → Reads body username password o
unfolding form_of
read_promised body username password o e =
    record {
      refused = λ h. e ∙ rw (ne_eqb (form_refusal body (length username) (length password)) 0 h);
      answered = λ z. e ∙ rw (eq-eqb (form_refusal body (length username) (length password)) 0 z);
    }

pub answer_determined : (i : Inputs) (o o' : Result) → Answers i o → Answers i o' → o ≡ o'
answer_determined i o o' p q = by_number (refusal i) (λ z. p.answered z ∙ sym (q.answered z)) (λ h. p.refused h ∙ sym (q.refused h))

pub answer_promised : (i : Inputs) (o : Result) → o ≡ answer_of i → Answers i o
unfolding answer_of
answer_promised i o e = record { refused = λ h. e ∙ rw (ne_eqb (refusal i) 0 h); answered = λ z. e ∙ rw (eq-eqb (refusal i) 0 z) }

module _ (table : List ℕ) (serial : ℕ) (outcome : Bool) (time : ℕ) (out : List ℕ) where
  pub finish_determined : (o o' : Result) → Finishes table serial outcome time out o → Finishes table serial outcome time out o' → o ≡ o'
  finish_determined o o' p q =
      by_number (finish_refusal table time (length out)) (λ z. p.answered z ∙ sym (q.answered z)) (λ h. p.refused h ∙ sym (q.refused h))

  pub finish_promised : (o : Result) → o ≡ finish_of table serial outcome time out → Finishes table serial outcome time out o
  unfolding finish_of
  finish_promised o e =
      record { refused = λ h. e ∙ rw (ne_eqb (finish_refusal table time (length out)) 0 h); answered = λ z. e ∙ rw (eq-eqb (finish_refusal table time (length out)) 0 z) }

module _ (table cookie : List ℕ) (number time : ℕ) (random out : List ℕ) where
  abbrev number_of : ℕ
  number_of = visit_refusal table cookie number time (length random) (length out)

  pub visit_determined : (o o' : VisitRead) → Visits table cookie number time random out o → Visits table cookie number time random out o' → o ≡ o'
  visit_determined o o' p q = by_number number_of (λ z. p.answered z ∙ sym (q.answered z)) (λ h. p.refused h ∙ sym (q.refused h))

  pub visit_promised : (o : VisitRead) → o ≡ visit_of table cookie number time random out → Visits table cookie number time random out o
  unfolding visit_of
  visit_promised o e = record { refused = λ h. e ∙ rw (ne_eqb number_of 0 h); answered = λ z. e ∙ rw (eq-eqb number_of 0 z) }

module _ (service callback block : List ℕ) where
  pub panel_determined : (o o' : Made) → Makes service callback block o → Makes service callback block o' → o ≡ o'
  panel_determined o o' p q =
      by_number (panel_refusal service callback (length block)) (λ z. p.answered z ∙ sym (q.answered z)) (λ h. p.refused h ∙ sym (q.refused h))

  pub panel_promised : (o : Made) → o ≡ panel_of service callback block → Makes service callback block o
  unfolding panel_of
  panel_promised o e =
      record { refused = λ h. e ∙ rw (ne_eqb (panel_refusal service callback (length block)) 0 h); answered = λ z. e ∙ rw (eq-eqb (panel_refusal service callback (length block)) 0 z) }

pub register_determined : (register : List ℕ) (o o' : Fault) → Judges register o → Judges register o' → o ≡ o'
register_determined register o o' p q =
    by_test (register_shape (length register))
    (λ s. by_test (register_lawful register) (λ l. p.lawful s l ∙ sym (q.lawful s l)) (λ l. p.rules s l ∙ sym (q.rules s l)))
    (λ s. p.shape s ∙ sym (q.shape s))

wrong_shape : (register : List ℕ) → register_shape (length register) ≡ false → register_lawful register ≡ false
unfolding register_lawful
wrong_shape register s = rw s

pub register_promised : (register : List ℕ) (o : Fault) → o ≡ fault_of register → Judges register o
unfolding fault_of
register_promised register o e =
    record { shape = λ s. e ∙ rw (wrong_shape register s, s); rules = λ s l. e ∙ rw (l, s); lawful = λ s l. e ∙ rw l }
