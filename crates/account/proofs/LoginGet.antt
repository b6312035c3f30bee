-- login by GET: what its answer says is what it did to the table. Assumes nothing.
use mathlib.Core.Path.{◌≡◌, refl}
use mathlib.Core.Bool.{true, false}
use mathlib.Core.List.{[]}
use Prim.Native.Nat.{ℕ}
use native.Mathlib.Omega.{arith}
use Rattle.protocol.specs.Bytes.{ascii, is_empty, same, among, decimal}
use Rattle.protocol.specs.Tickets.{a_login, a_session, a_service}
use Rattle.protocol.specs.Records.{name_of}
use Rattle.protocol.specs.Table.{Table}
use Rattle.protocol.specs.Register.{decode_register}
use Rattle.protocol.specs.Request.{Read, Malformed, Given, Asked, LoginGet}
use Rattle.protocol.specs.Answers.{Reply, ErrorPage, SignedIn, FormPage, RedirectTo, reply_text, reply_answer, page_head}
use Rattle.protocol.specs.Steps.{Brought, Step, step, session_of, new_login, new_service, form_with, ticket_with, ticket_step, login_get}
use Rattle.protocol.proofs.Searches.{Live}
use Rattle.protocol.proofs.Courses.{FormCourse, shows, no_form, signed_in_lem, tickets, StandCourse, stands, no_ticket, GetCourse, unknown, standing_by, away, form_shown, get_course}
use Rattle.account.specs.History.{Text, AnswerCall}
use Rattle.account.specs.Reading.{no_credentials, Said, says, carries, is_form, read_login, quiet, read_request}
use Rattle.account.specs.Notebook.{Notebook, pass, note}
use Rattle.account.specs.Truth.{Known}
use Rattle.account.specs.Account.{one, validators}
use Rattle.account.proofs.Base.{some_slot}
use Rattle.account.proofs.Reached.{Reached, passed}
use Rattle.account.proofs.Parts.{reach_show, reach_issue}
use Rattle.account.proofs.Texts.{letters, ticket_read, new_letters, new_some, form_200, page_403, page_503, page_in}
use Rattle.account.proofs.Counts.{Ok, ok_by, owes_nothing, elsewhere, slot_named_lem}

-- what a request brings, from the call
abbrev pub bring : AnswerCall → Brought
bring a = record { register = decode_register a.register; cookie = a.cookie; random = a.random; verdict = a.verdict }

-- login is no validator and not proxy
abbrev pub login_path : Text
login_path = ascii "/cas/login"

pub not_proxy : same login_path (ascii "/cas/proxy") ≡ false
unfolding same
not_proxy = refl

pub no_validator : among login_path validators ≡ false
unfolding same among
no_validator = refl

module _ (K : Known) (L : Notebook) (t : Table) (a : AnswerCall) (R : Reached (passed a.time K) (pass a.time L) t) where
  module _ (q : Asked) where
    abbrev saying : Reply → Said
    saying r = read_login a no_credentials q.service (reply_answer r) (reply_text r) []

    abbrev G : Step → Type 0
    G x = Ok K L login_path (saying x.reply) x

    -- a form with this login ticket, or this ticket
    abbrev giving : Text → Text → Said
    giving lt ticket = says a no_credentials [] false lt ticket q.service a.cookie []

    -- nothing is given
    still : (r : Reply) → saying r ≡ giving [] [] → one (carries (reply_answer r)) ≡ 0 → G (step t r)
    unfolding note
    still r none uncounted = ok_by none (elsewhere not_proxy no_validator R (owes_nothing (giving [] []) refl refl refl) refl refl (omega arith))

    still_page : (status : ℕ) → is_form (page_head status (decimal status)) ≡ false → G (step t (ErrorPage status))
    unfolding reply_text reply_answer read_login
    still_page status e = still (ErrorPage status) (rw e) refl

    form_said : (lt : Text) → letters lt ≡ true → saying (FormPage 200 lt q.service) ≡ giving lt []
    unfolding reply_text reply_answer read_login
    form_said lt e = let f = form_200 lt q.service e in rw (f.0, f.1)

    form_ok : {x : Step} → FormCourse 200 q.service a.random t x → G x
    unfolding form_with reply_answer note
    form_ok (shows m c) =
        let lt : Text = name_of (new_login a.random t) in
        let some = new_some a_login 0 0 0 0 [] a.random t (omega arith) (omega arith) in
        ok_by (form_said lt (new_letters a_login 0 0 0 0 [] a.random t (omega arith) (omega arith)))
        (elsewhere not_proxy no_validator (rw some (rw some at (reach_show R m a.random))) (owes_nothing (giving lt []) refl refl refl) refl refl (omega arith))
    form_ok no_form = still_page 503 page_503

    ticket_said : (ticket : Text) → is_empty ticket ≡ false → saying (RedirectTo q.service ticket) ≡ giving [] ticket
    unfolding reply_text reply_answer read_login
    ticket_said ticket e = rw (e, ticket_read q.service ticket e)

    -- a ticket of a call without credentials has no mark
    stand_ok : {x : Step} → Live a_session t (session_of a.cookie t) → StandCourse 0 (session_of a.cookie t) q.service a.random t x → G x
    unfolding ticket_step ticket_with reply_text reply_answer read_login note
    stand_ok l (stands (signed_in_lem e)) = still SignedIn (rw page_in) refl
    stand_ok l (stands (tickets e m)) =
        let s : ℕ = session_of a.cookie t in
        let some = new_some a_service 0 s s 0 q.service a.random t (omega arith) (omega arith) in
        let ticket : Text = name_of (new_service 0 s q.service a.random t) in
        ok_by (ticket_said ticket some)
        (elsewhere not_proxy no_validator
        (rw some (rw some at (reach_issue R s a.cookie (slot_named_lem a_session a.cookie t (some_slot s l.some)) m 0 false refl q.service a.random _ refl)))
        (owes_nothing (giving [] ticket) refl refl refl) refl refl (rw some (omega arith)))
    stand_ok l no_ticket = still_page 503 page_503

    unmarked_without_credentials : {x : Step} → GetCourse q (bring a) t x → G x
    unfolding reply_text reply_answer read_login
    unmarked_without_credentials (unknown e) = still_page 403 page_403
    unmarked_without_credentials (standing_by n l c) = stand_ok l c
    unmarked_without_credentials (away n w e) = still (RedirectTo q.service []) refl refl
    unmarked_without_credentials (form_shown c) = form_ok c

  pub login_get_ok : (r : Read Asked) → (let s = login_get r (bring a) t in Ok K L login_path (read_request a (LoginGet r) (reply_answer s.reply) (reply_text s.reply) s.cookie s.cleared) s)
  unfolding login_get read_request reply_answer note
  login_get_ok Malformed = elsewhere not_proxy no_validator R (owes_nothing (quiet a false) refl refl refl) refl refl (omega arith)
  login_get_ok (Given q) = unmarked_without_credentials q (get_course q (bring a) t)
