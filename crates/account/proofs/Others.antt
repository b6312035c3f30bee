-- proxy, logout, finish, and the request by its path: what the answers say is what was done to the table. Assumes nothing.
use mathlib.Core.Path.{◌≡◌, refl}
use mathlib.Core.Bool.{Bool, true, false}
use mathlib.Core.List.{[]}
use Prim.Native.Nat.{ℕ, ◌+◌}
use native.Mathlib.Omega.{arith}
use borrow.Author.Tests.{eq-eqb}
use lib.ListN.{length}
use Rattle.protocol.specs.Bytes.{ascii, is_empty, same, among, digits}
use Rattle.protocol.specs.Tickets.{a_proxy, a_grant, iou_text}
use Rattle.protocol.specs.Records.{Rec, name_of}
use Rattle.protocol.specs.Table.{Table, rec_at}
use Rattle.protocol.specs.Request.{Read, Malformed, Given, Shown, shown, malformed, validator_names, url_shown, from_query, present, Wanted, wanted, leaving, asked, posted, Request, Logout, Validate, Proxy, path_part, query_part, get_request, post_request, request_of}
use Rattle.protocol.specs.Answers.{Code, InvalidRequest, ErrorPage, ProxySuccess, ProxyFailure, reply_text, reply_answer, page_head, failure_text, in_response}
use Rattle.protocol.specs.Steps.{Step, step, session_of, slot_named, new_proxy, proxy_with, proxy, logout, waiting_slot, success_of, finished, finish, validate, request_step}
use Rattle.protocol.specs.declared.Method.{Method}
use Rattle.protocol.specs.declared.Method.TheVariants as method
use Rattle.protocol.specs.declared.Path.{Path}
use Rattle.protocol.specs.declared.Validator.{Validator}
use Rattle.protocol.proofs.Laws.{fork}
use Rattle.protocol.proofs.Courses.{FinishCourse, none, raises, drops, finish_course, ProxyCourse, fails, issues, proxy_course, LeaveCourse, stays, ends, leave_course}
use Rattle.account.specs.History.{Text, AnswerCall, FinishCall, tell}
use Rattle.account.specs.Reading.{no_credentials, no_showing, Said, says, tells, quiet, read_request, read_call}
use Rattle.account.specs.Notebook.{ended, Notebook, of_session, close_all, pass, note}
use Rattle.account.specs.Truth.{Known, learn}
use Rattle.account.specs.Account.{one, validators, looks_good, Settlement, Owed}
use Rattle.account.proofs.Base.{clash, some_slot}
use Rattle.account.proofs.Reached.{Reached, passed}
use Rattle.account.proofs.Parts.{grant_some, reach_proxy, reach_end, reach_unended, settlement, reach_granted, reach_refused}
use Rattle.account.proofs.Texts.{proxy_read, new_letters, new_some}
use Rattle.account.proofs.Paths.{name_for, Named, login, logout as leaves, validates, proxy as proxies, unknown, named, renew_counts}
use Rattle.account.proofs.Counts.{Ok, ok_by, owes_nothing, elsewhere, silent, page_ok}
use Rattle.account.proofs.LoginGet.{bring, login_get_ok}
use Rattle.account.proofs.LoginPost.{login_post_ok}
use Rattle.account.proofs.Validators.{given_ok, malformed_ok}

abbrev Says : Known → Notebook → Text → AnswerCall → Request → Step → Type 0
Says K L path a r x = Ok K L path (read_request a r (reply_answer x.reply) (reply_text x.reply) x.cookie x.cleared) x

-- proxy
abbrev proxy_path : Text
proxy_path = ascii "/cas/proxy"

proxy_no_validator : among proxy_path validators ≡ false
unfolding same among
proxy_no_validator = refl

module _ (K : Known) (L : Notebook) (t : Table) (a : AnswerCall) (R : Reached (passed a.time K) (pass a.time L) t) where
  unproxied : (r : Read Wanted) (code : Code) → Says K L proxy_path a (Proxy r) (step t (ProxyFailure code))
  unfolding reply_answer reply_text read_request note
  unproxied Malformed code = silent R refl refl refl refl refl refl refl (λ v. absurd (clash v proxy_no_validator))
  unproxied (Given w) code = silent R refl refl refl refl refl refl refl (λ v. absurd (clash v proxy_no_validator))

  module _ (w : Wanted) where
    abbrev k : ℕ
    k = slot_named a_grant w.pgt t

    abbrev new : Rec
    new = new_proxy k w.target a.random t

    abbrev proxying : Said
    proxying = says a no_credentials [] false [] (name_of new) w.target [] w.pgt

    proxied_said : read_request a (Proxy (Given w)) (reply_answer (ProxySuccess (name_of new))) (reply_text (ProxySuccess (name_of new))) [] false ≡ proxying
    unfolding reply_answer reply_text read_request
    proxied_said = rw (proxy_read (name_of new) (new_letters a_proxy 0 k (rec_at k t.slots).session 0 w.target a.random t (omega arith) (omega arith)))

    by_grant : {s : Step} → ProxyCourse w (bring a) t s → Says K L proxy_path a (Proxy (Given w)) s
    unfolding proxy_with reply_answer read_request note same
    by_grant (fails code) = unproxied (Given w) code
    by_grant (issues e l m) =
        let found = some_slot k l.some in
        let some = new_some a_proxy 0 k (rec_at k t.slots).session 0 w.target a.random t (omega arith) (omega arith) in
        ok_by proxied_said
        (record {
          reached = rw (some, grant_some R w.pgt found) (rw some at (reach_proxy R m w.pgt found w.target a.random));
          owed = owes_nothing proxying refl refl refl;
          issues = rw some (omega arith);
          accepts = rw proxy_no_validator (omega arith);
          wins = rw proxy_no_validator (omega arith);
          frank = λ v. absurd (clash v proxy_no_validator);
        })

  proxy_ok : (r : Read Wanted) → Says K L proxy_path a (Proxy r) (proxy r (bring a) t)
  unfolding proxy
  proxy_ok Malformed = unproxied Malformed InvalidRequest
  proxy_ok (Given w) = by_grant w (proxy_course w (bring a) t)

  -- logout
  left_ok : {u : Table} → LeaveCourse a.cookie t u → Reached (passed a.time K) (close_all ended (of_session a.cookie) (pass a.time L)) u
  left_ok (stays e) = reach_unended R a.cookie (eq-eqb (session_of a.cookie t) 0 e)
  left_ok (ends l) = reach_end R a.cookie (some_slot (session_of a.cookie t) l.some)

  logout_ok : (r : Read Text) → Says K L (ascii "/cas/logout") a (Logout r) (logout r (bring a) t)
  unfolding logout reply_answer read_request note same among
  logout_ok Malformed = elsewhere refl refl R (owes_nothing (quiet a false) refl refl refl) refl refl (omega arith)
  logout_ok (Given url) = elsewhere refl refl (left_ok (leave_course a.cookie t)) (owes_nothing (quiet a true) refl refl refl) refl refl (omega arith)

-- finish
pub record Settles (K : Known) (L : Notebook) (f : FinishCall) (x : Step) : Type 0 where
  pub reached : (let s = read_call (tell f) (reply_answer x.reply) (reply_text x.reply) x.cookie x.cleared in Reached (learn s K) (note s L) x.table)
  pub owed : (let s = read_call (tell f) (reply_answer x.reply) (reply_text x.reply) x.cookie x.cleared in Owed s K (pass f.time L))
  pub wins : (let s = read_call (tell f) (reply_answer x.reply) (reply_text x.reply) x.cookie x.cleared in one (tells (reply_answer x.reply)) + length K.successful ≡ length (learn s K).successful)
  pub frank : tells (reply_answer x.reply) ≡ false → looks_good (reply_text x.reply) ≡ false

module _ (K : Known) (L : Notebook) (t : Table) (f : FinishCall) (R : Reached (passed f.time K) (pass f.time L) t) where
  abbrev waits : Rec
  waits = rec_at (waiting_slot f.serial t) t.slots

  abbrev told : Text → Text
  told iou = reply_text (success_of waits.session waits.mark iou waits.parent t.slots)

  abbrev settling : Bool → Text → Said
  settling outcome said =
      record { time = f.time; cookie = []; by = no_credentials; opened = []; ended = false; form = []; issued = []; service = []; session = []; grant = []; showing = no_showing; settled = true; outcome = outcome; serial = f.serial; said = said }

  owes : (s : Said) → is_empty s.opened ≡ true → s.showing.accepted ≡ false → Settlement s (K.called s.serial) (pass f.time L) → Owed s K (pass f.time L)
  owes s o a w = record { opens = λ z. absurd (clash o z); accepts = λ z. absurd (clash z a); welcomes = λ z. absurd (clash z a); settles = λ z. w }

  waits_no_more : {x : Step} → FinishCourse f.serial f.outcome t x → Settles K L f x
  unfolding finished reply_answer reply_text failure_text in_response read_call note same
  waits_no_more (none e) = record { reached = R; owed = owes_nothing _ refl refl refl; wins = omega arith; frank = λ n. refl }
  waits_no_more (raises o l) =
      let e = some_slot (waiting_slot f.serial t) l.some in
      let x : Said = settling true (told (iou_text waits.iou)) in
      record { reached = rw o (reach_granted R x e); owed = rw o (owes x refl refl (settlement R x e refl)); wins = omega arith; frank = λ n. absurd (clash {b = true} refl n) }
  waits_no_more (drops o l) =
      let e = some_slot (waiting_slot f.serial t) l.some in
      let x : Said = settling false (told []) in
      record { reached = rw o (reach_refused R x e); owed = rw o (owes x refl refl (settlement R x e refl)); wins = omega arith; frank = λ n. absurd (clash {b = true} refl n) }

  pub finish_ok : Settles K L f (finish f.serial f.outcome t)
  finish_ok = waits_no_more (finish_course f.serial f.outcome t)

-- a request, by its method and path
module _ (K : Known) (L : Notebook) (t : Table) (a : AnswerCall) (R : Reached (passed a.time K) (pass a.time L) t) where
  abbrev at : Text
  at = path_part a.target

  abbrev q : Text
  q = query_part a.target

  page_404 : Ok K L at (quiet a false) (step t (ErrorPage 404))
  unfolding page_head digits same
  page_404 = page_ok a t 404 R refl

  page_405 : Ok K L at (quiet a false) (step t (ErrorPage 405))
  unfolding page_head digits same
  page_405 = page_ok a t 405 R refl

  -- the request as a validator reads it
  abbrev showing : Validator → Shown
  showing v = record { service = from_query "service" q; ticket = from_query "ticket" q; renew = present "renew" q; pgt_url = url_shown v q }

  validate_ok : (v : Validator) → at ≡ name_for v → Says K L at a (Validate v (shown v q)) (validate v (shown v q) (bring a) t)
  unfolding shown read_request
  validate_ok v e =
      fork (λ (r : Read Shown). Says K L at a (Validate v r) (validate v r (bring a) t)) (malformed false (validator_names v) q) (λ z. malformed_ok K L t a R v e)
      (λ z. given_ok K L t a R v e (showing v) (renew_counts q))

  get_ok : {p : Path} → Named at p → Says K L at a (get_request p q) (request_step (get_request p q) (bring a) t)
  unfolding request_step read_request
  get_ok (login e) = rw e (login_get_ok K L t a R (asked q))
  get_ok (leaves e) = rw e (logout_ok K L t a R (leaving q))
  get_ok (validates v e) = validate_ok v e
  get_ok (proxies e) = rw e (proxy_ok K L t a R (wanted q))
  get_ok unknown = page_404

  post_ok : {p : Path} → Named at p → Says K L at a (post_request p a.body) (request_step (post_request p a.body) (bring a) t)
  unfolding request_step read_request
  post_ok (login e) = rw e (login_post_ok K L a t R (posted a.body))
  post_ok (leaves e) = page_405
  post_ok (validates v e) = page_405
  post_ok (proxies e) = page_405
  post_ok unknown = page_404

  pub request_ok : (m : Method) → Says K L at a (request_of m a.target a.body) (request_step (request_of m a.target a.body) (bring a) t)
  request_ok method.Get = get_ok (named at)
  request_ok method.Post = post_ok (named at)
