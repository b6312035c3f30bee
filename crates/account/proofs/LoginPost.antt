-- login by POST: what its answer says is what it did to the table. Assumes nothing.
use mathlib.Core.Path.{◌≡◌, refl, sym, ap, ◌∙◌}
use mathlib.Core.Bool.{Bool, true, false, ◌&&◌, not}
use mathlib.Core.List.{[]}
use Prim.Native.Nat.{ℕ, ◌+◌, ◌≤◌, max}
use native.Mathlib.Omega.{arith}
use borrow.Author.Tests.{lt-ltb, eq-eqb, eqb-false, not-true}
use lib.Dec.{eqb, ltb}
use Rattle.protocol.specs.Bytes.{if, is_empty, same, decimal}
use Rattle.protocol.specs.Tickets.{a_login, a_session, a_service, lifetime}
use Rattle.protocol.specs.Records.{name_of}
use Rattle.protocol.specs.Table.{Table, rec_at}
use Rattle.protocol.specs.Register.{decode_register}
use Rattle.protocol.specs.Request.{Read, Malformed, Given, Posted, LoginPost}
use Rattle.protocol.specs.Answers.{Reply, ErrorPage, SignedIn, FormPage, RedirectTo, reply_text, reply_answer, page_head}
use Rattle.protocol.specs.Steps.{Step, remove, is_named, slot_named, session_of, slot_for, new_rec, new_login, new_session, new_service, expiry_for, add, form_with, ticket_with, ticket_step, unknown_service, login_post}
use Rattle.protocol.proofs.Laws.{both, same-eq, same_refl}
use Rattle.protocol.proofs.Kept.{put_same}
use Rattle.protocol.proofs.Added.{Room}
use Rattle.protocol.proofs.Courses.{FormCourse, shows, no_form, AdmitCourse, signed_in_lem, tickets, StandCourse, stands, no_ticket, OpenCourse, opens as new_session_lem, no_session, AcceptedCourse, fresh, kept, changed, Credited, PostCourse, unknown, again, enters, post_course}
use Rattle.protocol.proofs.Searches.{nonzero}
use Rattle.account.specs.History.{Text, AnswerCall}
use Rattle.account.specs.Reading.{Credentials, Said, says, is_form, credentials_in, read_login, quiet, read_request}
use Rattle.account.specs.Notebook.{Notebook, session_line, enter, pass, edit, sign_on, note}
use Rattle.account.specs.Truth.{Known, login_origin}
use Rattle.account.specs.Account.{Owed}
use Rattle.account.proofs.Base.{clash, untrue, some_slot}
use Rattle.account.proofs.Reached.{Reached, passed, lasts, opens}
use Rattle.account.proofs.Parts.{reach_show, spend_live, reach_unsigned, reach_fresh, reach_kept, reach_changed, reach_open, opened_by, reach_issue}
use Rattle.account.proofs.Texts.{letters, ticket_read, new_letters, new_some, form_401, page_403, page_503, page_in}
use Rattle.account.proofs.Counts.{Ok, ok_by, owes_nothing, elsewhere, slot_named_lem}
use Rattle.account.proofs.LoginGet.{bring, login_path, not_proxy, no_validator}

module _ (K : Known) (L : Notebook) (a : AnswerCall) where
  module _ (p : Posted) where
    abbrev c : Credentials
    c = credentials_in a p

    -- what is known and noted after the time and the sign-on
    abbrev K₁ : Known
    K₁ = lasts p.lt 0 (passed a.time K)

    abbrev L₁ : Notebook
    L₁ = sign_on a.cookie c (pass a.time L)

    abbrev saying : Reply → Text → Said
    saying r opened = read_login a c p.service (reply_answer r) (reply_text r) opened

    abbrev P : Step → Type 0
    P x = Ok K L login_path (saying x.reply x.cookie) x

    -- the session after the call
    abbrev after : Text → Text
    after opened = if (is_empty opened) a.cookie opened

    abbrev signing : Text → Text → Text → Said
    signing opened lt ticket = says a c opened false lt ticket p.service (after opened) []

    -- a page that says nothing more
    still : (t : Table) (cleared : Bool) (status : ℕ) → Reached K₁ L₁ t → is_form (page_head status (decimal status)) ≡ false → P (record { table = t; reply = ErrorPage status; cookie = []; cleared = cleared })
    unfolding reply_text reply_answer read_login note
    still t cleared status R e = ok_by {s' = signing [] [] []} (rw e) (elsewhere not_proxy no_validator R (owes_nothing (signing [] [] []) refl refl refl) refl refl (omega arith))

    form_said : (lt : Text) → letters lt ≡ true → saying (FormPage 401 lt p.service) [] ≡ signing [] lt []
    unfolding reply_text reply_answer read_login
    form_said lt e = let f = form_401 lt p.service e in rw (f.0, f.1)

    form_ok : {t : Table} {x : Step} → Reached K₁ L₁ t → FormCourse 401 p.service a.random t x → P x
    unfolding form_with reply_answer note
    form_ok {t = t} R (shows m k) =
        let lt : Text = name_of (new_login a.random t) in
        let some = new_some a_login 0 0 0 0 [] a.random t (omega arith) (omega arith) in
        ok_by (form_said lt (new_letters a_login 0 0 0 0 [] a.random t (omega arith) (omega arith)))
        (elsewhere not_proxy no_validator (rw some (rw some at (reach_show R m a.random))) (owes_nothing (signing [] lt []) refl refl refl) refl refl (omega arith))
    form_ok {t = t} R no_form = still t false 503 R page_503

    -- accepted credentials: given, with a login ticket that was live
    module _ (given : c.given ≡ true) (live : ltb (max K.clock a.time) (K.login p.lt) ≡ true) where
      owes : (opened ticket : Text) → Owed (signing opened [] ticket) K (pass a.time L)
      owes opened ticket = record { opens = λ z. (given, live); accepts = λ z. absurd (clash z refl); welcomes = λ z. absurd (clash z refl); settles = λ z. absurd (clash z refl) }

      ticket_said : (ticket opened : Text) → is_empty ticket ≡ false → saying (RedirectTo p.service ticket) opened ≡ signing opened [] ticket
      unfolding reply_text reply_answer read_login
      ticket_said ticket opened e = rw (e, ticket_read p.service ticket e)

      in_said : (opened : Text) → saying SignedIn opened ≡ signing opened [] []
      unfolding reply_text reply_answer read_login
      in_said opened = rw page_in

      -- signed in under the session in slot s, whose cookie is the one after the call, and whose user it is
      admit_ok : {t : Table} {s : ℕ} {opened : Text} {x : Step} → Reached (opens opened p.username K₁) (edit (not (is_empty opened)) (λ (d : Notebook). enter (session_line opened p.username d.clock) d) L₁) t → is_named t.clock a_session (after opened) (rec_at s t.slots) ≡ true
          → p.username ≡ (rec_at s t.slots).text → AdmitCourse 1 s p.service a.random opened t x → P x
      unfolding ticket_step ticket_with reply_answer note
      admit_ok {opened = opened} R named own (signed_in_lem e) = ok_by (in_said opened) (elsewhere not_proxy no_validator R (owes opened []) refl refl (omega arith))
      admit_ok {t = t} {s = s} {opened = opened} R named own (tickets e m) =
          let some = new_some a_service 1 s s 0 p.service a.random t (omega arith) (omega arith) in
          let ticket : Text = name_of (new_service 1 s p.service a.random t) in
          let session : Text = after opened in
          let user = opened_by R s session named ∙ sym own in
          let credited : (c.given && ltb (max K.clock a.time) (K.login p.lt) && same p.username ((opens opened p.username K₁).opener session).user) ≡ true = rw (given, live, user) (same_refl p.username) in
          ok_by (ticket_said ticket opened some)
          (elsewhere not_proxy no_validator
          (rw some (rw some at (reach_issue R s session named m 1 true refl p.service a.random _ (ap (login_origin p.service ((opens opened p.username K₁).opener session)) credited))))
          (owes opened ticket) refl refl (rw some (omega arith)))

      -- a session that is kept is as it was opened
      stand_ok : {t : Table} {x : Step} → Reached K₁ L₁ t → 1 ≤ session_of a.cookie t → p.username ≡ (rec_at (session_of a.cookie t) t.slots).text → StandCourse 1 (session_of a.cookie t) p.service a.random t x → P x
      stand_ok {t = t} R k own (stands w) = admit_ok R (slot_named_lem a_session a.cookie t (some_slot (session_of a.cookie t) k)) own w
      stand_ok {t = t} R k own no_ticket = still t false 503 R page_503

      -- a new session's record, in the slot that it takes
      fresh_named : (t : Table) → Room t → is_named (add (new_session p.username a.random t) t).clock a_session (name_of (new_session p.username a.random t)) (rec_at (slot_for t) (add (new_session p.username a.random t) t).slots) ≡ true
      unfolding is_named add new_rec expiry_for
      fresh_named t m =
          rw (put_same (new_session p.username a.random t) t.slots (slot_for t) m.some m.within, lt-ltb t.clock (t.clock + lifetime a_session) (omega arith))
          (same_refl (name_of (new_session p.username a.random t)))

      fresh_user : (t : Table) → Room t → p.username ≡ (rec_at (slot_for t) (add (new_session p.username a.random t) t).slots).text
      unfolding add new_rec
      fresh_user t m = rw (put_same (new_session p.username a.random t) t.slots (slot_for t) m.some m.within)

      -- a new session, or 503
      open_ok : {t : Table} {ended : Bool} {x : Step} → Reached K₁ L₁ t → OpenCourse ended p.username p.service a.random t x → P x
      open_ok {t = t} R (new_session_lem m w) =
          let some = new_some a_session 0 0 0 0 p.username a.random t (omega arith) (omega arith) in
          admit_ok (rw some (rw some at (reach_open R m p.username a.random))) (rw some (fresh_named t m)) (fresh_user t m) w
      open_ok {t = t} {ended = ended} R no_session = still t ended 503 R page_503

  -- the login ticket is spent first
  module _ (t : Table) (R : Reached (passed a.time K) (pass a.time L) t) where
    module _ (p : Posted) where
      abbrev k : ℕ
      k = slot_named a_login p.lt t

      abbrev by : Credentials
      by = credentials_in a p

      abbrev t₁ : Table
      t₁ = remove k t

      -- credentials that count are accepted ones, for no unknown service
      username_and_password : by.given && not (eqb k 0) ≡ true → Credited k p (bring a) × (unknown_service p.service (decode_register a.register) ≡ false)
      username_and_password e =
          let w = both by.given (not (eqb k 0)) e in
          let x = both (a.verdict && not (is_empty p.username) && not (is_empty p.password)) (not (unknown_service p.service (decode_register a.register))) w.0 in
          let y = both (a.verdict && not (is_empty p.username)) (not (is_empty p.password)) x.0 in
          let z = both a.verdict (not (is_empty p.username)) y.0 in (
            record {
              login = nonzero k (eqb-false k 0 (not-true (eqb k 0) w.1));
              username = not-true (is_empty p.username) z.1;
              password = not-true (is_empty p.password) y.1;
              verdict = z.0;
            },
            not-true (unknown_service p.service (decode_register a.register)) x.1,
          )

      session_of_its_user : {x : Step} → by.given ≡ true → eqb k 0 ≡ false → AcceptedCourse (session_of a.cookie t₁) p.username p.service a.random t₁ x → P p x
      session_of_its_user g e (fresh s c) = open_ok p g (spend_live R a.cookie by e) (reach_fresh R a.cookie by g e (eq-eqb (session_of a.cookie t₁) 0 s)) c
      session_of_its_user g e (kept s u c) =
          stand_ok p g (spend_live R a.cookie by e) (reach_kept R a.cookie by g e (some_slot (session_of a.cookie t₁) s) u) s (sym (same-eq (rec_at (session_of a.cookie t₁) t₁.slots).text p.username u)) c
      session_of_its_user g e (changed s u c) = open_ok p g (spend_live R a.cookie by e) (reach_changed R a.cookie by g e (some_slot (session_of a.cookie t₁) s) u) c

      unsigned : (by.given && not (eqb k 0) ≡ true → ⊥) → Reached (K₁ p) (L₁ p) t₁
      unsigned n = reach_unsigned R a.cookie by (untrue (by.given && not (eqb k 0)) n)

      -- accepted credentials are given: username and password are there, the host said yes, and the service is not unknown
      by_reason : {x : Step} → PostCourse k p (bring a) t₁ x → P p x
      by_reason (unknown u) = still p t₁ false 403 (unsigned (λ z. clash u (username_and_password z).1)) page_403
      by_reason (again n c) = form_ok p (unsigned (λ z. n (username_and_password z).0)) c
      by_reason (enters u c w) = session_of_its_user (rw (u, c.password, c.username, c.verdict)) (some_slot k c.login) w

    pub login_post_ok : (r : Read Posted) → (let s = login_post r (bring a) t in Ok K L login_path (read_request a (LoginPost r) (reply_answer s.reply) (reply_text s.reply) s.cookie s.cleared) s)
    unfolding login_post read_request reply_answer note
    login_post_ok Malformed = elsewhere not_proxy no_validator R (owes_nothing (quiet a false) refl refl refl) refl refl (omega arith)
    login_post_ok (Given p) = by_reason p (post_course (slot_named a_login p.lt t) p (bring a) (remove (slot_named a_login p.lt t) t))
