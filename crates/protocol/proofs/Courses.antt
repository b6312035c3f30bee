-- What a step does. Every step takes one of the courses below, each with what holds there: the ladders of Steps are walked here and nowhere else.
-- That a lawful table stays lawful, that answers fit, that serials never fall, and the account, go by cases over courses. Assumes nothing.
use mathlib.Core.Path.{◌≡◌}
use mathlib.Core.Bool.{Bool, true, false, ◌&&◌, ◌||◌, not}
use mathlib.Core.List.{List, []}
use Prim.Native.Nat.{ℕ, ◌+◌, ◌≤◌, ◌<◌}
use native.Mathlib.Omega.{arith}
use borrow.Author.Tests.{eqb-true, eqb-false, ne_eqb, leb-true, ltb-true, not-true, not-false}
use lib.Dec.{eqb, leb, ltb}
use Rattle.protocol.specs.Bytes.{if, is_empty, same}
use Rattle.protocol.specs.Tickets.{a_login, a_session, a_proxy, a_waiting, a_grant, deepest, iou_text}
use Rattle.protocol.specs.Records.{Rec, name_of}
use Rattle.protocol.specs.Table.{Table, rec_at, count_kind, login_cap}
use Rattle.protocol.specs.Register.{registered, callback_of}
use Rattle.protocol.specs.Request.{Asked, Posted, Shown, Wanted}
use Rattle.protocol.specs.Answers.{Code, ErrorPage, SignedIn, RedirectTo, YesNo, Failure, ProxyFailure, InvalidRequest, InvalidTicket, InvalidService, BadPgt, UnauthorizedService, InternalError}
use Rattle.protocol.specs.Steps.{Brought, Step, step, put, remove, end_session, slot_named, session_of, ticket_slot, slot_for, room_for, new_rec, new_login, new_session, new_waiting, new_proxy, add, success_of, form_with, form_step, ticket_step, unknown_service, way_of, signed_on, taken, admitted, needs, keep_session, session_with, open_session, standing_of, admits, accepted, admission_of, entered, credentials, is_plain, takes_proxies, failed, proxy_parent, ruling_of, turned, left_by, grants, waiting_with, grant_or_tell, accept_ticket, ruled, presented, waiting_slot, finished, finish_at, finish, proxy_with, proxy_by, without_session}
use Rattle.protocol.specs.declared.Validator.{Validator}
use Rattle.protocol.specs.declared.Way.{Way}
use Rattle.protocol.specs.declared.Standing.{Standing}
use Rattle.protocol.specs.declared.Admission.{Admission}
use Rattle.protocol.specs.declared.Ruling.{Ruling}
use Rattle.protocol.proofs.Laws.{both, or_both, fork}
use Rattle.protocol.proofs.Added.{Room, room_one}
use Rattle.protocol.proofs.Searches.{Live, slot_live, waiting_live, Ticket, ticket_live, nonzero, room_less, room_after}

-- login

-- the form: with a new login ticket, or there is no room
pub data FormCourse (status : ℕ) (service random : List ℕ) (t : Table) : Step → Type 0 where
  shows : Room t → count_kind a_login t.slots < login_cap → FormCourse status service random t (form_with (new_login random t) status service t)
  no_form : FormCourse status service random t (step t (ErrorPage 503))

pub form_course : (status : ℕ) (service random : List ℕ) (t : Table) → FormCourse status service random t (form_step status service random t)
unfolding form_step
form_course status service random t =
    fork (FormCourse status service random t) (room_for 1 t && ltb (count_kind a_login t.slots) login_cap)
    (λ e. let p = both (room_for 1 t) (ltb (count_kind a_login t.slots) login_cap) e in shows (room_one t p.0) (ltb-true (count_kind a_login t.slots) login_cap p.1))
    (λ e. no_form)

-- signed in under the session in slot s: the page, or with service a ticket, for which there is room
pub data AdmitCourse (mark s : ℕ) (service random cookie : List ℕ) (t : Table) : Step → Type 0 where
  signed_in_lem : is_empty service ≡ true → AdmitCourse mark s service random cookie t (record { table = t; reply = SignedIn; cookie = cookie; cleared = false })
  tickets : is_empty service ≡ false → Room t → AdmitCourse mark s service random cookie t (ticket_step mark s service random cookie t)

-- the same under a session that stands, where there may be no room
pub data StandCourse (mark s : ℕ) (service random : List ℕ) (t : Table) : Step → Type 0 where
  stands : {x : Step} → AdmitCourse mark s service random [] t x → StandCourse mark s service random t x
  no_ticket : StandCourse mark s service random t (step t (ErrorPage 503))

signed_course : (s : ℕ) (service random : List ℕ) (t : Table) → StandCourse 0 s service random t (signed_on s service random t)
unfolding signed_on
signed_course s service random t =
    fork (StandCourse 0 s service random t) (is_empty service) (λ e. stands (signed_in_lem e))
    (λ e. fork (StandCourse 0 s service random t) (room_for 1 t) (λ r. stands (tickets e (room_one t r))) (λ r. no_ticket))

-- room for a ticket, where there is a service
admitted_course : (s : ℕ) (service random cookie : List ℕ) (t : Table) → (is_empty service ≡ false → Room t) → AdmitCourse 1 s service random cookie t (admitted s service random cookie t)
unfolding admitted
admitted_course s service random cookie t m = fork (AdmitCourse 1 s service random cookie t) (is_empty service) signed_in_lem (λ e. tickets e (m e))

ticket_room : (z : Bool) (t : Table) → room_for (0 + if z 0 1) t ≡ true → z ≡ false → Room t
ticket_room true t r n = absurd (let z : ◌≡◌ {A = ℕ} 0 1 = cc in omega arith)
ticket_room false t r n = room_one t r

keep_course : (s : ℕ) (service random : List ℕ) (t : Table) → StandCourse 1 s service random t (keep_session s service random t)
unfolding keep_session needs
keep_course s service random t =
    fork (StandCourse 1 s service random t) (room_for (0 + if (is_empty service) 0 1) t)
    (λ r. stands (admitted_course s service random [] t (ticket_room (is_empty service) t r))) (λ r. no_ticket)

-- signed in under a new session, or there is no room
pub data OpenCourse (ended : Bool) (user service random : List ℕ) (t : Table) : Step → Type 0 where
  opens : {x : Step} → Room t → AdmitCourse 1 (slot_for t) service random (name_of (new_session user random t)) (add (new_session user random t) t) x → OpenCourse ended user service random t x
  no_session : OpenCourse ended user service random t (record { table = t; reply = ErrorPage 503; cookie = []; cleared = ended })

module _ (user random : List ℕ) (t : Table) where
  session_room : (z : Bool) → room_for (1 + if z 0 1) t ≡ true → Room t
  session_room true r = room_one t r
  session_room false r = room_one t (room_less t r)

  not_free : (new_session user random t).kind ≡ 0 → ⊥
  unfolding new_rec
  not_free e = omega arith

  room_then : (z : Bool) → room_for (1 + if z 0 1) t ≡ true → z ≡ false → Room (add (new_session user random t) t)
  room_then true r n = absurd (let z : ◌≡◌ {A = ℕ} 0 1 = cc in omega arith)
  room_then false r n = room_one (add (new_session user random t) t) (room_after (new_session user random t) t not_free (session_room false r) r)

  open_course : (ended : Bool) (service : List ℕ) → OpenCourse ended user service random t (open_session ended user service random t)
  unfolding open_session session_with needs
  open_course ended service =
      fork (OpenCourse ended user service random t) (room_for (1 + if (is_empty service) 0 1) t)
      (λ r. opens (session_room (is_empty service) r) (admitted_course (slot_for t) service random (name_of (new_session user random t)) (add (new_session user random t) t) (room_then (is_empty service) r)))
      (λ r. no_session)

-- login, GET
pub data GetCourse (a : Asked) (g : Brought) (t : Table) : Step → Type 0 where
  unknown : unknown_service a.service g.register ≡ true → GetCourse a g t (step t (ErrorPage 403))
  standing_by : {x : Step} → a.renew ≡ false → Live a_session t (session_of g.cookie t) → StandCourse 0 (session_of g.cookie t) a.service g.random t x → GetCourse a g t x
  away : a.renew ≡ false → a.gateway ≡ true → is_empty a.service ≡ false → GetCourse a g t (step t (RedirectTo a.service []))
  form_shown : {x : Step} → FormCourse 200 a.service g.random t x → GetCourse a g t x

pub get_course : (a : Asked) (g : Brought) (t : Table) → GetCourse a g t (taken (way_of (unknown_service a.service g.register) a g.cookie t) a.service g.random t)
unfolding way_of taken
get_course a g t =
    fork Goes (unknown_service a.service g.register) unknown
    (λ e. fork Goes (not a.renew && ltb 0 s)
    (λ n. let p = both (not a.renew) (ltb 0 s) n in
    standing_by (not-true a.renew p.0) (slot_live a_session g.cookie t (ltb-true 0 s p.1)) (signed_course s a.service g.random t))
    (λ n. fork Goes (a.gateway && not a.renew && not (is_empty a.service))
    (λ w. let p = both (a.gateway && not a.renew) (not (is_empty a.service)) w in
    let q = both a.gateway (not a.renew) p.0 in
    away (not-true a.renew q.1) q.0 (not-true (is_empty a.service) p.1))
    (λ w. form_shown (form_course 200 a.service g.random t))))
  where
    s : ℕ
    s = session_of g.cookie t

    Goes : Way → Type 0
    Goes w = GetCourse a g t (taken w a.service g.random t)

-- accepted credentials of a user, by the session in slot s, 0 for none
pub data AcceptedCourse (s : ℕ) (user service random : List ℕ) (t : Table) : Step → Type 0 where
  fresh : {x : Step} → s ≡ 0 → OpenCourse false user service random t x → AcceptedCourse s user service random t x
  kept : {x : Step} → 1 ≤ s → same (rec_at s t.slots).text user ≡ true → StandCourse 1 s service random t x → AcceptedCourse s user service random t x
  changed : {x : Step} → 1 ≤ s → same (rec_at s t.slots).text user ≡ false → OpenCourse true user service random (end_session s t) x → AcceptedCourse s user service random t x

pub accepted_course : (s : ℕ) (user service random : List ℕ) (t : Table) → AcceptedCourse s user service random t (accepted s user service random t)
unfolding accepted standing_of admits
accepted_course s user service random t =
    fork Goes (eqb s 0) (λ e. fresh (eqb-true s 0 e) (open_course user random t false service))
    (λ e. fork Goes (same (rec_at s t.slots).text user) (λ w. kept (nonzero s (eqb-false s 0 e)) w (keep_course s service random t))
    (λ w. changed (nonzero s (eqb-false s 0 e)) w (open_course user random (end_session s t) true service)))
  where
    Goes : Standing → Type 0
    Goes w = AcceptedCourse s user service random t (admits w user service random t)

-- a live login ticket was in slot k, username and password are there, and the host says yes
pub record Credited (k : ℕ) (p : Posted) (g : Brought) : Type 0 where
  pub login : 1 ≤ k
  pub username : is_empty p.username ≡ false
  pub password : is_empty p.password ≡ false
  pub verdict : g.verdict ≡ true

-- login, POST, once the login ticket is removed: the service is unknown; or the credentials are not accepted; or they are
pub data PostCourse (k : ℕ) (p : Posted) (g : Brought) (t : Table) : Step → Type 0 where
  unknown : unknown_service p.service g.register ≡ true → PostCourse k p g t (step t (ErrorPage 403))
  again : {x : Step} → (Credited k p g → ⊥) → FormCourse 401 p.service g.random t x → PostCourse k p g t x
  enters : {x : Step} → unknown_service p.service g.register ≡ false → Credited k p g → AcceptedCourse (session_of g.cookie t) p.username p.service g.random t x → PostCourse k p g t x

no_credit : (z u w v : Bool) → z || (u || w) || not v ≡ true → z ≡ false → u ≡ false → w ≡ false → v ≡ true → ⊥
no_credit z u w v e a b c d = let y : false ≡ true = rw (a, b, c, d) at e in (let x : ◌≡◌ {A = ℕ} 0 1 = cc in omega arith)

pub post_course : (k : ℕ) (p : Posted) (g : Brought) (t : Table) → PostCourse k p g t (credentials k p g t)
unfolding credentials admission_of entered
post_course k p g t =
    fork Goes (unknown_service p.service g.register) unknown
    (λ e. fork Goes (eqb k 0 || (is_empty p.username || is_empty p.password) || not g.verdict)
    (λ n. again (λ c. no_credit (eqb k 0) (is_empty p.username) (is_empty p.password) g.verdict n (ne_eqb k 0 (some c.login)) c.username c.password c.verdict) (form_course 401 p.service g.random t))
    (λ n. let a = or_both (eqb k 0 || (is_empty p.username || is_empty p.password)) (not g.verdict) n in
    let b = or_both (eqb k 0) (is_empty p.username || is_empty p.password) a.0 in
    let c = or_both (is_empty p.username) (is_empty p.password) b.1 in
    enters e (record { login = nonzero k (eqb-false k 0 b.0); username = c.0; password = c.1; verdict = not-false g.verdict a.1 })
    (accepted_course (session_of g.cookie t) p.username p.service g.random t)))
  where
    some : 1 ≤ k → k ≡ 0 → ⊥
    some l z = omega arith

    Goes : Admission → Type 0
    Goes w = PostCourse k p g t (entered w p.username p.service g t)

-- validators

-- a grant is made
pub record Granted (parent : ℕ) (a : Shown) (g : Brought) (t : Table) : Type 0 where
  pub url : is_empty a.pgt_url ≡ false
  pub callback : same a.pgt_url (callback_of a.service g.register) ≡ true
  pub depth : (rec_at parent t.slots).depth + 1 ≤ deepest
  pub room : Room t

-- (6) a ticket accepted: yes, a callback, or success
pub data AcceptCourse (v : Validator) (session parent mark : ℕ) (a : Shown) (g : Brought) (t : Table) : Step → Type 0 where
  plainly : is_plain v ≡ true → AcceptCourse v session parent mark a g t (step t (YesNo true))
  calls : is_plain v ≡ false → Granted parent a g t → AcceptCourse v session parent mark a g t (waiting_with (new_waiting mark parent session a.pgt_url g.random t) t)
  tells : is_plain v ≡ false → AcceptCourse v session parent mark a g t (step t (success_of session mark [] parent t.slots))

accept_course : (v : Validator) (session parent mark : ℕ) (a : Shown) (g : Brought) (t : Table) → AcceptCourse v session parent mark a g t (accept_ticket v session parent mark a.service a.pgt_url g t)
unfolding accept_ticket grant_or_tell grants
accept_course v session parent mark a g t =
    fork Goes (is_plain v) plainly
    (λ n. fork Goes (not (is_empty a.pgt_url) && same a.pgt_url (callback_of a.service g.register) && leb ((rec_at parent t.slots).depth + 1) deepest && room_for 1 t)
    (λ e. let x = both (not (is_empty a.pgt_url) && same a.pgt_url (callback_of a.service g.register) && leb ((rec_at parent t.slots).depth + 1) deepest) (room_for 1 t) e in
    let y = both (not (is_empty a.pgt_url) && same a.pgt_url (callback_of a.service g.register)) (leb ((rec_at parent t.slots).depth + 1) deepest) x.0 in
    let z = both (not (is_empty a.pgt_url)) (same a.pgt_url (callback_of a.service g.register)) y.0 in
    calls n (record { url = not-true (is_empty a.pgt_url) z.0; callback = z.1; depth = leb-true ((rec_at parent t.slots).depth + 1) deepest y.1; room = room_one t x.1 }))
    (λ e. tells n))
  where
    Goes : Step → Type 0
    Goes x = AcceptCourse v session parent mark a g t x

-- what (3) to (5) ask of a ticket
pub record Rightly (v : Validator) (a : Shown) (r : Rec) : Type 0 where
  pub in_place : eqb r.kind a_proxy && not (takes_proxies v) ≡ false
  pub signed : a.renew && eqb r.mark 0 ≡ false
  pub service : same r.text a.service ≡ true

-- the ticket r of slot k is removed, or accepted
pub data RuledCourse (v : Validator) (k : ℕ) (r : Rec) (a : Shown) (g : Brought) (t : Table) : Step → Type 0 where
  burns : (code : Code) → RuledCourse v k r a g t (step t (failed v code))
  accepts : {x : Step} → Rightly v a r → AcceptCourse v r.session (proxy_parent r) r.mark a g (left_by k r t) x → RuledCourse v k r a g t x

pub ruled_course : (v : Validator) (k : ℕ) (r : Rec) (a : Shown) (g : Brought) (t : Table) → RuledCourse v k r a g t (ruled (ruling_of v a.renew a.service r) v k r a.service a.pgt_url g t)
unfolding ruling_of ruled
ruled_course v k r a g t =
    fork Goes (eqb r.kind a_proxy && not (takes_proxies v)) (λ e. burns InvalidTicket)
    (λ e. fork Goes (a.renew && eqb r.mark 0) (λ n. burns InvalidTicket)
    (λ n. fork Goes (same r.text a.service)
    (λ s. accepts (record { in_place = e; signed = n; service = s }) (accept_course v r.session (proxy_parent r) r.mark a g (left_by k r t))) (λ s. burns InvalidService)))
  where
    Goes : Ruling → Type 0
    Goes w = RuledCourse v k r a g t (ruled w v k r a.service a.pgt_url g t)

-- (1) and (2): service or ticket is absent, or there is no such ticket, and nothing is spent; or it is
pub data ShownCourse (v : Validator) (a : Shown) (g : Brought) (t : Table) : Step → Type 0 where
  lacks : is_empty a.service || is_empty a.ticket ≡ true → ShownCourse v a g t (step t (failed v InvalidRequest))
  none : is_empty a.service || is_empty a.ticket ≡ false → ticket_slot a.ticket t ≡ 0 → ShownCourse v a g t (step t (failed v InvalidTicket))
  spends : {x : Step} → is_empty a.service || is_empty a.ticket ≡ false → Ticket t (ticket_slot a.ticket t)
      → RuledCourse v (ticket_slot a.ticket t) (rec_at (ticket_slot a.ticket t) t.slots) a g (remove (ticket_slot a.ticket t) t) x → ShownCourse v a g t x

pub shown_course : (v : Validator) (a : Shown) (g : Brought) (t : Table)
    → ShownCourse v a g t (if (is_empty a.service || is_empty a.ticket) (step t (failed v InvalidRequest)) (presented v (ticket_slot a.ticket t) a.renew a.service a.pgt_url g t))
unfolding presented
shown_course v a g t =
    fork (ShownCourse v a g t) (is_empty a.service || is_empty a.ticket) lacks
    (λ e. fork (ShownCourse v a g t) (eqb k 0) (λ n. none e (eqb-true k 0 n))
    (λ n. spends e (ticket_live a.ticket t (nonzero k (eqb-false k 0 n))) (ruled_course v k (rec_at k t.slots) a g (remove k t))))
  where
    k : ℕ
    k = ticket_slot a.ticket t

-- finish
pub data FinishCourse (serial : ℕ) (outcome : Bool) (t : Table) : Step → Type 0 where
  none : waiting_slot serial t ≡ 0 → FinishCourse serial outcome t (step t (Failure InvalidTicket))
  raises : outcome ≡ true → Live a_waiting t (waiting_slot serial t)
      → FinishCourse serial outcome t (finished (rec_at (waiting_slot serial t) t.slots) (iou_text (rec_at (waiting_slot serial t) t.slots).iou) t (put (waiting_slot serial t) (turned a_grant (rec_at (waiting_slot serial t) t.slots) t.slots) t))
  drops : outcome ≡ false → Live a_waiting t (waiting_slot serial t)
      → FinishCourse serial outcome t (finished (rec_at (waiting_slot serial t) t.slots) [] t (remove (waiting_slot serial t) t))

pub finish_course : (serial : ℕ) (outcome : Bool) (t : Table) → FinishCourse serial outcome t (finish serial outcome t)
unfolding finish finish_at
finish_course serial outcome t =
    fork (FinishCourse serial outcome t) (eqb (waiting_slot serial t) 0) (λ e. none (eqb-true (waiting_slot serial t) 0 e))
    (λ n. let l = waiting_live serial t (nonzero (waiting_slot serial t) (eqb-false (waiting_slot serial t) 0 n)) in
    fork (FinishCourse serial outcome t) outcome (λ e. raises e l) (λ e. drops e l))

-- proxy
pub data ProxyCourse (a : Wanted) (g : Brought) (t : Table) : Step → Type 0 where
  fails : (code : Code) → ProxyCourse a g t (step t (ProxyFailure code))
  issues : is_empty a.target ≡ false → Live a_grant t (slot_named a_grant a.pgt t) → Room t
      → ProxyCourse a g t (proxy_with (new_proxy (slot_named a_grant a.pgt t) a.target g.random t) t)

pub proxy_course : (a : Wanted) (g : Brought) (t : Table)
    → ProxyCourse a g t (if (is_empty a.pgt || is_empty a.target) (step t (ProxyFailure InvalidRequest)) (proxy_by (slot_named a_grant a.pgt t) a.target g t))
unfolding proxy_by
proxy_course a g t =
    fork (ProxyCourse a g t) (is_empty a.pgt || is_empty a.target) (λ e. fails InvalidRequest)
    (λ e. fork (ProxyCourse a g t) (eqb k 0) (λ n. fails BadPgt)
    (λ n. fork (ProxyCourse a g t) (registered a.target g.register)
    (λ w. fork (ProxyCourse a g t) (room_for 1 t)
    (λ r. issues (or_both (is_empty a.pgt) (is_empty a.target) e).1 (slot_live a_grant a.pgt t (nonzero k (eqb-false k 0 n))) (room_one t r)) (λ r. fails InternalError))
    (λ w. fails UnauthorizedService)))
  where
    k : ℕ
    k = slot_named a_grant a.pgt t

-- logout: the cookie's session ends, where there is one
pub data LeaveCourse (cookie : List ℕ) (t : Table) : Table → Type 0 where
  stays : session_of cookie t ≡ 0 → LeaveCourse cookie t t
  ends : Live a_session t (session_of cookie t) → LeaveCourse cookie t (end_session (session_of cookie t) t)

pub leave_course : (cookie : List ℕ) (t : Table) → LeaveCourse cookie t (without_session cookie t)
unfolding without_session
leave_course cookie t =
    fork (LeaveCourse cookie t) (eqb (session_of cookie t) 0) (λ e. stays (eqb-true (session_of cookie t) 0 e))
    (λ n. ends (slot_live a_session cookie t (nonzero (session_of cookie t) (eqb-false (session_of cookie t) 0 n))))
