-- The steps: what each path does to the table, and what it answers.
use Rattle.std.specs.Prelude.{Bool, true, false, ◌&&◌, ◌||◌, not, List, [], ◌∷◌, map, ℕ, zero, suc, ◌+◌, ◌%◌, ◌^◌, min, max, eqb, leb, ltb}
use Rattle.protocol.specs.Bytes.{if, is_empty, same, zeros, pad_to}
use Rattle.protocol.specs.Tickets.{a_free, a_login, a_session, a_service, a_proxy, a_waiting, a_grant, a_visit, deepest, lifetime, secret_from, iou_from, since_from, iou_text}
use Rattle.protocol.specs.Records.{Rec, free_rec, name_of, live}
use Rattle.protocol.specs.Table.{Table, table_of, rec_at, put_at, slot_where, count_kind, login_cap}
use Rattle.protocol.specs.Register.{Entry, registered, callback_of}
use Rattle.protocol.specs.Request.{Read, Malformed, Given, Asked, Posted, Shown, Wanted, Request, NoPath, NotTaken, LoginGet, LoginPost, Logout, Validate, Proxy}
use Rattle.protocol.specs.Answers.{Code, InvalidRequest, InvalidTicket, InvalidService, BadPgt, UnauthorizedService, InternalError, Reply, ErrorPage, SignedIn, SignedOut, FormPage, RedirectTo, YesNo, Success, Failure, ProxySuccess, ProxyFailure, CallbackTo}
use Rattle.protocol.specs.declared.Validator.{Validator}
use Rattle.protocol.specs.declared.Validator.TheVariants as validator
use Rattle.protocol.specs.declared.Way.{Way}
use Rattle.protocol.specs.declared.Way.TheVariants as way
use Rattle.protocol.specs.declared.Admission.{Admission}
use Rattle.protocol.specs.declared.Admission.TheVariants as admission
use Rattle.protocol.specs.declared.Standing.{Standing}
use Rattle.protocol.specs.declared.Standing.TheVariants as standing
use Rattle.protocol.specs.declared.Ruling.{Ruling}
use Rattle.protocol.specs.declared.Ruling.TheVariants as ruling

-- what a request brings besides its parameters
pub record Brought : Type 0 where
  pub register : List Entry
  pub cookie : List ℕ
  pub random : List ℕ
  pub verdict : Bool

-- a step's outcome: the table after it, the answer, the cookie to be written (empty: none), and whether the cookie is cleared
pub record Step : Type 0 where
  pub table : Table
  pub reply : Reply
  pub cookie : List ℕ
  pub cleared : Bool

abbrev pub step : Table → Reply → Step
step t reply = record { table = t; reply = reply; cookie = []; cleared = false }

-- The table

-- every answered call first sets T to the larger of T and the time; what is dead by then stays in its slot
unfoldable pub tick : ℕ → Table → Table
tick time t = table_of (max t.clock time) t.next t.slots

-- housekeeping frees each record whose expiry is at most T
abbrev pub clear_rec : ℕ → Rec → Rec
clear_rec clock r = if (live clock r) r free_rec

unfoldable pub clear : Table → Table
clear t = table_of t.clock t.next (map (clear_rec t.clock) t.slots)

abbrev pub housekept : ℕ → Table → Table
housekept time t = clear (tick time t)

-- a record is taken out of its slot, or put into one
abbrev pub put : ℕ → Rec → Table → Table
put k r t = table_of t.clock t.next (put_at k r t.slots)

abbrev pub remove : ℕ → Table → Table
remove k t = put k free_rec t

-- a session ends: it and all records naming it are cleared
abbrev pub end_rec : ℕ → Rec → Rec
end_rec s r = if (eqb r.session s) free_rec r

unfoldable pub end_session : ℕ → Table → Table
end_session s t = remove s (table_of t.clock t.next (map (end_rec s) t.slots))

-- the slot of the live record of a kind with this whole text, or 0
unfoldable pub is_named : ℕ → ℕ → List ℕ → Rec → Bool
is_named clock kind text r = eqb r.kind kind && live clock r && same (name_of r) text

unfoldable pub slot_named : ℕ → List ℕ → Table → ℕ
slot_named kind text t = slot_where (is_named t.clock kind text) t.slots

-- the slot of the session that a cookie names, or 0
abbrev pub session_of : List ℕ → Table → ℕ
session_of cookie t = slot_named a_session cookie t

-- the slot of the service or proxy ticket with this text, or 0
unfoldable pub ticket_slot : List ℕ → Table → ℕ
ticket_slot text t =
    slot_where (λ (r : Rec). is_named t.clock a_service text r || is_named t.clock a_proxy text r) t.slots

-- a new record takes the lowest free slot
unfoldable pub slot_for : Table → ℕ
slot_for t = slot_where (λ (r : Rec). eqb r.kind a_free) t.slots

-- there are slots and serials for n new records
unfoldable pub room_for : ℕ → Table → Bool
room_for n t = leb n (count_kind a_free t.slots) && (eqb n 0 || (leb 1 t.next && leb (t.next + n) (2 ^ 32)))

-- no ticket outlives its session
unfoldable pub expiry_for : ℕ → ℕ → Table → ℕ
expiry_for kind session t =
    if (eqb session 0) (t.clock + lifetime kind) (min (t.clock + lifetime kind) (rec_at session t.slots).expiry)

-- a new record
unfoldable pub new_rec : ℕ → ℕ → ℕ → ℕ → ℕ → List ℕ → List ℕ → Table → Rec
new_rec kind mark parent session depth text random t =
    record {
      kind = kind;
      mark = mark;
      parent = parent;
      session = session;
      depth = depth;
      serial = t.next;
      expiry = expiry_for kind session t;
      secret = pad_to 16 (secret_from kind random);
      text = text;
      iou = iou_from kind random;
      since = since_from kind t.clock;
    }

-- of each kind that a request makes
abbrev pub new_login : List ℕ → Table → Rec
new_login random t = new_rec a_login 0 0 0 0 [] random t

abbrev pub new_session : List ℕ → List ℕ → Table → Rec
new_session user random t = new_rec a_session 0 0 0 0 user random t

-- its session is its parent
abbrev pub new_service : ℕ → ℕ → List ℕ → List ℕ → Table → Rec
new_service mark s service random t = new_rec a_service mark s s 0 service random t

-- one deeper than its parent grant, or at depth 1 without one
abbrev pub new_waiting : ℕ → ℕ → ℕ → List ℕ → List ℕ → Table → Rec
new_waiting mark parent session url random t = new_rec a_waiting mark parent session ((rec_at parent t.slots).depth + 1) url random t

-- of its grant's session
abbrev pub new_proxy : ℕ → List ℕ → List ℕ → Table → Rec
new_proxy k target random t = new_rec a_proxy 0 k (rec_at k t.slots).session 0 target random t

-- it is added, and the serials rise by one, to 0 when all are used
unfoldable pub add : Rec → Table → Table
add r t = table_of t.clock ((t.next + 1) % 2 ^ 32) (put_at (slot_for t) r t.slots)

-- the callbacks of a grant and its parents, newest first, depth falling by one
unfoldable pub chain_from : ℕ → ℕ → List Rec → List (List ℕ)
chain_from zero k slots = []
chain_from (suc d) k slots = (rec_at k slots).text ∷ chain_from d (rec_at k slots).parent slots

unfoldable pub chain_of : ℕ → List Rec → List (List ℕ)
chain_of k slots = chain_from (rec_at k slots).depth k slots

-- success for a session's user by a ticket's mark, with an IOU or without, and the callbacks from a grant on
abbrev pub success_of : ℕ → ℕ → List ℕ → ℕ → List Rec → Reply
success_of session mark iou parent slots = Success (rec_at session slots).text (rec_at session slots).since mark iou (chain_of parent slots)

-- login

-- the form with a new login ticket, or 503
unfoldable pub form_with : Rec → ℕ → List ℕ → Table → Step
form_with r status service t = step (add r t) (FormPage status (name_of r) service)

unfoldable pub form_step : ℕ → List ℕ → List ℕ → Table → Step
form_step status service random t =
    if (room_for 1 t && ltb (count_kind a_login t.slots) login_cap)
    (form_with (new_login random t) status service t)
    (step t (ErrorPage 503))

-- a redirect to the service with a new ticket of a mark for a session; the cookie is the one to be written
unfoldable pub ticket_with : Rec → List ℕ → List ℕ → Table → Step
ticket_with r service cookie t =
    record { table = add r t; reply = RedirectTo service (name_of r); cookie = cookie; cleared = false }

unfoldable pub ticket_step : ℕ → ℕ → List ℕ → List ℕ → List ℕ → Table → Step
ticket_step mark s service random cookie t = ticket_with (new_service mark s service random t) service cookie t

-- a service that is given and not in the register
unfoldable pub unknown_service : List ℕ → List Entry → Bool
unknown_service service register = not (is_empty service) && not (registered service register)

-- login, GET: which way it goes, the service being unknown or not. Gateway does not count with renew or without service
unfoldable pub way_of : Bool → Asked → List ℕ → Table → Way
way_of unknown a cookie t =
    if unknown way.Unknown
    (if (not a.renew && ltb 0 (session_of cookie t)) (way.SignedOn (session_of cookie t))
    (if (a.gateway && not a.renew && not (is_empty a.service)) way.Away
    way.Form))

-- a live session and no renew: without service the page, else a ticket of mark 0
unfoldable pub signed_on : ℕ → List ℕ → List ℕ → Table → Step
signed_on s service random t =
    if (is_empty service)
    (step t SignedIn)
    (if (room_for 1 t)
    (ticket_step 0 s service random [] t)
    (step t (ErrorPage 503)))

-- and what is done on each way
unfoldable pub taken : Way → List ℕ → List ℕ → Table → Step
taken way.Unknown service random t = step t (ErrorPage 403)
taken (way.SignedOn s) service random t = signed_on s service random t
taken way.Away service random t = step t (RedirectTo service [])
taken way.Form service random t = form_step 200 service random t

unfoldable pub login_get : Read Asked → Brought → Table → Step
login_get Malformed g t = step t (ErrorPage 400)
login_get (Given a) g t = taken (way_of (unknown_service a.service g.register) a g.cookie t) a.service g.random t

-- signed in under a session: with service a ticket of mark 1 and a redirect, else the page
unfoldable pub admitted : ℕ → List ℕ → List ℕ → List ℕ → Table → Step
admitted s service random cookie t =
    if (is_empty service)
    (record { table = t; reply = SignedIn; cookie = cookie; cleared = false })
    (ticket_step 1 s service random cookie t)

-- how many records the call would issue: a session where none is kept, a ticket with service
unfoldable pub needs : Bool → List ℕ → ℕ
needs keeps service = if keeps 0 1 + if (is_empty service) 0 1

-- a session that is kept: all that the call would issue, or 503
unfoldable pub keep_session : ℕ → List ℕ → List ℕ → Table → Step
keep_session s service random t =
    if (room_for (needs true service) t) (admitted s service random [] t) (step t (ErrorPage 503))

-- a new session takes its slot and serial first
unfoldable pub session_with : Rec → List ℕ → List ℕ → Table → Step
session_with r service random t = admitted (slot_for t) service random (name_of r) (add r t)

-- none is kept, and the cookie's has ended or there was none: all that the call would issue, or 503, which clears the cookie of one that has ended
unfoldable pub open_session : Bool → List ℕ → List ℕ → List ℕ → Table → Step
open_session ended user service random t =
    if (room_for (needs false service) t)
    (session_with (new_session user random t) service random t)
    (record { table = t; reply = ErrorPage 503; cookie = []; cleared = ended })

-- whose session stands in slot s, 0 for none
unfoldable pub standing_of : ℕ → List ℕ → Table → Standing
standing_of s user t =
    if (eqb s 0) standing.Absent
    (if (same (rec_at s t.slots).text user) (standing.Kept s)
    (standing.Other s))

-- accepted: the cookie's live session is kept if of the same user, else ended
unfoldable pub admits : Standing → List ℕ → List ℕ → List ℕ → Table → Step
admits standing.Absent user service random t = open_session false user service random t
admits (standing.Kept s) user service random t = keep_session s service random t
admits (standing.Other s) user service random t = open_session true user service random (end_session s t)

unfoldable pub accepted : ℕ → List ℕ → List ℕ → List ℕ → Table → Step
accepted s user service random t = admits (standing_of s user t) user service random t

-- login, POST: what becomes of the credentials; the login ticket was in slot k (0: it was not live), and username or password may be absent
unfoldable pub admission_of : Bool → ℕ → Bool → Bool → Admission
admission_of unknown k absent verdict =
    if unknown admission.Unknown
    (if (eqb k 0 || absent || not verdict) admission.Again
    admission.Accepted)

-- and what is done
unfoldable pub entered : Admission → List ℕ → List ℕ → Brought → Table → Step
entered admission.Unknown user service g t = step t (ErrorPage 403)
entered admission.Again user service g t = form_step 401 service g.random t
entered admission.Accepted user service g t = accepted (session_of g.cookie t) user service g.random t

-- once the login ticket in slot k is removed
unfoldable pub credentials : ℕ → Posted → Brought → Table → Step
credentials k p g t =
    entered
    (admission_of (unknown_service p.service g.register) k (is_empty p.username || is_empty p.password) g.verdict)
    p.username
    p.service
    g
    t

unfoldable pub login_post : Read Posted → Brought → Table → Step
login_post Malformed g t = step t (ErrorPage 400)
login_post (Given p) g t = credentials (slot_named a_login p.lt t) p g (remove (slot_named a_login p.lt t) t)

-- validators

-- validate answers in plain words
abbrev pub is_plain : Validator → Bool
is_plain validator.Plain = true
is_plain validator.Service = false
is_plain validator.Proxy = false

-- only proxyValidate takes proxy tickets
abbrev pub takes_proxies : Validator → Bool
takes_proxies validator.Plain = false
takes_proxies validator.Service = false
takes_proxies validator.Proxy = true

-- a failure as a validator says it: `no` for validate, XML for the others
abbrev pub failed : Validator → Code → Reply
failed v code = if (is_plain v) (YesNo false) (Failure code)

-- where the proxy list of a ticket starts: a proxy ticket's parent; a service ticket has none
abbrev pub proxy_parent : Rec → ℕ
proxy_parent r = if (eqb r.kind a_proxy) r.parent 0

-- (3) to (5): a proxy ticket outside proxyValidate, renew without the mark, another service; else accepted
unfoldable pub ruling_of : Validator → Bool → List ℕ → Rec → Ruling
ruling_of v renew service r =
    if (eqb r.kind a_proxy && not (takes_proxies v)) ruling.NoTicket
    (if (renew && eqb r.mark 0) ruling.NoTicket
    (if (same r.text service) (ruling.Accepted r.session (proxy_parent r) r.mark)
    ruling.NoService))

-- a record changes its kind in place: its mark and IOU secret are cleared, and it lasts as long as its session
unfoldable pub turned : ℕ → Rec → List Rec → Rec
turned kind r slots =
    record {
      kind = kind;
      mark = 0;
      parent = r.parent;
      session = r.session;
      depth = r.depth;
      serial = r.serial;
      expiry = (rec_at r.session slots).expiry;
      secret = r.secret;
      text = r.text;
      iou = zeros 16;
      since = r.since;
    }

-- what an accepted ticket leaves in its slot k, which is free in t: a service ticket its visit, a proxy ticket nothing
unfoldable pub left_by : ℕ → Rec → Table → Table
left_by k r t = if (eqb r.kind a_service) (put k (turned a_visit r t.slots) t) t

-- a grant is made below a parent where the url is the nonempty callback of the service, the new depth is at most 4, and a slot and a serial are left
unfoldable pub grants : ℕ → List ℕ → List ℕ → Brought → Table → Bool
grants parent service url g t =
    not (is_empty url)
    && same url (callback_of service g.register)
    && leb ((rec_at parent t.slots).depth + 1) deepest
    && room_for 1 t

-- a waiting grant and its callback
unfoldable pub waiting_with : Rec → Table → Step
waiting_with w t = step (add w t) (CallbackTo w.text (name_of w) (iou_text w.iou) w.serial)

-- a waiting grant with its ticket's mark, or success without grant
unfoldable pub grant_or_tell : ℕ → ℕ → ℕ → List ℕ → List ℕ → Brought → Table → Step
grant_or_tell session parent mark service url g t =
    if (grants parent service url g t)
    (waiting_with (new_waiting mark parent session url g.random t) t)
    (step t (success_of session mark [] parent t.slots))

-- (6) a ticket of a session, with a parent for its proxies and a mark, is accepted; t is the table with what it left
unfoldable pub accept_ticket : Validator → ℕ → ℕ → ℕ → List ℕ → List ℕ → Brought → Table → Step
accept_ticket v session parent mark service url g t = if (is_plain v) (step t (YesNo true)) (grant_or_tell session parent mark service url g t)

-- by the ruling; the ticket r has been removed from slot k, whatever is said of it
unfoldable pub ruled : Ruling → Validator → ℕ → Rec → List ℕ → List ℕ → Brought → Table → Step
ruled ruling.NoTicket v k r service url g t = step t (failed v InvalidTicket)
ruled ruling.NoService v k r service url g t = step t (failed v InvalidService)
ruled (ruling.Accepted session parent mark) v k r service url g t = accept_ticket v session parent mark service url g (left_by k r t)

-- (2) a live service or proxy ticket in slot k, or none
unfoldable pub presented : Validator → ℕ → Bool → List ℕ → List ℕ → Brought → Table → Step
presented v k renew service url g t =
    if (eqb k 0)
    (step t (failed v InvalidTicket))
    (ruled (ruling_of v renew service (rec_at k t.slots)) v k (rec_at k t.slots) service url g (remove k t))

-- (1) malformed, service or ticket absent: nothing is spent
unfoldable pub validate : Validator → Read Shown → Brought → Table → Step
validate v Malformed g t = step t (failed v InvalidRequest)
validate v (Given a) g t =
    if (is_empty a.service || is_empty a.ticket)
    (step t (failed v InvalidRequest))
    (presented v (ticket_slot a.ticket t) a.renew a.service a.pgt_url g t)

-- finish

-- the slot of the live waiting grant of a serial, or 0
unfoldable pub waiting_slot : ℕ → Table → ℕ
waiting_slot serial t = slot_where (λ (r : Rec). eqb r.kind a_waiting && live t.clock r && eqb r.serial serial) t.slots

-- success as finish tells it of the grant r, with an IOU or without
unfoldable pub finished : Rec → List ℕ → Table → Table → Step
finished r iou old t = step t (success_of r.session r.mark iou r.parent old.slots)

-- a waiting grant becomes a grant, or goes
unfoldable pub finish_at : ℕ → Rec → Bool → Table → Step
finish_at k r outcome t =
    if (eqb k 0)
    (step t (Failure InvalidTicket))
    (if outcome
    (finished r (iou_text r.iou) t (put k (turned a_grant r t.slots) t))
    (finished r [] t (remove k t)))

unfoldable pub finish : ℕ → Bool → Table → Step
finish serial outcome t = finish_at (waiting_slot serial t) (rec_at (waiting_slot serial t) t.slots) outcome t

-- proxy

unfoldable pub proxy_with : Rec → Table → Step
proxy_with r t = step (add r t) (ProxySuccess (name_of r))

-- the grant in slot k, or none
unfoldable pub proxy_by : ℕ → List ℕ → Brought → Table → Step
proxy_by k target g t =
    if (eqb k 0)
    (step t (ProxyFailure BadPgt))
    (if (registered target g.register)
    (if (room_for 1 t)
    (proxy_with (new_proxy k target g.random t) t)
    (step t (ProxyFailure InternalError)))
    (step t (ProxyFailure UnauthorizedService)))

unfoldable pub proxy : Read Wanted → Brought → Table → Step
proxy Malformed g t = step t (ProxyFailure InvalidRequest)
proxy (Given a) g t =
    if (is_empty a.pgt || is_empty a.target)
    (step t (ProxyFailure InvalidRequest))
    (proxy_by (slot_named a_grant a.pgt t) a.target g t)

-- logout

-- the table without the session that a cookie names
unfoldable pub without_session : List ℕ → Table → Table
without_session cookie t = if (eqb (session_of cookie t) 0) t (end_session (session_of cookie t) t)

-- the link stands only if url is a registered service
unfoldable pub link_to : List ℕ → List Entry → List ℕ
link_to url register = if (registered url register) url []

-- the cookie is cleared even without a session, and not where the request is malformed
unfoldable pub logout : Read (List ℕ) → Brought → Table → Step
logout Malformed g t = step t (ErrorPage 400)
logout (Given url) g t =
    record { table = without_session g.cookie t; reply = SignedOut (link_to url g.register); cookie = []; cleared = true }

-- a request: an unknown path 404, POST to another path than login 405
unfoldable pub request_step : Request → Brought → Table → Step
request_step NoPath g t = step t (ErrorPage 404)
request_step NotTaken g t = step t (ErrorPage 405)
request_step (LoginGet a) g t = login_get a g t
request_step (LoginPost p) g t = login_post p g t
request_step (Logout url) g t = logout url g t
request_step (Validate v a) g t = validate v a g t
request_step (Proxy a) g t = proxy a g t
