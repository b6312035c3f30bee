-- What the steps do to the table: every step is some edits, each a put, an added record or an ended session. So no step changes how
-- many slots there are, and the next serial never falls. Assumes nothing.
use mathlib.Core.Path.{◌≡◌, refl, ◌∙◌}
use mathlib.Core.Bool.{Bool, true, false, ◌&&◌}
use mathlib.Core.List.{List, map}
use Prim.Native.Nat.{ℕ, ◌+◌, ◌%◌, ◌≤◌, ◌<◌}
use native.Mathlib.Omega.{arith}
use borrow.Author.Tests.{eqb-true, eqb-false, ne_eqb, leb-true, ltb-true}
use lib.Dec.{eqb, leb, ltb}
use lib.ListN.{length, length-map}
use Rattle.protocol.specs.Bytes.{if}
use Rattle.protocol.specs.Tickets.{a_free, a_login, a_service, a_grant, a_visit}
use Rattle.protocol.specs.Records.{Rec, free_rec, own_right, serial_right, expiry_right}
use Rattle.protocol.specs.Table.{Table, rec_at}
use Rattle.protocol.specs.Request.{Malformed, Given, Asked, Posted, Shown, Wanted, Request, NoPath, NotTaken, LoginGet, LoginPost, Logout, Validate, Proxy}
use Rattle.protocol.specs.Steps.{Brought, Step, end_rec, tick, put, remove, end_session, slot_named, session_of, slot_for, ticket_slot, new_login, new_session, new_service, new_waiting, new_proxy, add, form_with, ticket_with, ticket_step, turned, left_by, waiting_with, waiting_slot, finished, finish, proxy_with, login_get, login_post, logout, validate, proxy, request_step}
use Rattle.protocol.specs.declared.Validator.{Validator}
use Rattle.protocol.proofs.Laws.{both, own}
use Rattle.protocol.proofs.Courses.{FormCourse, shows, no_form, AdmitCourse, signed_in_lem, tickets, StandCourse, stands, no_ticket, OpenCourse, opens, no_session, GetCourse, unknown, standing_by, away, form_shown, get_course, AcceptedCourse, fresh, kept, changed, PostCourse, again, enters, post_course, AcceptCourse, plainly, calls, tells, ShownCourse, lacks, none, spends, burns, accepts, shown_course, FinishCourse, raises, drops, finish_course, ProxyCourse, fails, issues, proxy_course, LeaveCourse, stays, ends, leave_course}
use Rattle.protocol.proofs.Sound.{length-put}

-- edits one after the other; a record is added only while a serial is left
pub data Edits : Table → Table → Type 0 where
  still : {t : Table} → Edits t t
  putting : {t u : Table} (k : ℕ) (r : Rec) → Edits (put k r t) u → Edits t u
  adding : {t u : Table} (r : Rec) → 1 ≤ t.next → Edits (add r t) u → Edits t u
  ending : {t u : Table} (s : ℕ) → Edits (end_session s t) u → Edits t u

-- Every step, by its courses

form_edits : {status : ℕ} {service random : List ℕ} {t : Table} {x : Step} → FormCourse status service random t x → Edits t x.table
unfolding form_with
form_edits {random = random} {t = t} (shows m c) = adding (new_login random t) m.serial still
form_edits no_form = still

admit_edits : {mark s : ℕ} {service random cookie : List ℕ} {t : Table} {x : Step} → AdmitCourse mark s service random cookie t x → Edits t x.table
unfolding ticket_step ticket_with
admit_edits (signed_in_lem e) = still
admit_edits {mark = mark} {s = s} {service = service} {random = random} {t = t} (tickets e m) = adding (new_service mark s service random t) m.serial still

stand_edits : {mark s : ℕ} {service random : List ℕ} {t : Table} {x : Step} → StandCourse mark s service random t x → Edits t x.table
stand_edits (stands c) = admit_edits c
stand_edits no_ticket = still

open_edits : {ended : Bool} {user service random : List ℕ} {t : Table} {x : Step} → OpenCourse ended user service random t x → Edits t x.table
open_edits {user = user} {random = random} {t = t} (opens m c) = adding (new_session user random t) m.serial (admit_edits c)
open_edits no_session = still

get_edits : {a : Asked} {g : Brought} {t : Table} {x : Step} → GetCourse a g t x → Edits t x.table
get_edits (unknown e) = still
get_edits (standing_by n l c) = stand_edits c
get_edits (away n w e) = still
get_edits (form_shown c) = form_edits c

accepted_edits : {s : ℕ} {user service random : List ℕ} {t : Table} {x : Step} → AcceptedCourse s user service random t x → Edits t x.table
accepted_edits (fresh e c) = open_edits c
accepted_edits (kept k e c) = stand_edits c
accepted_edits {s = s} (changed k e c) = ending s (open_edits c)

post_edits : {k : ℕ} {p : Posted} {g : Brought} {t : Table} {x : Step} → PostCourse k p g t x → Edits t x.table
post_edits (unknown e) = still
post_edits (again n c) = form_edits c
post_edits (enters u e c) = accepted_edits c

accept_edits : {v : Validator} {session parent mark : ℕ} {a : Shown} {g : Brought} {t : Table} {x : Step} → AcceptCourse v session parent mark a g t x → Edits t x.table
unfolding waiting_with
accept_edits (plainly e) = still
accept_edits {session = session} {parent = parent} {mark = mark} {a = a} {g = g} {t = t} (calls n c) = adding (new_waiting mark parent session a.pgt_url g.random t) c.room.serial still
accept_edits (tells n) = still

left_edits : (k : ℕ) (r : Rec) (t : Table) {u : Table} → Edits (left_by k r t) u → Edits t u
unfolding left_by
left_edits k r t {u} e = go (eqb r.kind a_service) e
  where
    go : (d : Bool) → Edits (if d (put k (turned a_visit r t.slots) t) t) u → Edits t u
    go true e = putting k (turned a_visit r t.slots) e
    go false e = e

shown_edits : {v : Validator} {a : Shown} {g : Brought} {t : Table} {x : Step} → ShownCourse v a g t x → Edits t x.table
shown_edits (lacks w) = still
shown_edits (none w e) = still
shown_edits {a = a} {t = t} (spends w k (burns code)) = putting (ticket_slot a.ticket t) free_rec still
shown_edits {a = a} {t = t} (spends w k (accepts r c)) =
    let j : ℕ = ticket_slot a.ticket t in
    putting j free_rec (left_edits j (rec_at j t.slots) (remove j t) (accept_edits c))

wanted_edits : {a : Wanted} {g : Brought} {t : Table} {x : Step} → ProxyCourse a g t x → Edits t x.table
unfolding proxy_with
wanted_edits (fails code) = still
wanted_edits {a = a} {g = g} {t = t} (issues e l m) = adding (new_proxy (slot_named a_grant a.pgt t) a.target g.random t) m.serial still

leave_edits : {cookie : List ℕ} {t u : Table} → LeaveCourse cookie t u → Edits t u
leave_edits (stays e) = still
leave_edits {cookie} {t} (ends l) = ending (session_of cookie t) still

finished_edits : {serial : ℕ} {outcome : Bool} {t : Table} {x : Step} → FinishCourse serial outcome t x → Edits t x.table
unfolding finished
finished_edits (none e) = still
finished_edits {serial = serial} {t = t} (raises o l) = putting (waiting_slot serial t) (turned a_grant (rec_at (waiting_slot serial t) t.slots) t.slots) still
finished_edits {serial = serial} {t = t} (drops o l) = putting (waiting_slot serial t) free_rec still

pub finish_edits : (serial : ℕ) (outcome : Bool) (t : Table) → Edits t (finish serial outcome t).table
finish_edits serial outcome t = finished_edits (finish_course serial outcome t)

pub request_edits : (r : Request) (g : Brought) (t : Table) → Edits t (request_step r g t).table
unfolding request_step login_get login_post logout validate proxy
request_edits NoPath g t = still
request_edits NotTaken g t = still
request_edits (LoginGet Malformed) g t = still
request_edits (LoginGet (Given a)) g t = get_edits (get_course a g t)
request_edits (LoginPost Malformed) g t = still
request_edits (LoginPost (Given b)) g t = putting (slot_named a_login b.lt t) free_rec (post_edits (post_course (slot_named a_login b.lt t) b g (remove (slot_named a_login b.lt t) t)))
request_edits (Logout Malformed) g t = still
request_edits (Logout (Given url)) g t = leave_edits (leave_course g.cookie t)
request_edits (Validate v Malformed) g t = still
request_edits (Validate v (Given a)) g t = shown_edits (shown_course v a g t)
request_edits (Proxy Malformed) g t = still
request_edits (Proxy (Given a)) g t = wanted_edits (proxy_course a g t)

-- No edit changes how many slots there are, nor does the clearing

pub size_tick : (time : ℕ) (t : Table) → length (tick time t).slots ≡ length t.slots
unfolding tick
size_tick time t = refl

pub size_edits : {t u : Table} → Edits t u → length u.slots ≡ length t.slots
unfolding add end_session
size_edits still = refl
size_edits (putting {t = t} k r e) = size_edits e ∙ length-put k r t.slots
size_edits (adding {t = t} r h e) = size_edits e ∙ length-put (slot_for t) r t.slots
size_edits (ending {t = t} s e) = size_edits e ∙ length-put s free_rec (map (end_rec s) t.slots) ∙ length-map t.slots (end_rec s)

-- The next serial never falls

-- how far the serials have come: to the next one, or past the last where all are used
unfoldable pub reach : ℕ → ℕ
reach next = if (eqb next 0) 4294967296 next

reach_next : (n : ℕ) → 1 ≤ n → reach n ≡ n
unfolding reach
reach_next n h = rw (ne_eqb n 0 (λ e. omega arith))

reach_after : (n : ℕ) → 1 ≤ n → n < 4294967296 → reach ((n + 1) % 4294967296) ≡ n + 1
unfolding reach
reach_after n h g = go (eqb ((n + 1) % 4294967296) 0) refl
  where
    go : (z : Bool) → eqb ((n + 1) % 4294967296) 0 ≡ z → if z 4294967296 ((n + 1) % 4294967296) ≡ n + 1
    go true e = let w = eqb-true ((n + 1) % 4294967296) 0 e in omega arith
    go false e = let w = eqb-false ((n + 1) % 4294967296) 0 e in omega arith

pub reach_rises : {t u : Table} → Edits t u → t.next < 4294967296 → reach t.next ≤ reach u.next
unfolding add end_session
reach_rises still h = omega arith
reach_rises (putting k r e) h = reach_rises e h
reach_rises (adding {t = t} r g e) h = omega (arith, reach_rises e (omega arith), reach_next t.next g, reach_after t.next g h)
reach_rises (ending s e) h = reach_rises e h

-- and every record's serial is below it
pub serial_below : (clock next : ℕ) (r : Rec) → own_right clock next r ≡ true → (r.kind ≡ 0 → ⊥) → next < 4294967296 → r.serial < 4294967296 → (1 ≤ r.serial) × (r.serial < reach next)
unfolding serial_right reach
serial_below clock next r h n g s =
    let w : if (eqb r.kind a_free) (eqb r.serial 0 && eqb r.expiry 0) (serial_right next r.serial && expiry_right clock r) ≡ true = (own clock next r h).life in
    let l : serial_right next r.serial && expiry_right clock r ≡ true = rw (ne_eqb r.kind 0 n) at w in
    let i = both (leb 1 r.serial) (if (eqb next 0) true (ltb r.serial next)) (both (serial_right next r.serial) (expiry_right clock r) l).0 in
    (leb-true 1 r.serial i.0, go (eqb next 0) i.1)
  where
    go : (z : Bool) → if z true (ltb r.serial next) ≡ true → r.serial < if z 4294967296 next
    go true e = s
    go false e = ltb-true r.serial next e
