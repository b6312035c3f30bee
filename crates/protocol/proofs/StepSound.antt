-- Every step keeps a sound table sound, by cases over its courses. Assumes nothing.
use mathlib.Core.Path.{◌≡◌, refl}
use mathlib.Core.Bool.{Bool, true}
use mathlib.Core.List.{List}
use Prim.Native.Nat.{ℕ, zero, suc, ◌≤◌}
use native.Mathlib.Omega.{arith}
use lib.ListN.{length}
use Rattle.protocol.specs.Utf8.{name_right}
use Rattle.protocol.specs.Tickets.{a_login, a_session, a_grant}
use Rattle.protocol.specs.Table.{Table, rec_at}
use Rattle.protocol.specs.Request.{Malformed, Given, Asked, Posted, Shown, Wanted, Request, NoPath, NotTaken, LoginGet, LoginPost, Logout, Validate, Proxy}
use Rattle.protocol.specs.Steps.{Brought, Step, remove, slot_named, session_of, slot_for, ticket_slot, new_rec, new_session, expiry_for, add, form_with, ticket_with, ticket_step, waiting_with, waiting_slot, finished, finish, proxy_with, login_get, login_post, logout, validate, proxy, request_step}
use Rattle.protocol.specs.declared.Validator.{Validator}
use Rattle.protocol.proofs.Laws.{mark_most_lem}
use Rattle.protocol.proofs.Kept.{put_same}
use Rattle.protocol.proofs.Added.{Room}
use Rattle.protocol.proofs.Searches.{Live, slot_live, filled}
use Rattle.protocol.proofs.Proper.{Plain, ProperPost, Proper}
use Rattle.protocol.proofs.Courses.{FormCourse, shows, no_form, AdmitCourse, signed_in_lem, tickets, StandCourse, stands, no_ticket, OpenCourse, opens, no_session, GetCourse, unknown, standing_by, away, form_shown, get_course, AcceptedCourse, fresh, kept, changed, PostCourse, again, enters, post_course, AcceptCourse, plainly, calls, tells, burns, accepts, ShownCourse, lacks, none, spends, shown_course, FinishCourse, raises, drops, finish_course, ProxyCourse, fails, issues, proxy_course, LeaveCourse, stays, ends, leave_course}
use Rattle.protocol.proofs.Sound.{Sound, end_sound}
use Rattle.protocol.proofs.NewSound.{Base, owned, login_sound, session_sound, service_sound, waiting_sound, proxy_ticket_sound}
use Rattle.protocol.proofs.TurnSound.{spend_sound, spent_sound, granting, turned_sound, left_sound, left_base}

module _ (random : List ℕ) (h : length random ≡ 48) where
  form_sound : {status : ℕ} {service : List ℕ} {t : Table} {x : Step} → FormCourse status service random t x → Sound t → Sound x.table
  unfolding form_with
  form_sound {t = t} (shows m c) s = login_sound random h t s m c
  form_sound no_form s = s

  admit_sound : {mark k : ℕ} {service cookie : List ℕ} {t : Table} {x : Step} → AdmitCourse mark k service random cookie t x → mark ≤ 1 → Plain 200 service → Live a_session t k → Sound t → Sound x.table
  unfolding ticket_step ticket_with
  admit_sound (signed_in_lem e) hm p l s = s
  admit_sound {mark = mark} {k = k} {service = service} {t = t} (tickets e m) hm p l s =
      service_sound random h t s m k l.some l.is mark service hm (filled service e) p.short p.bytes

  stand_sound : {mark k : ℕ} {service : List ℕ} {t : Table} {x : Step} → StandCourse mark k service random t x → mark ≤ 1 → Plain 200 service → Live a_session t k → Sound t → Sound x.table
  stand_sound (stands c) hm p l s = admit_sound c hm p l s
  stand_sound no_ticket hm p l s = s

  -- a new session is live
  session_live : (user : List ℕ) (t : Table) → Room t → Live a_session (add (new_session user random t) t) (slot_for t)
  unfolding add new_rec expiry_for
  session_live user t m =
      let e = put_same (new_session user random t) t.slots (slot_for t) m.some m.within in
      record { some = m.some; is = rw e; lasts = rw e (omega arith) }

  open_sound : {ended : Bool} {user service : List ℕ} {t : Table} {x : Step} → OpenCourse ended user service random t x → 1 ≤ length user → length user ≤ 64 → name_right user ≡ true → Plain 200 service → Sound t → Sound x.table
  open_sound {user = user} {t = t} (opens m c) lo hi w p s = admit_sound c (omega arith) p (session_live user t m) (session_sound random h t s m user lo hi w)
  open_sound no_session lo hi w p s = s

-- login, GET
get_sound : {a : Asked} {g : Brought} {t : Table} {x : Step} → GetCourse a g t x → length g.random ≡ 48 → Plain 200 a.service → Sound t → Sound x.table
get_sound (unknown e) h p s = s
get_sound {g = g} (standing_by n l c) h p s = stand_sound g.random h c (omega arith) p l s
get_sound (away n w e) h p s = s
get_sound {g = g} (form_shown c) h p s = form_sound g.random h c s

-- login, POST

accepted_sound : (cookie : List ℕ) {user service random : List ℕ} {t : Table} {x : Step} → AcceptedCourse (session_of cookie t) user service random t x → length random ≡ 48 → 1 ≤ length user → length user ≤ 64 → name_right user ≡ true → Plain 200 service → Sound t
    → Sound x.table
accepted_sound cookie {random = random} (fresh e c) h lo hi w p s = open_sound random h c lo hi w p s
accepted_sound cookie {random = random} {t = t} (kept k e c) h lo hi w p s = stand_sound random h c (omega arith) p (slot_live a_session cookie t k) s
accepted_sound cookie {random = random} {t = t} (changed k e c) h lo hi w p s = open_sound random h c lo hi w p (end_sound (session_of cookie t) t k (slot_live a_session cookie t k).is s)

post_sound : {k : ℕ} {p : Posted} {g : Brought} {t : Table} {x : Step} → PostCourse k p g t x → length g.random ≡ 48 → ProperPost p → Sound t → Sound x.table
post_sound (unknown e) h q s = s
post_sound {g = g} (again n c) h q s = form_sound g.random h c s
post_sound {p = p} {g = g} (enters u e c) h q s = accepted_sound g.cookie c h (filled p.username e.username) q.user_short q.user_bytes q.service s

lt_sound : (lt : List ℕ) (t : Table) → Sound t → (k : ℕ) → slot_named a_login lt t ≡ k → Sound (remove k t)
lt_sound lt t s zero e = s
lt_sound lt t s (suc k) e =
    let l : Live 1 t (suc k) = rw e at (slot_live a_login lt t (rw e (omega arith))) in
    spend_sound (suc k) t s (omega arith) (λ q. omega (arith, l.is)) (λ q. omega (arith, l.is))

-- validators

accept_sound : {v : Validator} {session parent mark : ℕ} {a : Shown} {g : Brought} {t : Table} {x : Step} → AcceptCourse v session parent mark a g t x → length g.random ≡ 48 → mark ≤ 1 → Plain 200 a.pgt_url → Base t parent session → Sound t
    → Sound x.table
unfolding waiting_with
accept_sound (plainly e) h hm p b s = s
accept_sound {session = session} {parent = parent} {mark = mark} {a = a} {g = g} {t = t} (calls n c) h hm p b s =
    waiting_sound g.random h t s c.room mark parent session a.pgt_url b hm c.depth (filled a.pgt_url c.url) p.short p.bytes
accept_sound (tells n) h hm p b s = s

shown_sound : {v : Validator} {a : Shown} {g : Brought} {t : Table} {x : Step} → ShownCourse v a g t x → length g.random ≡ 48 → Plain 200 a.pgt_url → Sound t → Sound x.table
shown_sound (lacks w) h p s = s
shown_sound (none w e) h p s = s
shown_sound {a = a} {t = t} (spends w k (burns code)) h p s = spent_sound t s (ticket_slot a.ticket t) k
shown_sound {a = a} {t = t} (spends w k (accepts r c)) h p s =
    accept_sound c h (omega (arith, (owned t s (ticket_slot a.ticket t)).mark, mark_most_lem (rec_at (ticket_slot a.ticket t) t.slots).kind)) p (left_base t s (ticket_slot a.ticket t) k) (left_sound t s (ticket_slot a.ticket t) k)

-- proxy, logout, finish

wanted_sound : {a : Wanted} {g : Brought} {t : Table} {x : Step} → ProxyCourse a g t x → length g.random ≡ 48 → Plain 200 a.target → Sound t → Sound x.table
unfolding proxy_with
wanted_sound (fails code) h p s = s
wanted_sound {a = a} {g = g} {t = t} (issues e l m) h p s = proxy_ticket_sound g.random h t s m (slot_named a_grant a.pgt t) l a.target (filled a.target e) p.short p.bytes

leave_sound : {cookie : List ℕ} {t u : Table} → LeaveCourse cookie t u → Sound t → Sound u
leave_sound (stays e) s = s
leave_sound {cookie} {t} (ends l) s = end_sound (session_of cookie t) t l.some l.is s

finished_sound : {serial : ℕ} {outcome : Bool} {t : Table} {x : Step} → FinishCourse serial outcome t x → Sound t → Sound x.table
unfolding finished
finished_sound (none e) s = s
finished_sound {serial = serial} {t = t} (raises o l) s = turned_sound t s (waiting_slot serial t) l.some (granting refl refl) l.is
finished_sound {serial = serial} {t = t} (drops o l) s = spend_sound (waiting_slot serial t) t s l.some (λ q. omega (arith, l.is)) (λ q. omega (arith, l.is))

pub finish_sound : (serial : ℕ) (outcome : Bool) (t : Table) → Sound t → Sound (finish serial outcome t).table
finish_sound serial outcome t s = finished_sound (finish_course serial outcome t) s

-- every request that keeps the limits of its values
pub request_sound : (r : Request) (g : Brought) (t : Table) → Proper r → length g.random ≡ 48 → Sound t → Sound (request_step r g t).table
unfolding request_step login_get login_post logout validate proxy
request_sound NoPath g t p h s = s
request_sound NotTaken g t p h s = s
request_sound (LoginGet Malformed) g t p h s = s
request_sound (LoginGet (Given a)) g t p h s = get_sound (get_course a g t) h p s
request_sound (LoginPost Malformed) g t p h s = s
request_sound (LoginPost (Given b)) g t p h s =
    let k : ℕ = slot_named a_login b.lt t in
    post_sound (post_course k b g (remove k t)) h p (lt_sound b.lt t s k refl)
request_sound (Logout Malformed) g t p h s = s
request_sound (Logout (Given url)) g t p h s = leave_sound (leave_course g.cookie t) s
request_sound (Validate v Malformed) g t p h s = s
request_sound (Validate v (Given a)) g t p h s = shown_sound (shown_course v a g t) h p s
request_sound (Proxy Malformed) g t p h s = s
request_sound (Proxy (Given a)) g t p h s = wanted_sound (proxy_course a g t) h p s
