-- Every step's answer is small, so it fits the output, and its cookie fits the cookie output. Assumes nothing.
use mathlib.Core.Path.{◌≡◌, refl, ap}
use mathlib.Core.Bool.{Bool, true, false}
use mathlib.Core.List.{List, []}
use Prim.Native.Nat.{ℕ, zero, suc, ◌≤◌}
use native.Mathlib.Omega.{arith}
use lib.ListN.{length}
use Rattle.protocol.specs.Bytes.{if}
use Rattle.protocol.specs.Tickets.{a_login, a_grant, iou_from, iou_text, depth_most, deepest}
use Rattle.protocol.specs.Records.{Rec, name_of}
use Rattle.protocol.specs.Table.{Table, rec_at}
use Rattle.protocol.specs.Register.{registered}
use Rattle.protocol.specs.Request.{Malformed, Given, Asked, Posted, Shown, Wanted, Request, NoPath, NotTaken, LoginGet, LoginPost, Logout, Validate, Proxy}
use Rattle.protocol.specs.Answers.{Code, Reply, ErrorPage, FormPage, RedirectTo, YesNo, Failure, ProxySuccess, ProxyFailure, CallbackTo, InvalidRequest, InvalidTicket}
use Rattle.protocol.specs.Steps.{Brought, Step, step, remove, slot_named, ticket_slot, new_rec, new_login, new_session, new_service, new_waiting, new_proxy, add, chain_from, chain_of, success_of, form_with, ticket_with, ticket_step, failed, waiting_with, waiting_slot, finished, finish, proxy_with, link_to, login_get, login_post, logout, validate, proxy, request_step}
use Rattle.protocol.specs.declared.Validator.{Validator}
use Rattle.protocol.specs.declared.Validator.TheVariants as validator
use Rattle.protocol.proofs.Laws.{part-long}
use Rattle.protocol.proofs.Proper.{Proper}
use Rattle.protocol.proofs.Courses.{FormCourse, shows, no_form, AdmitCourse, signed_in_lem, tickets, StandCourse, stands, no_ticket, OpenCourse, opens, no_session, GetCourse, unknown, standing_by, away, form_shown, get_course, AcceptedCourse, fresh, kept, changed, PostCourse, again, enters, post_course, AcceptCourse, plainly, calls, tells, ShownCourse, lacks, none, spends, burns, accepts, shown_course, FinishCourse, raises, drops, finish_course, ProxyCourse, fails, issues, proxy_course}
use Rattle.protocol.proofs.Sound.{Sound, fit_slot}
use Rattle.protocol.proofs.NewSound.{owned}
use Rattle.protocol.proofs.TurnSound.{left_sound}
use Rattle.protocol.proofs.Sizes.{Small, error, in_page, out_page, form, redirect, word, success, failure, ticket, refusal, call, AllShort, name_most, iou_most}

-- a step whose answer and cookie fit
pub record Fitting (s : Step) : Type 0 where
  pub reply : Small s.reply
  pub cookie : length s.cookie ≤ 64

plain : (t : Table) (r : Reply) → Small r → Fitting (step t r)
plain t r h = record { reply = h; cookie = omega arith }

-- the chain has at most four texts, none of them long
chain_length : (d k : ℕ) (slots : List Rec) → length (chain_from d k slots) ≡ d
unfolding chain_from
chain_length zero k slots = refl
chain_length (suc d) k slots = ap suc (chain_length d (rec_at k slots).parent slots)

module _ (t : Table) (s : Sound t) where
  text_most_lem : (k : ℕ) → length (rec_at k t.slots).text ≤ 200
  text_most_lem k = (fit_slot t.slots k s.fit).sized.text

  chain_short : (d k : ℕ) → AllShort (chain_from d k t.slots)
  unfolding chain_from AllShort
  chain_short zero k = tt
  chain_short (suc d) k = (text_most_lem k, chain_short d (rec_at k t.slots).parent)

  depth_most_lem : (k : ℕ) → depth_most k ≤ 4
  unfolding depth_most deepest
  depth_most_lem zero = omega arith
  depth_most_lem (suc zero) = omega arith
  depth_most_lem (suc (suc zero)) = omega arith
  depth_most_lem (suc (suc (suc zero))) = omega arith
  depth_most_lem (suc (suc (suc (suc zero)))) = omega arith
  depth_most_lem (suc (suc (suc (suc (suc zero))))) = omega arith
  depth_most_lem (suc (suc (suc (suc (suc (suc zero)))))) = omega arith
  depth_most_lem (suc (suc (suc (suc (suc (suc (suc zero))))))) = omega arith
  depth_most_lem (suc (suc (suc (suc (suc (suc (suc (suc k)))))))) = omega arith

  pub success_fits : (t' : Table) (k m p : ℕ) (iou : List ℕ) → length iou ≤ 64 → Fitting (step t' (success_of k m iou p t.slots))
  unfolding chain_of
  success_fits t' k m p iou h =
      plain t' (success_of k m iou p t.slots)
      (success (rec_at k t.slots).text (rec_at k t.slots).since m iou (chain_of p t.slots) (text_most_lem k) h
      (omega (arith, chain_length (rec_at p t.slots).depth p t.slots, (owned t s p).deep, depth_most_lem (rec_at p t.slots).kind)) (chain_short (rec_at p t.slots).depth p))

-- login

form_fits : {status : ℕ} {service random : List ℕ} {t : Table} {x : Step} → FormCourse status service random t x → length service ≤ 200 → Fitting x
unfolding form_with
form_fits {status = status} {service = service} {random = random} {t = t} (shows m c) h =
    let r : Rec = new_login random t in plain (add r t) (FormPage status (name_of r) service) (form status (name_of r) service (name_most r) h)
form_fits {t = t} no_form h = plain t (ErrorPage 503) (error 503)

admit_fits : {mark s : ℕ} {service random cookie : List ℕ} {t : Table} {x : Step} → AdmitCourse mark s service random cookie t x → length service ≤ 200 → length cookie ≤ 64 → Fitting x
unfolding ticket_step ticket_with
admit_fits (signed_in_lem e) h g = record { reply = in_page; cookie = g }
admit_fits {mark = mark} {s = s} {service = service} {random = random} {t = t} (tickets e m) h g =
    let r : Rec = new_service mark s service random t in record { reply = redirect service (name_of r) h (name_most r); cookie = g }

stand_fits : {mark s : ℕ} {service random : List ℕ} {t : Table} {x : Step} → StandCourse mark s service random t x → length service ≤ 200 → Fitting x
stand_fits (stands c) h = admit_fits c h (omega arith)
stand_fits {t = t} no_ticket h = plain t (ErrorPage 503) (error 503)

open_fits : {ended : Bool} {user service random : List ℕ} {t : Table} {x : Step} → OpenCourse ended user service random t x → length service ≤ 200 → Fitting x
open_fits {user = user} {random = random} {t = t} (opens m c) h = admit_fits c h (name_most (new_session user random t))
open_fits no_session h = record { reply = error 503; cookie = omega arith }

get_fits : {a : Asked} {g : Brought} {t : Table} {x : Step} → GetCourse a g t x → length a.service ≤ 200 → Fitting x
get_fits {t = t} (unknown e) h = plain t (ErrorPage 403) (error 403)
get_fits (standing_by n l c) h = stand_fits c h
get_fits {a = a} {t = t} (away n w e) h = plain t (RedirectTo a.service []) (redirect a.service [] h (omega arith))
get_fits (form_shown c) h = form_fits c h

accepted_fits : {s : ℕ} {user service random : List ℕ} {t : Table} {x : Step} → AcceptedCourse s user service random t x → length service ≤ 200 → Fitting x
accepted_fits (fresh e c) h = open_fits c h
accepted_fits (kept k e c) h = stand_fits c h
accepted_fits (changed k e c) h = open_fits c h

post_fits : {k : ℕ} {p : Posted} {g : Brought} {t : Table} {x : Step} → PostCourse k p g t x → length p.service ≤ 200 → Fitting x
post_fits {t = t} (unknown e) h = plain t (ErrorPage 403) (error 403)
post_fits (again n c) h = form_fits c h
post_fits (enters u e c) h = accepted_fits c h

-- logout
link_most : (z : Bool) (v : List ℕ) → length v ≤ 200 → length (if z v []) ≤ 200
link_most true v h = h
link_most false v h = omega arith

-- validators

failed_small : (v : Validator) (c : Code) → Small (failed v c)
failed_small validator.Plain c = word false
failed_small validator.Service c = failure c
failed_small validator.Proxy c = failure c

failed_fits : (v : Validator) (c : Code) (t : Table) → Fitting (step t (failed v c))
failed_fits v c t = plain t (failed v c) (failed_small v c)

accept_fits : {v : Validator} {session parent mark : ℕ} {a : Shown} {g : Brought} {t : Table} {x : Step} → AcceptCourse v session parent mark a g t x → length g.random ≡ 48 → length a.pgt_url ≤ 200 → Sound t → Fitting x
unfolding waiting_with new_rec iou_from
accept_fits {t = t} (plainly e) h u s = plain t (YesNo true) (word true)
accept_fits {session = session} {parent = parent} {mark = mark} {a = a} {g = g} {t = t} (calls n c) h u s =
    let w : Rec = new_waiting mark parent session a.pgt_url g.random t in
    plain (add w t) (CallbackTo w.text (name_of w) (iou_text w.iou) w.serial) (call w.text (name_of w) (iou_text w.iou) w.serial u (name_most w) (iou_most w.iou (omega (arith, part-long 16 16 g.random (omega arith)))))
accept_fits {session = session} {parent = parent} {mark = mark} {t = t} (tells n) h u s = success_fits t s t session mark parent [] (omega arith)

shown_fits : {v : Validator} {a : Shown} {g : Brought} {t : Table} {x : Step} → ShownCourse v a g t x → length g.random ≡ 48 → length a.pgt_url ≤ 200 → Sound t → Fitting x
shown_fits {v = v} {t = t} (lacks w) h u s = failed_fits v InvalidRequest t
shown_fits {v = v} {t = t} (none w e) h u s = failed_fits v InvalidTicket t
shown_fits {v = v} {a = a} {t = t} (spends w k (burns code)) h u s = failed_fits v code (remove (ticket_slot a.ticket t) t)
shown_fits {a = a} {t = t} (spends w k (accepts r c)) h u s = accept_fits c h u (left_sound t s (ticket_slot a.ticket t) k)

-- proxy
wanted_fits : {a : Wanted} {g : Brought} {t : Table} {x : Step} → ProxyCourse a g t x → Fitting x
unfolding proxy_with
wanted_fits {t = t} (fails code) = plain t (ProxyFailure code) (refusal code)
wanted_fits {a = a} {g = g} {t = t} (issues e l m) =
    let r : Rec = new_proxy (slot_named a_grant a.pgt t) a.target g.random t in plain (add r t) (ProxySuccess (name_of r)) (ticket (name_of r) (name_most r))

-- finish

finished_fits : {serial : ℕ} {outcome : Bool} {t : Table} {x : Step} → FinishCourse serial outcome t x → Sound t → Fitting x
unfolding finished
finished_fits {t = t} (none e) s = plain t (Failure InvalidTicket) (failure InvalidTicket)
finished_fits {serial = serial} {t = t} (raises o l) s =
    let r : Rec = rec_at (waiting_slot serial t) t.slots in
    success_fits t s _ r.session r.mark r.parent (iou_text r.iou) (iou_most r.iou (omega (arith, (fit_slot t.slots (waiting_slot serial t) s.fit).sized.iou)))
finished_fits {serial = serial} {t = t} (drops o l) s =
    let r : Rec = rec_at (waiting_slot serial t) t.slots in success_fits t s _ r.session r.mark r.parent [] (omega arith)

pub finish_fits : (serial : ℕ) (outcome : Bool) (t : Table) → Sound t → Fitting (finish serial outcome t)
finish_fits serial outcome t s = finished_fits (finish_course serial outcome t) s

-- every request that keeps the limits of its values
pub request_fits_lem : (r : Request) (g : Brought) (t : Table) → Proper r → length g.random ≡ 48 → Sound t → Fitting (request_step r g t)
unfolding request_step login_get login_post logout validate proxy link_to
request_fits_lem NoPath g t p h s = plain t (ErrorPage 404) (error 404)
request_fits_lem NotTaken g t p h s = plain t (ErrorPage 405) (error 405)
request_fits_lem (LoginGet Malformed) g t p h s = plain t (ErrorPage 400) (error 400)
request_fits_lem (LoginGet (Given a)) g t p h s = get_fits (get_course a g t) p.short
request_fits_lem (LoginPost Malformed) g t p h s = plain t (ErrorPage 400) (error 400)
request_fits_lem (LoginPost (Given b)) g t p h s = post_fits (post_course (slot_named a_login b.lt t) b g (remove (slot_named a_login b.lt t) t)) p.service.short
request_fits_lem (Logout Malformed) g t p h s = plain t (ErrorPage 400) (error 400)
request_fits_lem (Logout (Given url)) g t p h s = record { reply = out_page (link_to url g.register) (link_most (registered url g.register) url p.short); cookie = omega arith }
request_fits_lem (Validate v Malformed) g t p h s = failed_fits v InvalidRequest t
request_fits_lem (Validate v (Given a)) g t p h s = shown_fits (shown_course v a g t) h p.short s
request_fits_lem (Proxy Malformed) g t p h s = plain t (ProxyFailure InvalidRequest) (refusal InvalidRequest)
request_fits_lem (Proxy (Given a)) g t p h s = wanted_fits (proxy_course a g t)
