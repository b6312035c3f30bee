-- The validators: what their answers say is what they did to the table. Assumes nothing.
use mathlib.Core.Path.{◌≡◌, refl, sym, ap₂, ◌∙◌}
use mathlib.Core.Bool.{true, false, ◌||◌}
use mathlib.Core.List.{[]}
use Prim.Native.Nat.{ℕ, ◌+◌}
use native.Mathlib.Omega.{arith}
use borrow.Author.Tests.{eq-eqb}
use lib.Dec.{eqb}
use Rattle.protocol.specs.Bytes.{ascii, is_empty, same, among}
use Rattle.protocol.specs.Tickets.{a_waiting, iou_text}
use Rattle.protocol.specs.Records.{Rec, name_of}
use Rattle.protocol.specs.Table.{Table, rec_at}
use Rattle.protocol.specs.Request.{Malformed, Given, Shown, Validate, path_part, query_part}
use Rattle.protocol.specs.Answers.{Code, InvalidRequest, InvalidTicket, Reply, YesNo, CallbackTo, serial_of, failure_text, in_response, reply_text, reply_answer}
use Rattle.protocol.specs.Steps.{Step, step, put, remove, new_rec, new_waiting, ticket_slot, success_of, failed, proxy_parent, waiting_with, validate}
use Rattle.protocol.specs.declared.Validator.{Validator}
use Rattle.protocol.specs.declared.Validator.TheVariants as validator
use Rattle.protocol.proofs.Laws.{or_both}
use Rattle.protocol.proofs.Added.{Room}
use Rattle.protocol.proofs.Courses.{AcceptCourse, plainly, calls, tells as tells_all, Rightly, RuledCourse, burns, accepts, ShownCourse, lacks, none, spends, shown_course}
use Rattle.account.specs.History.{Text, AnswerCall}
use Rattle.account.specs.Reading.{Showing, no_showing, Said, carries, tells, calls_back, asks_renew, showing_in, shows, quiet, read_request}
use Rattle.account.specs.Notebook.{burnt, Notebook, is_ticket_line, close_all, pass, note}
use Rattle.account.specs.Truth.{Known, learn}
use Rattle.account.specs.Account.{validators, looks_good, Welcome, Owed}
use Rattle.account.proofs.Base.{clash, some_slot}
use Rattle.account.proofs.Sim.{alive}
use Rattle.account.proofs.Reached.{Reached, passed}
use Rattle.account.proofs.Parts.{reach_unburnt, reach_burn, rightful, welcome, reach_welcome, reach_callback}
use Rattle.account.proofs.Rules.{proxy_in_place, renew_wants_mark, for_its_service, accepted_left}
use Rattle.account.proofs.Texts.{pgt_read, iou_read, new_letters, new_some}
use Rattle.account.proofs.Paths.{name_for, among-validators, not_proxy, yes_only_at_validate, proxies_only_there}
use Rattle.account.proofs.Counts.{Ok, ok_by, silent}
use Rattle.account.proofs.LoginGet.{bring}

-- a failure says so, by its result and by its bytes
record Fails (v : Validator) (code : Code) : Type 0 where
  no_ticket : carries (reply_answer (failed v code)) ≡ false
  no_success : tells (reply_answer (failed v code)) ≡ false
  no_callback : calls_back (reply_answer (failed v code)) ≡ false
  bytes : looks_good (reply_text (failed v code)) ≡ false

refusal_is_frank : (v : Validator) (code : Code) → Fails v code
unfolding reply_answer reply_text failure_text in_response same
refusal_is_frank validator.Plain code = record { no_ticket = refl; no_success = refl; no_callback = refl; bytes = refl }
refusal_is_frank validator.Service code = record { no_ticket = refl; no_success = refl; no_callback = refl; bytes = refl }
refusal_is_frank validator.Proxy code = record { no_ticket = refl; no_success = refl; no_callback = refl; bytes = refl }

module _ (K : Known) (L : Notebook) (t : Table) (a : AnswerCall) (R : Reached (passed a.time K) (pass a.time L) t) (v : Validator) (its-path : path_part a.target ≡ name_for v) where
  abbrev at : Text
  at = path_part a.target

  a_validator : among at validators ≡ true
  a_validator = rw its-path (among-validators v)

  not_at_proxy : same at (ascii "/cas/proxy") ≡ false
  not_at_proxy = rw its-path (not_proxy v)

  -- a failure, where nothing is issued, accepted or told
  failed_ok : (t' : Table) (code : Code) (s : Said) → Reached (learn s K) (note s L) t' → is_empty s.opened ≡ true → is_empty s.issued ≡ true → s.showing.accepted ≡ false → s.settled ≡ false
      → Ok K L at s (step t' (failed v code))
  failed_ok t' code s R' nc ni na nt = let f = refusal_is_frank v code in silent R' f.no_ticket f.no_success f.no_callback nc ni na nt (λ x. f.bytes)

  module _ (q : Shown) (renew-is : asks_renew (query_part a.target) ≡ q.renew) where
    abbrev saying : Reply → Said
    saying r = read_request a (Validate v (Given q)) (reply_answer r) (reply_text r) [] false

    abbrev Goes : Step → Type 0
    Goes x = Ok K L at (saying x.reply) x

    -- service and ticket are there
    module _ (there : (is_empty q.service || is_empty q.ticket) ≡ false) where
      some : is_empty q.ticket ≡ false
      some = (or_both (is_empty q.service) (is_empty q.ticket) there).1

      -- a failure burns the ticket
      burnt_ok : (t' : Table) (code : Code) → Reached (passed a.time K) (close_all burnt (is_ticket_line q.ticket) (pass a.time L)) t' → Goes (step t' (failed v code))
      unfolding read_request note
      burnt_ok t' code R' =
          let f = refusal_is_frank v code in
          ok_by {s' = shows a (showing_in a q (reply_answer (failed v code)) (reply_text (failed v code))) (serial_of (reply_answer (failed v code))) (reply_text (failed v code))} (rw there)
          (failed_ok t' code _ (rw (f.no_success, f.no_callback, some) R') refl refl (rw (f.no_success, f.no_callback)) refl)

      -- the ticket in slot k is shown
      module _ (e : eqb (ticket_slot q.ticket t) 0 ≡ false) where
        abbrev k : ℕ
        k = ticket_slot q.ticket t

        abbrev r : Rec
        r = rec_at k t.slots

        -- it is rightly accepted, and leaves x
        module _ (c : Rightly v q r) (x : Rec) (dead : alive (pass a.time L).clock x ≡ false) where
          abbrev t' : Table
          t' = put k x t

          abbrev accepting : Text → Text → Showing
          accepting pgt iou = record { ticket = q.ticket; service = q.service; path = at; renew = asks_renew (query_part a.target); accepted = true; url = q.pgt_url; pgt = pgt; iou = iou }

          owes : (pgt iou : Text) (serial : ℕ) (said : Text) → (is_empty pgt ≡ true → Welcome at said (K.origin q.ticket)) → Owed (shows a (accepting pgt iou) serial said) K (pass a.time L)
          owes pgt iou serial said w =
              record {
                opens = λ z. absurd (clash {b = true} refl z);
                accepts = λ z.
                    rightful R (accepting pgt iou) e (λ z. its-path ∙ proxies_only_there v (proxy_in_place v q r c z)) (λ z. renew_wants_mark v q r c (sym renew-is ∙ z)) (for_its_service v q r c);
                welcomes = λ z. w;
                settles = λ z. absurd (clash z refl);
              }

          -- yes or success
          welcome_ok : (reply : Reply) (said : Text) → saying reply ≡ shows a (accepting [] []) 0 said → carries (reply_answer reply) ≡ false → tells (reply_answer reply) ≡ true
              → Welcome at said (K.origin q.ticket) → Goes (step t' reply)
          unfolding note
          welcome_ok reply said says-it bare yes-said w =
              ok_by says-it
              (record {
                reached = rw some (reach_welcome R (accepting [] []) e x dead);
                owed = owes [] [] 0 said (λ z. w);
                issues = rw (bare, not_at_proxy) (omega arith);
                accepts = rw (yes-said, a_validator) (omega arith);
                wins = rw (yes-said, a_validator) (omega arith);
                frank = λ y z. absurd (clash {b = true} refl (rw yes-said at z));
              })

          abbrev waiting : Rec
          waiting = new_waiting r.mark (proxy_parent r) r.session q.pgt_url a.random t'

          abbrev back : Reply
          back = CallbackTo waiting.text (name_of waiting) (iou_text waiting.iou) waiting.serial

          abbrev called : Showing
          called = accepting (name_of waiting) (iou_text waiting.iou)

          callback_said : saying back ≡ shows a called waiting.serial (reply_text back)
          unfolding reply_answer reply_text read_request new_rec
          callback_said =
              let l = new_letters a_waiting r.mark (proxy_parent r) r.session ((rec_at (proxy_parent r) t'.slots).depth + 1) q.pgt_url a.random t' (omega arith) (omega arith) in
              rw there
              (ap₂ (λ (p : Text) (i : Text). shows a (accepting p i) waiting.serial (reply_text back)) (pgt_read q.pgt_url (name_of waiting) (iou_text waiting.iou) l)
              (iou_read q.pgt_url (name_of waiting) (iou_text waiting.iou) l))

          callback_ok : Room t' → Goes (waiting_with waiting t')
          unfolding waiting_with reply_answer note new_rec close_all pass
          callback_ok m =
              let new = new_some a_waiting r.mark (proxy_parent r) r.session ((rec_at (proxy_parent r) t'.slots).depth + 1) q.pgt_url a.random t' (omega arith) (omega arith) in
              ok_by callback_said
              (record {
                reached = rw (some, new) (rw new at (reach_callback R called e x dead m a.random refl));
                owed = owes (name_of waiting) (iou_text waiting.iou) waiting.serial (reply_text back) (λ z. absurd (clash z new));
                issues = rw not_at_proxy (omega arith);
                accepts = rw a_validator (omega arith);
                wins = rw (a_validator, new) (omega arith);
                frank = λ y z. absurd (clash {b = true} refl z);
              })

          names_its_user : {s : Step} → AcceptCourse v r.session (proxy_parent r) r.mark q (bring a) t' s → Goes s
          unfolding reply_answer reply_text read_request
          names_its_user (plainly z) =
              welcome_ok (YesNo true) (ascii "yes\n") (rw there) refl refl (welcome R (accepting [] []) e x dead (ascii "yes\n") (rw (its-path, yes_only_at_validate v, z)))
          names_its_user (calls z c) = callback_ok c.room
          names_its_user (tells_all z) =
              let reply : Reply = success_of r.session r.mark [] (proxy_parent r) t'.slots in
              welcome_ok reply (reply_text reply) (rw there) refl refl (welcome R (accepting [] []) e x dead (reply_text reply) (rw (its-path, yes_only_at_validate v, z)))

        burnt_or_rightful : {s : Step} → RuledCourse v k r q (bring a) (remove k t) s → Goes s
        burnt_or_rightful (burns code) = burnt_ok (remove k t) code (reach_burn R (showing_in a q (reply_answer (failed v code)) (reply_text (failed v code))) e)
        burnt_or_rightful (accepts c w) =
            let l = accepted_left (pass a.time L).clock k r t in
            names_its_user c l.rest l.dead (rw l.table_is at w)

    -- service or ticket absent: nothing is spent
    lacking : (is_empty q.service || is_empty q.ticket) ≡ true → Goes (step t (failed v InvalidRequest))
    unfolding read_request note
    lacking z = rw z (failed_ok t InvalidRequest (shows a no_showing _ _) R refl refl refl refl)

    shown_is_spent : {s : Step} → ShownCourse v q (bring a) t s → Goes s
    shown_is_spent (lacks z) = lacking z
    shown_is_spent (none z e) = burnt_ok z t InvalidTicket (reach_unburnt R q.ticket (eq-eqb (ticket_slot q.ticket t) 0 e))
    shown_is_spent (spends z l c) = burnt_or_rightful z (some_slot (ticket_slot q.ticket t) l.some) c

    pub given_ok : Goes (validate v (Given q) (bring a) t)
    unfolding validate
    given_ok = shown_is_spent (shown_course v q (bring a) t)

  pub malformed_ok : Ok K L at (quiet a false) (validate v Malformed (bring a) t)
  unfolding validate note
  malformed_ok = failed_ok t InvalidRequest (quiet a false) R refl refl refl refl
