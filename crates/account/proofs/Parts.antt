-- One part of what a call says beside one edit of the table: each is reached from where the history stood. Assumes nothing.
use mathlib.Core.Path.{◌≡◌, refl, sym, ap, ◌∙◌}
use mathlib.Core.Logic.{◌≢◌}
use mathlib.Core.Bool.{Bool, true, false, ◌&&◌, not}
use mathlib.Core.List.{List, [], ◌∷◌, Memᴰ}
use Prim.Native.Nat.{ℕ, zero, suc, ◌+◌, ◌≤◌, ◌<◌, max}
use native.Mathlib.Omega.{arith}
use native.Mathlib.Decide.{ℕ_discrete}
use borrow.Author.Tests.{lt-ltb, eq-eqb, eqb-true, eqb-false}
use lib.ListN.{get_or, set, get_or-map}
use lib.Seq.{get_or-set_same, get_or-set_other}
use lib.Dec.{eqb, ltb}
use Rattle.protocol.specs.Bytes.{if, ascii, is_empty, same}
use Rattle.protocol.specs.Tickets.{iou_text, a_login, a_session, a_service, a_proxy, a_waiting, a_grant, lifetime}
use Rattle.protocol.specs.Records.{Rec, free_rec, name_of}
use Rattle.protocol.specs.Table.{Table, rec_at}
use Rattle.protocol.specs.Answers.{success_text}
use Rattle.protocol.specs.Steps.{tick, clear, put, remove, end_session, is_named, slot_named, session_of, ticket_slot, waiting_slot, new_rec, new_session, new_service, add, chain_of, proxy_parent, turned}
use Rattle.protocol.proofs.Laws.{both, same-eq, same_refl}
use Rattle.protocol.proofs.Added.{Room}
use Rattle.protocol.proofs.Searches.{nonzero}
use Rattle.account.specs.History.{Text}
use Rattle.account.specs.Reading.{Credentials, Showing, Said}
use Rattle.account.specs.Notebook.{accepted, burnt, ended, expired, spent, Line, Notebook, login_line, session_line, is_line, is_ticket, is_ticket_line, is_waiting_line, of_session, is_found, look, close_all, raise_all, enter, enter_under, pass, sign_on}
use Rattle.account.specs.Truth.{Opener, Origin, Granting, Known, of, login_origin, grant_origin}
use Rattle.account.specs.Account.{one, Rightful, Welcome, Settlement}
use Rattle.account.proofs.Base.{Case, is, isnt, case, clash, untrue, is_held}
use Rattle.account.proofs.Sim.{Slot, bare, no_slot, on, alive, lives, Above, Up, up_of, Under, Placed, login, session, below, origin_of, Granted, Sim}
use Rattle.account.proofs.Edits.{alive_time, ticket_among, under_of, home_lives, signed_keeps}
use Rattle.account.proofs.Look.{seen, rec_of, live_inside, Tied, tied_aged, rec_on, Hit, is_ticket_named, is_waiting_of, hit_named, hit_slot, miss_named, hit_ticket, miss_ticket, hit_waiting, ticket_kind, waiting_kind, named_kind, named_name}
use Rattle.account.proofs.Tables.{put_slots, tied_none, tied_remove, tied_left, some_slot, left_good, tied_pass, tied_clear}
use Rattle.account.proofs.Sessions.{end_some, end_none, tied_raise}
use Rattle.account.proofs.Making.{new_text, new_ref, slot_text, slot_ref, tied_login, tied_session, session_source, under_source, tied_under}
use Rattle.account.proofs.Balance.{Books, close_books, login_books, enter_books, ticket_books, welcome_books, callback_books, raise_books, refuse_books}
use Rattle.account.proofs.Reached.{Reached, passed, lasts, opens, issues, accepts, wins, makes, of_there, told_lasts, told_opens, told_issues, told_makes, told_still}
use Rattle.account.proofs.Texts.{name_some, new_some}
use Rattle.account.proofs.Chains.{user_ok, since_ok, chain_ok, depth_ok, ticket_up, waiting_up}
use Rattle.account.proofs.Documents.{document_tells}

-- a grant that a showing makes, of a ticket that comes from o
abbrev made_from : Showing → Origin → Granting
made_from x o = record { ticket = x.ticket; iou = x.iou; url = x.url; from = o }

-- a table as it was, put together again
tied_same : {K : Known} (L : Notebook) (t : Table) → Tied K L t → Tied K L (remove 0 t)
tied_same L t w = record { A = w.A; n = w.n; slots_are = w.slots_are; clock_is = w.clock_is; next_is = w.next_is; sim = w.sim }

-- a session's line names the user of its record
session_user : (A : List Slot) (a : Slot) → Placed A a → a.r.kind ≡ 2 → a.e.user ≡ a.r.text
session_user A a (login k s) e = absurd (omega arith)
session_user A a (session k s n u v w) e = u
session_user A a (below k u) e = absurd (omega arith)

-- a line that is no login ticket of this text
unlike_login : (lt : Text) (e : Line) → is_line a_login lt e ≡ false → e.kind ≡ 1 → same lt e.name ≡ false
unlike_login lt e z k = untrue (same lt e.name) (λ y. clash {b = is_line a_login lt e} (let n : e.name ≡ lt = sym (same-eq lt e.name y) in rw (k, n) (same_refl lt)) z)

module _ {K : Known} {L : Notebook} {t : Table} (R : Reached K L t) where
  pub reach_pass : (time : ℕ) → Reached (passed time K) (pass time L) (tick time t)
  unfolding pass close_all
  reach_pass time =
      record {
        tied = tied_aged (tied_pass L t time R.tied) (λ i l d. told_still d (max K.clock time) K.issued K.accepted K.successful);
        clock_eq = ap (λ (c : ℕ). max c time) R.clock_eq;
        books = close_books R.books expired _ refl refl refl;
      }

  pub reach_clear : Reached K L (clear t)
  reach_clear = record { tied = tied_clear L t R.tied; clock_eq = R.clock_eq; books = R.books }

  pub reach_show : Room t → (random : List ℕ)
      → (let r = new_rec a_login 0 0 0 0 [] random t in Reached (lasts (name_of r) (K.clock + lifetime a_login) K) (enter (login_line (name_of r) L.clock) L) (add r t))
  unfolding enter new_rec
  reach_show m random =
      let r : Rec = new_rec a_login 0 0 0 0 [] random t in
      let w = tied_aged R.tied (λ i l d. told_lasts d (name_of r) _ (λ k. slot_text L t R.tied m.serial r refl (omega arith) (omega arith) i l)) in
      record {
        tied = tied_login L t w m random (of_there (name_of r) _ K.login (new_some a_login 0 0 0 0 [] random t (omega arith) (omega arith)) ∙ ap (λ (c : ℕ). c + lifetime a_login) (sym R.clock_eq));
        clock_eq = R.clock_eq;
        books = enter_books R.books _ (new_text L t R.tied m.serial r refl (omega arith) (omega arith)) refl refl;
      }

  -- A sign-on spends its login ticket
  module _ (cookie : Text) (c : Credentials) where
    abbrev login_slot : ℕ
    login_slot = slot_named a_login c.lt t

    abbrev spent_l : Notebook
    spent_l = close_all spent (is_line a_login c.lt) L

    spent_tied : Tied (lasts c.lt 0 K) spent_l (remove login_slot t)
    unfolding close_all
    spent_tied = go (case (eqb login_slot 0))
      where
        go : Case (eqb login_slot 0) → Tied (lasts c.lt 0 K) spent_l (remove login_slot t)
        go (is z) =
            let e : login_slot ≡ 0 = eqb-true login_slot 0 z in
            let x = miss_named L t R.tied a_login c.lt refl z in
            let w = tied_aged R.tied (λ i l d. told_lasts d c.lt 0 (λ k. unlike_login c.lt (on R.tied.A i).e (x.all i l) ((R.tied.sim.good i l).kind_eq ∙ k))) in
            rw e (tied_same spent_l t (tied_none L t w (is_line a_login c.lt) spent refl x))
        go (isnt z) = tied_aged v.0 (λ i l d. told_lasts d c.lt 0 (λ k. unlike_login c.lt (on v.0.A i).e (other i l) ((v.0.sim.good i l).kind_eq ∙ k)))
          where
            x : Hit L R.tied.A login_slot (is_named L.clock a_login c.lt) (is_line a_login c.lt)
            x = hit_named L t R.tied a_login c.lt refl z

            kind : (on R.tied.A login_slot).r.kind ≡ 1
            kind = named_kind L.clock a_login c.lt (on R.tied.A login_slot).r x.passes

            v : (v : Tied K spent_l (remove login_slot t)) × (v.A ≡ set R.tied.A login_slot no_slot) × (v.n ≡ R.tied.n)
            v = tied_left L t R.tied login_slot x.live (λ e. omega (arith, kind)) (λ e. omega (arith, kind)) free_rec refl (is_line a_login c.lt) spent refl x.picked x.others

            other : (i : ℕ) → lives L.clock v.0.A i ≡ true → is_line a_login c.lt (on v.0.A i).e ≡ false
            other i = rw v.1 (by i (ℕ_discrete i login_slot))
              where
                by : (i : ℕ) → Dec (i ≡ login_slot) → lives L.clock (set R.tied.A login_slot no_slot) i ≡ true → is_line a_login c.lt (on (set R.tied.A login_slot no_slot) i).e ≡ false
                by i (yes e) = rw (e, get_or-set_same R.tied.A login_slot no_slot no_slot (live_inside L.clock R.tied.A login_slot x.live)) (λ l. refl)
                by i (no ne) = rw (get_or-set_other R.tied.A login_slot i no_slot no_slot ne) (λ l. x.others i l ne)

    login_found : is_found (look (is_line a_login c.lt) L.book) ≡ not (eqb login_slot 0)
    login_found = go (case (eqb login_slot 0))
      where
        go : Case (eqb login_slot 0) → is_found (look (is_line a_login c.lt) L.book) ≡ not (eqb login_slot 0)
        go (is z) = rw (z, (miss_named L t R.tied a_login c.lt refl z).line)
        go (isnt z) = rw (z, (hit_named L t R.tied a_login c.lt refl z).line)

    -- and it was live
    pub spend_live : eqb login_slot 0 ≡ false → ltb K.clock (K.login c.lt) ≡ true
    spend_live z =
        let x = hit_named L t R.tied a_login c.lt refl z in
        let a : Slot = on R.tied.A login_slot in
        let g = R.tied.sim.good login_slot x.live in
        let n : a.e.name ≡ c.lt = g.name_eq ∙ named_name L.clock a_login c.lt a.r x.passes in
        let u : K.login c.lt ≡ a.e.expiry = rw n at (g.told.login (named_kind L.clock a_login c.lt a.r x.passes)) in
        lt-ltb K.clock (K.login c.lt) (omega (arith, R.clock_eq, g.expiry_eq, alive_time L.clock a.r x.live))

    signed : {t' : Table} → Tied (lasts c.lt 0 K) (sign_on cookie c L) t' → Reached (lasts c.lt 0 K) (sign_on cookie c L) t'
    unfolding close_all
    signed w =
        let s = login_books R.books c.lt in
        record {
          tied = w;
          clock_eq = signed_keeps (λ (n : Notebook). n.clock ≡ K.clock) cookie c L R.clock_eq R.clock_eq;
          books = signed_keeps (λ (n : Notebook). Books K.called K.issued K.accepted K.successful n.book) cookie c L s (close_books s ended (of_session cookie) refl refl refl);
        }

    -- without accepted credentials that is all
    pub reach_unsigned : c.given && not (eqb login_slot 0) ≡ false → Reached (lasts c.lt 0 K) (sign_on cookie c L) (remove login_slot t)
    reach_unsigned z = signed (rw (login_found, z) spent_tied)

    -- with them, the session of another user ends
    module _ (given : c.given ≡ true) (shown : eqb login_slot 0 ≡ false) where
      pub reach_fresh : eqb (session_of cookie (remove login_slot t)) 0 ≡ true → Reached (lasts c.lt 0 K) (sign_on cookie c L) (remove login_slot t)
      reach_fresh e = signed (rw (login_found, given, shown, (miss_named spent_l (remove login_slot t) spent_tied a_session cookie refl e).line) spent_tied)

      module _ (e : eqb (session_of cookie (remove login_slot t)) 0 ≡ false) where
        abbrev s : ℕ
        s = session_of cookie (remove login_slot t)

        owner : Hit spent_l spent_tied.A s (is_named spent_l.clock a_session cookie) (is_line a_session cookie)
        owner = hit_named spent_l (remove login_slot t) spent_tied a_session cookie refl e

        owned_by : (rec_at s (remove login_slot t).slots).text ≡ (on spent_tied.A s).e.user
        owned_by =
            rw (rec_on spent_l (remove login_slot t) spent_tied s)
            (sym (session_user spent_tied.A (on spent_tied.A s) (spent_tied.sim.good s owner.live).placed (named_kind spent_l.clock a_session cookie (on spent_tied.A s).r owner.passes)))

        pub reach_kept : same (rec_at s (remove login_slot t).slots).text c.user ≡ true → Reached (lasts c.lt 0 K) (sign_on cookie c L) (remove login_slot t)
        reach_kept own = signed (rw (login_found, given, shown, owner.line, rw owned_by at own) spent_tied)

        pub reach_changed : same (rec_at s (remove login_slot t).slots).text c.user ≡ false → Reached (lasts c.lt 0 K) (sign_on cookie c L) (end_session s (remove login_slot t))
        reach_changed other = signed (rw (login_found, given, shown, owner.line, rw owned_by at other) (end_some spent_l (remove login_slot t) spent_tied cookie e))

  ends : {t' : Table} (cookie : Text) → Tied K (close_all ended (of_session cookie) L) t' → Reached K (close_all ended (of_session cookie) L) t'
  unfolding close_all
  ends cookie w = record { tied = w; clock_eq = R.clock_eq; books = close_books R.books ended (of_session cookie) refl refl refl }

  pub reach_end : (cookie : Text) → eqb (session_of cookie t) 0 ≡ false → Reached K (close_all ended (of_session cookie) L) (end_session (session_of cookie t) t)
  reach_end cookie e = ends cookie (end_some L t R.tied cookie e)

  pub reach_unended : (cookie : Text) → eqb (session_of cookie t) 0 ≡ true → Reached K (close_all ended (of_session cookie) L) t
  reach_unended cookie e = ends cookie (end_none L t R.tied cookie e)

  pub reach_open : Room t → (user random : List ℕ)
      → (let r = new_session user random t in Reached (opens (name_of r) user K) (enter (session_line (name_of r) user L.clock) L) (add r t))
  unfolding enter new_rec
  reach_open m user random =
      let r : Rec = new_session user random t in
      let w = tied_aged R.tied (λ i l d. told_opens d (name_of r) user (slot_text L t R.tied m.serial r refl (omega arith) (omega arith) i l)) in
      record {
        tied = tied_session L t w m user random (of_there (name_of r) _ K.opener (new_some a_session 0 0 0 0 user random t (omega arith) (omega arith)) ∙ ap (λ (c : ℕ). record { user = user; since = c }) (sym R.clock_eq));
        clock_eq = R.clock_eq;
        books = enter_books R.books _ (new_text L t R.tied m.serial r refl (omega arith) (omega arith)) refl refl;
      }

  -- the session in slot s, which the cookie names
  module _ (s : ℕ) (cookie : Text) (named : is_named t.clock a_session cookie (rec_at s t.slots) ≡ true) where
    its_hit : Hit L R.tied.A s (is_named L.clock a_session cookie) (is_line a_session cookie)
    its_hit = hit_slot L t R.tied a_session cookie refl s (rw (R.tied.clock_is, rec_on L t R.tied s) at named)

    its_kind : (on R.tied.A s).r.kind ≡ 2
    its_kind = named_kind L.clock a_session cookie (on R.tied.A s).r its_hit.passes

    its_opener : K.opener cookie ≡ record { user = (on R.tied.A s).e.user; since = (on R.tied.A s).o.since }
    its_opener =
        let g = R.tied.sim.good s its_hit.live in
        let n : (on R.tied.A s).e.name ≡ cookie = g.name_eq ∙ named_name L.clock a_session cookie (on R.tied.A s).r its_hit.passes in
        rw n at (g.told.opener its_kind)

    pub opened_by : (K.opener cookie).user ≡ (rec_at s t.slots).text
    opened_by = ap (λ (o : Opener). o.user) its_opener ∙ session_user R.tied.A (on R.tied.A s) (R.tied.sim.good s its_hit.live).placed its_kind ∙ sym (ap (λ (r : Rec). r.text) (rec_on L t R.tied s))

    -- a service ticket under it
    pub reach_issue : Room t → (mark : ℕ) (mk : Bool) → mark ≡ one mk → (service random : List ℕ) (o : Origin) → o ≡ login_origin service (K.opener cookie) mk
        → (let r = new_service mark s service random t in Reached (issues (name_of r) o K) (enter_under (look (is_line a_session cookie) L.book) a_service (name_of r) 0 L) (add r t))
    unfolding enter new_rec
    reach_issue m mark mk marked service random o o_is =
        let r : Rec = new_service mark s service random t in
        let a : Slot = on R.tied.A s in
        let w = tied_aged R.tied (λ i l d. told_issues d (name_of r) o (slot_text L t R.tied m.serial r refl (omega arith) (omega arith) i l)) in
        let known : of (name_of r) o K.origin (name_of r) ≡ login_origin service (record { user = a.e.user; since = a.o.since }) mk =
        of_there (name_of r) o K.origin (new_some a_service mark s s 0 service random t (omega arith) (omega arith)) ∙ o_is ∙ ap (λ (x : Opener). login_origin service x mk) its_opener in
        rw its_hit.line
        (record {
          tied =
              tied_under L t w m s its_hit.live a.e a.o.since (session_source w.A w.n s (w.sim.good s its_hit.live) its_kind) a_service mark s 0 service random [] mk 0
              (omega arith) (omega arith) (omega arith) marked (λ e. absurd (omega arith)) (omega arith) refl (λ e. absurd (omega arith))
              (record { login = λ x. absurd (omega arith); opener = λ x. absurd (omega arith); ticket = λ x. known; grant = λ x. absurd (omega arith); called = λ x. absurd (omega arith) });
          clock_eq = R.clock_eq;
          books = ticket_books R.books _ (new_text L t R.tied m.serial r refl (omega arith) (omega arith)) refl refl refl;
        })

  up_above : (A : List Slot) (k s : ℕ) (chain : List Text) → 1 ≤ k → Above A k s chain → Up A k s chain
  up_above A zero s chain l a = absurd (omega arith)
  up_above A (suc k) s chain l a = a

  -- the text of a grant that is found
  pub grant_some : (pgt : Text) → eqb (slot_named a_grant pgt t) 0 ≡ false → is_empty pgt ≡ false
  grant_some pgt e =
      let x = hit_named L t R.tied a_grant pgt refl e in
      let r : Rec = (on R.tied.A (slot_named a_grant pgt t)).r in
      let k = named_kind L.clock a_grant pgt r x.passes in
      rw (named_name L.clock a_grant pgt r x.passes) at (name_some r (omega arith) (omega arith))

  -- a proxy ticket by the grant in slot k
  pub reach_proxy : Room t → (pgt : Text) → eqb (slot_named a_grant pgt t) 0 ≡ false → (target random : List ℕ)
      → (let r = new_rec a_proxy 0 (slot_named a_grant pgt t) (rec_at (slot_named a_grant pgt t) t.slots).session 0 target random t in
      Reached (issues (name_of r) (grant_origin target (K.grant pgt)) K) (enter_under (look (is_line a_grant pgt) L.book) a_proxy (name_of r) 0 L) (add r t))
  unfolding enter new_rec
  reach_proxy m pgt e target random =
      let k : ℕ = slot_named a_grant pgt t in
      let a : Slot = on R.tied.A k in
      let s : ℕ = a.r.session in
      let r : Rec = new_rec a_proxy 0 k s 0 target random t in
      let o : Origin = grant_origin target (K.grant pgt) in
      let w = tied_aged R.tied (λ i l d. told_issues d (name_of r) o (slot_text L t R.tied m.serial r refl (omega arith) (omega arith) i l)) in
      let x = hit_named L t R.tied a_grant pgt refl e in
      let kind = named_kind L.clock a_grant pgt a.r x.passes in
      let g = R.tied.sim.good k x.live in
      let u = under_of R.tied.A a g.placed (omega arith) in
      let above : Above R.tied.A k s (a.o.text ∷ a.o.chain) = record { grants = kind; its_session = refl; even = u.lasts kind; linked = rw g.text_eq } in
      let n : a.e.name ≡ pgt = g.name_eq ∙ named_name L.clock a_grant pgt a.r x.passes in
      let by : Granted (K.grant pgt) a.e.user a.o = rw n at (g.told.grant (omega arith)) in
      let told : Origin = record { issued = true; service = target; user = a.e.user; since = a.o.since; chain = a.o.text ∷ a.o.chain; proxied = true; credentials = false } in
      let told_is : o ≡ told = rw (by.user_eq, by.since_eq, by.url_eq, by.chain_eq) in
      let known : of (name_of r) o K.origin (name_of r) ≡ told =
      of_there (name_of r) o K.origin (new_some a_proxy 0 k s 0 target random t (omega arith) (omega arith)) ∙ told_is in
      rw (x.line, rec_on L t R.tied k)
      (record {
        tied =
            tied_under L t w m s (home_lives L.clock w.A a u (alive_time L.clock a.r x.live)) a.e a.o.since (under_source w.A a u)
            a_proxy 0 k 0 target random (a.o.text ∷ a.o.chain) false 0
            (omega arith) (omega arith) (omega arith) refl (λ z. absurd (omega arith)) (omega arith)
            (up_above w.A k s _ (nonzero k (eqb-false k 0 e)) above) (λ z. absurd (omega arith))
            (record { login = λ z. absurd (omega arith); opener = λ z. absurd (omega arith); ticket = λ z. known; grant = λ z. absurd (omega arith); called = λ z. absurd (omega arith) });
        clock_eq = R.clock_eq;
        books = ticket_books R.books _ (new_text L t R.tied m.serial r refl (omega arith) (omega arith)) refl refl refl;
      })

  -- The ticket in slot k has been shown
  burns : {t' : Table} (ticket : Text) → Tied K (close_all burnt (is_ticket_line ticket) L) t' → Reached K (close_all burnt (is_ticket_line ticket) L) t'
  unfolding close_all
  burns ticket w = record { tied = w; clock_eq = R.clock_eq; books = close_books R.books burnt (is_ticket_line ticket) refl refl refl }

  pub reach_unburnt : (ticket : Text) → eqb (ticket_slot ticket t) 0 ≡ true → Reached K (close_all burnt (is_ticket_line ticket) L) t
  reach_unburnt ticket e = burns ticket (tied_none L t R.tied (is_ticket_line ticket) burnt refl (miss_ticket L t R.tied ticket e))

  module _ (x : Showing) (e : eqb (ticket_slot x.ticket t) 0 ≡ false) where
    abbrev ticket : Text
    ticket = x.ticket

    abbrev k : ℕ
    k = ticket_slot ticket t

    abbrev a : Slot
    a = on R.tied.A k

    hits : Hit L R.tied.A k (is_ticket_named L.clock ticket) (is_ticket_line ticket)
    hits = hit_ticket L t R.tied ticket e

    its_line : Memᴰ a.e L.book × (is_held a.e.fate ≡ true) × (is_ticket_line ticket a.e ≡ true)
    its_line = seen (is_ticket_line ticket) L.book a.e hits.line

    is_ticket_lem : is_ticket a.r.kind ≡ true
    is_ticket_lem = ticket_kind L t R.tied ticket a.r hits.passes

    low : 3 ≤ a.r.kind
    low = (ticket_among a.r.kind is_ticket_lem).0

    high : a.r.kind ≤ 4
    high = (ticket_among a.r.kind is_ticket_lem).1

    no_session : a.r.kind ≢ 2
    no_session x = omega (arith, low)

    no_grant : a.r.kind ≢ 6
    no_grant x = omega (arith, high)

    its_origin : K.origin ticket ≡ origin_of a
    its_origin =
        let n : a.e.name ≡ ticket = same-eq a.e.name ticket (both (is_ticket a.e.kind) (same a.e.name ticket) hits.picked).1 in
        rw n at ((R.tied.sim.good k hits.live).told.ticket is_ticket_lem)

    pub reach_burn : Reached K (close_all burnt (is_ticket_line ticket) L) (remove k t)
    reach_burn = burns ticket (tied_remove L t R.tied k hits.live no_session no_grant (is_ticket_line ticket) burnt refl hits.picked hits.others)

    -- accepted: what is known of it is what the record says
    pub rightful : (eqb (rec_at k t.slots).kind a_proxy ≡ true → x.path ≡ ascii "/cas/proxyValidate") → (x.renew ≡ true → eqb (rec_at k t.slots).mark 0 ≡ false) → (rec_at k t.slots).text ≡ x.service
        → Rightful x (K.origin ticket) L
    rightful taken marked meant =
        let g = R.tied.sim.good k hits.live in
        let r = rec_on L t R.tied k in
        let m : x.renew ≡ true → eqb a.r.mark 0 ≡ false = rw r at marked in
        rw its_origin
        (record {
          was_held = rw hits.line;
          issued = refl;
          its_service = g.text_eq ∙ (rw r at meant);
          primary = λ y. marked_line a.o.mark (rw (g.mark_eq (omega (arith, high))) at (m y));
          allowed = rw r at taken;
        })
      where
        marked_line : (b : Bool) → eqb (one b) 0 ≡ false → b ≡ true
        marked_line true z = refl
        marked_line false z = absurd (clash refl z)

    -- the table in which it has left a record that has no line
    module _ (rest : Rec) (dead : alive L.clock rest ≡ false) where
      abbrev A' : List Slot
      A' = set R.tied.A k (bare rest)

      abbrev t' : Table
      t' = put k rest t

      left : (v : Tied K (close_all accepted (is_ticket_line ticket) L) t') × (v.A ≡ A') × (v.n ≡ R.tied.n)
      left = tied_left L t R.tied k hits.live no_session no_grant rest dead (is_ticket_line ticket) accepted refl hits.picked hits.others

      rec_after : (j : ℕ) → rec_at j t'.slots ≡ (on A' j).r
      rec_after j =
          ap (λ (l : List Rec). get_or l j free_rec) (put_slots t.slots R.tied.A k (bare rest) R.tied.slots_are (some_slot L t R.tied k hits.live no_session no_grant))
          ∙ get_or-map rec_of A' j no_slot

      sim_after : Sim K (close_all accepted (is_ticket_line ticket) L) A' R.tied.n
      sim_after = let v = left in rw (v.1, v.2) at v.0.sim

      under_after : Under A' a
      under_after = under_of A' a (left_good L t R.tied k hits.live no_session no_grant rest dead).placed low

      live_still : L.clock < a.r.expiry
      live_still = alive_time L.clock a.r hits.live

      -- what the table says of it, by what is known
      told_of : success_text (rec_at (rec_at k t.slots).session t'.slots).text (rec_at (rec_at k t.slots).session t'.slots).since (rec_at k t.slots).mark [] (chain_of (proxy_parent (rec_at k t.slots)) t'.slots)
          ≡ success_text a.e.user a.o.since (one a.o.mark) [] a.o.chain
      unfolding close_all
      told_of =
          let user = user_ok _ A' R.tied.n sim_after t'.slots rec_after a under_after live_still in
          let since = since_ok _ A' R.tied.n sim_after t'.slots rec_after a under_after live_still in
          let chain = chain_ok _ A' R.tied.n sim_after t'.slots rec_after a under_after live_still (proxy_parent a.r) (ticket_up a.r is_ticket_lem) in
          rw (rec_on L t R.tied k, user, since, chain, (R.tied.sim.good k hits.live).mark_eq (omega (arith, high)))

      pub welcome : (said : Text)
          → said ≡ if (same x.path (ascii "/cas/validate")) (ascii "yes\n") (success_text (rec_at (rec_at k t.slots).session t'.slots).text (rec_at (rec_at k t.slots).session t'.slots).since (rec_at k t.slots).mark [] (chain_of (proxy_parent (rec_at k t.slots)) t'.slots))
          → Welcome x.path said (K.origin ticket)
      welcome said bytes =
          let b : said ≡ if (same x.path (ascii "/cas/validate")) (ascii "yes\n") (success_text a.e.user a.o.since (one a.o.mark) [] a.o.chain) = rw told_of at bytes in
          rw its_origin (record { bytes = b; telling = λ z. let d : said ≡ success_text a.e.user a.o.since (one a.o.mark) [] a.o.chain = rw z at b in rw d (document_tells a.e.user a.o.since (one a.o.mark) [] a.o.chain) })

      pub reach_welcome : Reached (wins ticket (accepts ticket K)) (close_all accepted (is_ticket_line ticket) L) t'
      unfolding close_all
      reach_welcome =
          record {
            tied = tied_aged left.0 (λ i l d. told_still d K.clock K.issued (ticket ∷ K.accepted) (ticket ∷ K.successful));
            clock_eq = R.clock_eq;
            books = welcome_books R.books ticket a.e its_line.0 its_line.1 its_line.2;
          }

      abbrev waiting : List ℕ → List ℕ → Rec
      waiting url random =
          new_rec a_waiting (rec_at k t.slots).mark (proxy_parent (rec_at k t.slots)) (rec_at k t.slots).session ((rec_at (proxy_parent (rec_at k t.slots)) t'.slots).depth + 1) url random t'

      pub reach_callback : Room t' → (random : Text) → x.iou ≡ iou_text (waiting x.url random).iou
          → (let r = waiting x.url random in
          Reached (makes (name_of r) t.next (made_from x (K.origin ticket)) (accepts ticket K)) (enter_under (look (is_ticket_line ticket) L.book) a_waiting (name_of r) t.next (close_all accepted (is_ticket_line ticket) L)) (add r t'))
      unfolding enter new_rec close_all
      reach_callback m random iou-is =
          let d = left in
          let depth : ℕ = (rec_at (proxy_parent a.r) t'.slots).depth + 1 in
          let r : Rec = new_rec a_waiting a.r.mark (proxy_parent a.r) a.r.session depth x.url random t' in
          let g : Granting = made_from x (K.origin ticket) in
          let w = tied_aged d.0 (λ i l f. told_makes (told_still f K.clock K.issued (ticket ∷ K.accepted) K.successful) (name_of r) t.next g (slot_text _ t' d.0 m.serial r refl (omega arith) (omega arith) i l) (slot_ref _ t' d.0 m.serial i l)) in
          let u : Under d.0.A a = rw d.1 under_after in
          let rec : (j : ℕ) → rec_at j t'.slots ≡ (on d.0.A j).r = rw d.1 rec_after in
          let up = ticket_up a.r is_ticket_lem in
          let granted : Granted g a.e.user (record { since = a.o.since; text = x.url; chain = a.o.chain; mark = a.o.mark }) =
          rw its_origin (record { made = refl; url_eq = refl; user_eq = refl; since_eq = refl; chain_eq = refl; mark_eq = refl }) in
          rw (hits.line, rec_on L t R.tied k)
          (record {
            tied =
                tied_under (close_all accepted (is_ticket_line ticket) L) t' w m a.r.session (home_lives L.clock d.0.A a u live_still) a.e a.o.since (under_source d.0.A a u)
                a_waiting a.r.mark (proxy_parent a.r) depth x.url random a.o.chain a.o.mark t.next
                (omega arith) (omega arith) (omega arith) ((R.tied.sim.good k hits.live).mark_eq (omega (arith, high))) (λ z. refl) (omega arith) (rw up u.line)
                (λ z. rw up (depth_ok _ d.0.A d.0.n d.0.sim t'.slots rec a u live_still (up_of a.r) refl))
                (record {
                  login = λ z. absurd (omega arith);
                  opener = λ z. absurd (omega arith);
                  ticket = λ z. absurd (clash z refl);
                  grant = λ z. rw (of_there (name_of r) g K.grant (new_some a_waiting a.r.mark (proxy_parent a.r) a.r.session depth x.url random t' (omega arith) (omega arith))) granted;
                  called = λ z. rw (eq-eqb t.next t.next refl) (granted, iou-is);
                });
            clock_eq = R.clock_eq;
            books =
                callback_books R.books ticket a.e its_line.0 its_line.1 its_line.2 g refl _ (new_ref L t R.tied m.serial) (new_text L t R.tied m.serial r refl (omega arith) (omega arith)) refl refl refl;
          })

  -- The callback of a serial is settled
  module _ (x : Said) (e : eqb (waiting_slot x.serial t) 0 ≡ false) where
    abbrev j : ℕ
    j = waiting_slot x.serial t

    abbrev b : Slot
    b = on R.tied.A j

    waits : Hit L R.tied.A j (is_waiting_of L.clock x.serial) (is_waiting_line x.serial)
    waits = hit_waiting L t R.tied x.serial e

    waiting_line : Memᴰ b.e L.book × (is_held b.e.fate ≡ true) × (is_waiting_line x.serial b.e ≡ true)
    waiting_line = seen (is_waiting_line x.serial) L.book b.e waits.line

    is_waiting_lem : b.r.kind ≡ 5
    is_waiting_lem = waiting_kind L t R.tied x.serial b.r waits.passes

    under : Under R.tied.A b
    under = under_of R.tied.A b (R.tied.sim.good j waits.live).placed (omega (arith, is_waiting_lem))

    its_callback : Granted (K.called x.serial) b.e.user b.o × ((K.called x.serial).iou ≡ iou_text b.r.iou)
    its_callback =
        let n : b.e.ref ≡ x.serial = eqb-true b.e.ref x.serial (both (eqb b.e.kind a_waiting) (eqb b.e.ref x.serial) waits.picked).1 in
        rw n at ((R.tied.sim.good j waits.live).told.called is_waiting_lem)

    pub settlement : x.said ≡ success_text (rec_at (rec_at j t.slots).session t.slots).text (rec_at (rec_at j t.slots).session t.slots).since (rec_at j t.slots).mark (if x.outcome (iou_text (rec_at j t.slots).iou) []) (chain_of (rec_at j t.slots).parent t.slots)
        → Settlement x (K.called x.serial) L
    settlement bytes =
        let w = R.tied in
        let r = rec_on L t w j in
        let live : L.clock < b.r.expiry = alive_time L.clock b.r waits.live in
        let user = user_ok L w.A w.n w.sim t.slots (rec_on L t w) b under live in
        let since = since_ok L w.A w.n w.sim t.slots (rec_on L t w) b under live in
        let mark : b.r.mark ≡ one b.o.mark = (w.sim.good j waits.live).mark_eq (omega (arith, is_waiting_lem)) in
        let chain = chain_ok L w.A w.n w.sim t.slots (rec_on L t w) b under live b.r.parent (waiting_up b.r is_waiting_lem) in
        let iou : Text = if x.outcome (iou_text b.r.iou) [] in
        let said : x.said ≡ success_text b.e.user b.o.since (one b.o.mark) iou b.o.chain = rw (r, user, since, mark, chain) at bytes in
        let g = its_callback.0 in
        record {
          waited = rw waits.line;
          made = g.made;
          bytes = rw (g.user_eq, g.since_eq, g.mark_eq, g.chain_eq, its_callback.1) said;
          telling = rw (g.user_eq, g.chain_eq, said) (document_tells b.e.user b.o.since (one b.o.mark) iou b.o.chain);
        }

    pub reach_granted : Reached (wins (K.called x.serial).ticket K) (raise_all (is_waiting_line x.serial) L) (put j (turned a_grant (rec_at j t.slots) t.slots) t)
    unfolding raise_all
    reach_granted =
        record {
          tied = tied_aged (tied_raise L t R.tied x.serial e) (λ i l d. told_still d K.clock K.issued K.accepted ((K.called x.serial).ticket ∷ K.successful));
          clock_eq = R.clock_eq;
          books = raise_books R.books x.serial b.e waiting_line.0 waiting_line.1 waiting_line.2;
        }

    pub reach_refused : Reached (wins (K.called x.serial).ticket K) (close_all spent (is_waiting_line x.serial) L) (remove j t)
    unfolding close_all
    reach_refused =
        record {
          tied =
              tied_aged
              (tied_remove L t R.tied j waits.live (λ x. omega (arith, is_waiting_lem)) (λ x. omega (arith, is_waiting_lem)) (is_waiting_line x.serial) spent refl waits.picked waits.others)
              (λ i l d. told_still d K.clock K.issued K.accepted ((K.called x.serial).ticket ∷ K.successful));
          clock_eq = R.clock_eq;
          books = refuse_books R.books x.serial b.e waiting_line.0 waiting_line.1 waiting_line.2;
        }
