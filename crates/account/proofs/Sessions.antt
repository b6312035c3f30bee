-- A session ends with all that stands under it, and a waiting grant becomes a grant: the table stays tied to the notebook. Assumes nothing.
use mathlib.Core.Path.{◌≡◌, refl, sym, ◌∙◌}
use mathlib.Core.Logic.{◌≢◌}
use mathlib.Core.Bool.{Bool, true, false, not, ◌&&◌, ◌||◌}
use mathlib.Core.List.{List, map}
use Prim.Native.Nat.{ℕ, suc, ◌≤◌, ◌<◌}
use native.Mathlib.Omega.{arith}
use native.Mathlib.Decide.{ℕ_discrete}
use borrow.Author.Tests.{eq-eqb, ne_eqb, eqb-true, eqb-false}
use lib.ListN.{length, set, length-map, length-set}
use lib.Seq.{get_or-set_same, get_or-set_other}
use lib.Dec.{eqb}
use Rattle.protocol.specs.Bytes.{same, zeros}
use Rattle.protocol.specs.Tickets.{ticket_text, a_login, a_session, a_grant}
use Rattle.protocol.specs.Records.{Rec, free_rec, name_of, live}
use Rattle.protocol.specs.Table.{Table, rec_at}
use Rattle.protocol.specs.Steps.{put, end_rec, end_session, session_of, turned, waiting_slot}
use Rattle.protocol.proofs.Laws.{same-eq, same_refl, one_test, or_both}
use Rattle.account.specs.History.{Text}
use Rattle.account.specs.Notebook.{ended, Notebook, close_all, raise_line, raise_all, nothing, look, is_line, is_waiting_line, of_session}
use Rattle.account.specs.Truth.{Known}
use Rattle.account.proofs.Base.{if-same, clash, or_no, raise}
use Rattle.account.proofs.Sim.{Slot, no_slot, on, alive, lives, up_of, Under, Placed, login, session, below, Good}
use Rattle.account.proofs.Edits.{raise_name, raise_ref, alive_time, alive_is, under_of, home_lives, up_grants, sim_drop, sim_change}
use Rattle.account.proofs.Look.{Tied, live_inside, rec_on, live_some, same_name, look_no, Miss, hit_named, miss_named, hit_waiting, waiting_kind, named_kind, named_name}
use Rattle.account.proofs.Tables.{put_slots, on_rec, on_map, map_slots, tied_none, some_slot}

end_free : (s : ℕ) → end_rec s free_rec ≡ free_rec
end_free s = if-same (eqb 0 s) free_rec

-- a session's own record names no session
session_free : (A : List Slot) (a : Slot) → Placed A a → a.r.kind ≡ 2 → a.r.session ≡ 0
session_free A a (login k s) h = absurd (omega arith)
session_free A a (session k s n u v t) h = s
session_free A a (below k u) h = absurd (omega arith)

-- The session in slot s
module _ {K : Known} (L : Notebook) (t : Table) (w : Tied K L t) (s : ℕ) (ls : lives L.clock w.A s ≡ true) (ks : (on w.A s).r.kind ≡ 2) where
  goes : ℕ → Bool
  goes i = eqb i s || eqb (on w.A i).r.session s

  rest : List Slot
  rest = set (map (on_rec (end_rec s)) w.A) s no_slot

  inside : s < length (map (on_rec (end_rec s)) w.A)
  inside = rw (length-map w.A (on_rec (end_rec s))) (live_inside L.clock w.A s ls)

  some : 1 ≤ s
  some = live_some L t w s ls

  rest_keep : (i : ℕ) → goes i ≡ false → on rest i ≡ on w.A i
  unfolding goes rest
  rest_keep i z =
      let p = or_both (eqb i s) (eqb (on w.A i).r.session s) z in
      get_or-set_other (map (on_rec (end_rec s)) w.A) s i no_slot no_slot (eqb-false i s p.0) ∙ on_map (end_rec s) (end_free s) w.A i ∙ rw p.1

  rest_gone : (i : ℕ) → goes i ≡ true → lives L.clock rest i ≡ false
  unfolding goes rest
  rest_gone i z = go (ℕ_discrete i s)
    where
      go : Dec (i ≡ s) → lives L.clock rest i ≡ false
      go (yes e) = let h : on (set (map (on_rec (end_rec s)) w.A) s no_slot) i ≡ no_slot = rw e (get_or-set_same (map (on_rec (end_rec s)) w.A) s no_slot no_slot inside) in rw h
      go (no ne) =
          let y : eqb (on w.A i).r.session s ≡ true = rw (ne_eqb i s ne) at z in
          let h : on (set (map (on_rec (end_rec s)) w.A) s no_slot) i ≡ on_rec (end_rec s) (on w.A i) = get_or-set_other (map (on_rec (end_rec s)) w.A) s i no_slot no_slot ne ∙ on_map (end_rec s) (end_free s) w.A i in
          rw (h, y)

  agree : (i : ℕ) → lives L.clock w.A i ≡ true → of_session (name_of (on w.A s).r) (on w.A i).e ≡ goes i
  unfolding goes
  agree i l = rw g.kind_eq (go g.placed)
    where
      g : Good K w.A w.n (on w.A i)
      g = w.sim.good i l

      zero_other : eqb 0 s ≡ false
      zero_other = ne_eqb 0 s (λ e. omega (arith, some))

      -- the texts of two live sessions
      sessions : (j : ℕ) → lives L.clock w.A j ≡ true → same (name_of (on w.A j).r) (name_of (on w.A s).r) ≡ eqb j s
      sessions j lj =
          one_test (same (name_of (on w.A j).r) (name_of (on w.A s).r)) (eqb j s)
          (λ x.
          eq-eqb j s
          (w.sim.one j s lj ls
          (same_name L w.A w.n w.sim j s lj ls ((w.sim.good j lj).name_eq ∙ same-eq (name_of (on w.A j).r) (name_of (on w.A s).r) x ∙ sym (w.sim.good s ls).name_eq))))
          (λ x. rw (eqb-true j s x) (same_refl (name_of (on w.A s).r)))

      other_slot : (on w.A i).r.kind ≢ 2 → eqb i s ≡ false
      other_slot ne = ne_eqb i s (λ e. ne (rw e ks))

      go : Placed w.A (on w.A i) → (not (eqb (on w.A i).r.kind a_login) && same (on w.A i).e.session (name_of (on w.A s).r)) ≡ (eqb i s || eqb (on w.A i).r.session s)
      go (login k x) = rw (k, x, zero_other, other_slot (λ e. omega arith))
      go (session k x n u b v) = rw (k, x, zero_other, n, sessions i l) (sym (or_no (eqb i s)))
      go (below k u) =
          let z : eqb (on w.A i).r.kind a_login ≡ false = ne_eqb (on w.A i).r.kind 1 (λ e. omega arith) in
          rw (z, u.sess_eq, other_slot (λ e. omega arith), sessions (on w.A i).r.session (home_lives L.clock w.A (on w.A i) u (alive_time L.clock (on w.A i).r l)))

  homes : (i : ℕ) → lives L.clock w.A i ≡ true → Under w.A (on w.A i) → goes i ≡ false → goes (on w.A i).r.session ≡ false
  unfolding goes
  homes i l u z =
      let p = or_both (eqb i s) (eqb (on w.A i).r.session s) z in
      let h = session_free w.A _ (w.sim.good _ (home_lives L.clock w.A (on w.A i) u (alive_time L.clock (on w.A i).r l))).placed u.home in
      rw (p.1, h) (ne_eqb 0 s (λ e. omega (arith, some)))

  parents : (i k : ℕ) → lives L.clock w.A i ≡ true → Under w.A (on w.A i) → up_of (on w.A i).r ≡ suc k → goes i ≡ false → goes (suc k) ≡ false
  unfolding goes
  parents i k l u e z =
      let p = or_both (eqb i s) (eqb (on w.A i).r.session s) z in
      let g = up_grants w.A _ _ _ k u.line e in
      rw (g.1, p.1, ne_eqb (suc k) s (λ x. let y : (on w.A s).r.kind ≡ 6 = rw x at g.0 in omega arith))

  pub tied_ended : Tied K (close_all ended (of_session (name_of (on w.A s).r)) L) (end_session s t)
  unfolding close_all end_session rest
  tied_ended =
      record {
        A = rest;
        n = w.n;
        slots_are = put_slots (map (end_rec s) t.slots) (map (on_rec (end_rec s)) w.A) s no_slot (map_slots (end_rec s) (end_free s) t.slots w.A w.slots_are) some;
        clock_is = w.clock_is;
        next_is = w.next_is;
        sim =
            sim_drop L w.A rest w.n w.sim goes (of_session (name_of (on w.A s).r)) ended refl (length-set (map (on_rec (end_rec s)) w.A) s no_slot ∙ length-map w.A (on_rec (end_rec s))) rest_keep rest_gone
            agree homes parents;
      }

-- The session of a cookie ends, if it is live
module _ {K : Known} (L : Notebook) (t : Table) (w : Tied K L t) (cookie : Text) where
  pub end_some : eqb (session_of cookie t) 0 ≡ false → Tied K (close_all ended (of_session cookie) L) (end_session (session_of cookie t) t)
  end_some e =
      let h = hit_named L t w a_session cookie refl e in
      let n = named_name L.clock a_session cookie (on w.A (session_of cookie t)).r h.passes in
      rw n at (tied_ended L t w (session_of cookie t) h.live (named_kind L.clock a_session cookie (on w.A (session_of cookie t)).r h.passes))

  pub end_none : eqb (session_of cookie t) 0 ≡ true → Tied K (close_all ended (of_session cookie) L) t
  end_none e = tied_none L t w (of_session cookie) ended refl (record { line = look_all; all = all })
    where
      m : Miss L w.A (is_line a_session cookie)
      m = miss_named L t w a_session cookie refl e

      -- no live session has that text, so nothing stands under it
      unnamed : (j : ℕ) → lives L.clock w.A j ≡ true → (on w.A j).r.kind ≡ 2 → same (name_of (on w.A j).r) cookie ≡ false
      unnamed j lj k =
          let z = m.all j lj in
          rw ((w.sim.good j lj).kind_eq, (w.sim.good j lj).name_eq, k) at z

      all : (i : ℕ) → lives L.clock w.A i ≡ true → of_session cookie (on w.A i).e ≡ false
      all i l = rw (w.sim.good i l).kind_eq (go (w.sim.good i l).placed)
        where
          go : Placed w.A (on w.A i) → (not (eqb (on w.A i).r.kind a_login) && same (on w.A i).e.session cookie) ≡ false
          go (login k x) = rw k
          go (session k x n u b v) = rw (k, n, unnamed i l k)
          go (below k u) =
              let z : eqb (on w.A i).r.kind a_login ≡ false = ne_eqb (on w.A i).r.kind 1 (λ e. omega arith) in
              rw (z, u.sess_eq, unnamed (on w.A i).r.session (home_lives L.clock w.A (on w.A i) u (alive_time L.clock (on w.A i).r l)) u.home)

      look_all : look (of_session cookie) L.book ≡ nothing
      look_all = look_no L w.A w.n w.sim (of_session cookie) all

-- A waiting grant becomes a grant
-- both kinds have one prefix and one length of secret
grant_name : (r : Rec) → r.kind ≡ 5 → name_of r ≡ ticket_text 6 r.serial r.secret
unfolding name_of ticket_text
grant_name r k = rw k

-- the record that a waiting grant becomes, by the slots
raised : List Slot → Rec → Rec
raised A r =
    record {
      kind = a_grant;
      mark = 0;
      parent = r.parent;
      session = r.session;
      depth = r.depth;
      serial = r.serial;
      expiry = (on A r.session).r.expiry;
      secret = r.secret;
      text = r.text;
      iou = zeros 16;
      since = r.since;
    }

raised_is : {K : Known} (L : Notebook) (t : Table) (w : Tied K L t) (k : ℕ) → turned a_grant (rec_at k t.slots) t.slots ≡ raised w.A (on w.A k).r
unfolding turned raised
raised_is L t w k = rw (rec_on L t w k, rec_on L t w (on w.A k).r.session)

module _ {K : Known} (A : List Slot) (n : ℕ) (a : Slot) (g : Good K A n a) (k : a.r.kind ≡ 5) where
  abbrev grant_slot : Slot
  grant_slot = record { r = raised A a.r; e = raise a.e; o = a.o }

  waits_under : Under A a
  waits_under = under_of A a g.placed (omega arith)

  raised_up : up_of a.r ≡ a.r.parent
  raised_up = rw k

  raised_under : Under A grant_slot
  unfolding raised
  raised_under =
      let u = waits_under in
      record {
        home = u.home;
        sess_eq = u.sess_eq;
        user_eq = u.user_eq;
        since_eq = u.since_eq;
        until_eq = u.until_eq;
        within = omega arith;
        lasts = λ x. refl;
        line = rw raised_up at u.line;
        falls = λ x. rw raised_up at (u.falls (omega arith));
      }

  raised_good : Good K A n grant_slot
  unfolding raised name_of
  raised_good =
      record {
        kind_eq = refl;
        name_eq = g.name_eq ∙ grant_name a.r k;
        ref_eq = λ x. absurd (omega arith);
        expiry_eq = waits_under.until_eq;
        text_eq = g.text_eq;
        mark_eq = λ x. absurd (omega arith);
        fate_eq = g.fate_eq;
        young = g.young;
        placed = below (omega arith) raised_under;
        told = record { login = λ x. absurd (omega arith); opener = λ x. absurd (omega arith); ticket = λ x. absurd (clash x refl); grant = λ x. g.told.grant (omega arith); called = λ x. absurd (omega arith) };
      }

  raised_alive : (c : ℕ) → c < a.r.expiry → alive c grant_slot.r ≡ true
  unfolding raised
  raised_alive c h = alive_is c (raised A a.r) (omega arith, omega arith) (omega (arith, waits_under.within))

  raised_serial : grant_slot.r.serial ≡ a.r.serial
  unfolding raised
  raised_serial = refl

pub tied_raise : {K : Known} (L : Notebook) (t : Table) (w : Tied K L t) (serial : ℕ) → eqb (waiting_slot serial t) 0 ≡ false
    → Tied K (raise_all (is_waiting_line serial) L) (put (waiting_slot serial t) (turned a_grant (rec_at (waiting_slot serial t) t.slots) t.slots) t)
unfolding raise_all
tied_raise L t w serial e =
    let k : ℕ = waiting_slot serial t in
    let h = hit_waiting L t w serial e in
    let kind = waiting_kind L t w serial (on w.A k).r h.passes in
    let g = w.sim.good k h.live in
    let a : Slot = record { r = raised w.A (on w.A k).r; e = raise (on w.A k).e; o = (on w.A k).o } in
    record {
      A = set w.A k a;
      n = w.n;
      slots_are =
          rw (raised_is L t w k)
          (put_slots t.slots w.A k a w.slots_are (some_slot L t w k h.live (λ x. omega arith) (λ x. omega arith)));
      clock_is = w.clock_is;
      next_is = w.next_is;
      sim =
          sim_change L w.A w.n w.sim k (live_inside L.clock w.A k h.live) h.live kind a
          (raised_alive w.A w.n (on w.A k) g kind L.clock (alive_time L.clock (on w.A k).r h.live))
          (raised_serial w.A w.n (on w.A k) g kind)
          (raise_line (is_waiting_line serial)) (λ x z. rw (z, z)) (rw (g.fate_eq, h.picked))
          (λ j lj ne. rw ((w.sim.good j lj).fate_eq, h.others j lj ne))
          (raise_name _) (raise_ref _) (raised_good w.A w.n (on w.A k) g kind);
    }
