-- New records: the line that the notebook enters stands for the record that the table adds. Assumes nothing.
use mathlib.Core.Path.{◌≡◌, refl, sym, ap, ◌∙◌}
use mathlib.Core.Logic.{◌≢◌}
use mathlib.Core.Bool.{Bool, true, false}
use mathlib.Core.List.{List, [], Memᴰ}
use Prim.Native.Nat.{ℕ, suc, ◌+◌, ◌≤◌, min}
use native.Mathlib.Omega.{arith}
use borrow.Author.Tests.{ne_eqb}
use lib.Dec.{eqb}
use Rattle.protocol.specs.Bytes.{if, same}
use Rattle.protocol.specs.Tickets.{since_from, lifetime, a_login, a_session}
use Rattle.protocol.specs.Records.{Rec, name_of}
use Rattle.protocol.specs.Table.{Table}
use Rattle.protocol.specs.Steps.{expiry_for, new_rec, add}
use Rattle.protocol.proofs.Laws.{same-eq}
use Rattle.protocol.proofs.Added.{Room}
use Rattle.account.specs.History.{Text}
use Rattle.account.specs.Notebook.{Line, Notebook, enter, login_line, session_line, line_under}
use Rattle.account.specs.Truth.{Known}
use Rattle.account.specs.Account.{one}
use Rattle.account.proofs.Base.{is_held, clash, untrue, name_serial}
use Rattle.account.proofs.Sim.{Slot, plain, on, lives, Up, deep, Under, Placed, login, session, below, Told, Good, Before}
use Rattle.account.proofs.Edits.{alive_time, alive_is, before}
use Rattle.account.proofs.Look.{Tied, rec_on, zero_dead}
use Rattle.account.proofs.Tables.{serial_is, tied_add}

-- no line of the notebook has this text, or this number
abbrev pub New : Notebook → Text → Type 0
New L x = (e : Line) → Memᴰ e L.book → e.name ≢ x

abbrev pub NewRef : Notebook → ℕ → Type 0
NewRef L n = (e : Line) → Memᴰ e L.book → e.ref ≢ n

-- the next serial's text is new
module _ {K : Known} (L : Notebook) (t : Table) (w : Tied K L t) (h : 1 ≤ t.next) where
  unlike_before : {x : Text} → Before w.n x → (r : Rec) → r.serial ≡ t.next → 1 ≤ r.kind → r.kind ≤ 6 → x ≢ name_of r
  unfolding name_of
  unlike_before b r s lo hi x =
      let i = serial_is L t w h in
      let z : b.serial ≡ r.serial =
      name_serial b.kind r.kind b.serial r.serial b.secret r.secret b.some b.known lo hi (omega (arith, b.below)) (omega arith) (sym b.is_name ∙ x) in
      omega (arith, b.below)

  pub new_text : (r : Rec) → r.serial ≡ t.next → 1 ≤ r.kind → r.kind ≤ 6 → New L (name_of r)
  new_text r s lo hi e m = unlike_before (w.sim.old e m) r s lo hi

  pub new_ref : NewRef L t.next
  new_ref e m x =
      let i = serial_is L t w h in
      omega (arith, w.sim.refs e m)

  -- in the slots as well
  pub slot_text : (r : Rec) → r.serial ≡ t.next → 1 ≤ r.kind → r.kind ≤ 6 → (i : ℕ) → lives L.clock w.A i ≡ true → same (name_of r) (on w.A i).e.name ≡ false
  slot_text r s lo hi i l =
      untrue (same (name_of r) (on w.A i).e.name) (λ z. unlike_before (before L.clock (w.sim.good i l) l) r s lo hi (sym (same-eq (name_of r) (on w.A i).e.name z)))

  pub slot_ref : (i : ℕ) → lives L.clock w.A i ≡ true → (on w.A i).r.kind ≡ 5 → eqb t.next (on w.A i).e.ref ≡ false
  slot_ref i l k =
      let z = serial_is L t w h in
      let g = w.sim.good i l in
      ne_eqb t.next (on w.A i).e.ref (λ x. omega (arith, g.ref_eq k, g.young))

-- a record that stands under no session: a login ticket, or a session
module _ {K : Known} (L : Notebook) (t : Table) (w : Tied K L t) (m : Room t) where
  tied_top : (kind : ℕ) (text random : List ℕ) → 1 ≤ kind → kind ≤ 2 → 1 ≤ lifetime kind → (e : Line) (since : ℕ) → e.kind ≡ kind → e.name ≡ name_of (new_rec kind 0 0 0 0 text random t) → e.ref ≡ 0 → e.expiry ≡ L.clock + lifetime kind
      → is_held e.fate ≡ true → Placed w.A (record { r = new_rec kind 0 0 0 0 text random t; e = e; o = plain since text }) → Told K (record { r = new_rec kind 0 0 0 0 text random t; e = e; o = plain since text })
      → Tied K (enter e L) (add (new_rec kind 0 0 0 0 text random t) t)
  unfolding new_rec expiry_for
  tied_top kind text random lo hi last e since ke ne re xe fe placed told =
      let i = serial_is L t w m.serial in
      let r : Rec = new_rec kind 0 0 0 0 text random t in
      tied_add L t w m (record { r = r; e = e; o = plain since text }) (alive_is L.clock r (lo, omega arith) (omega (arith, w.clock_is))) i.0 (omega (arith, re))
      (record {
        kind_eq = ke;
        name_eq = ne;
        ref_eq = λ x. absurd (omega arith);
        expiry_eq = xe ∙ ap (λ (c : ℕ). c + lifetime kind) (sym w.clock_is);
        text_eq = refl;
        mark_eq = λ x. refl;
        fate_eq = fe;
        young = omega arith;
        placed = placed;
        told = told;
      })

  pub tied_login : (random : List ℕ) → K.login (name_of (new_rec a_login 0 0 0 0 [] random t)) ≡ L.clock + lifetime a_login
      → Tied K (enter (login_line (name_of (new_rec a_login 0 0 0 0 [] random t)) L.clock) L) (add (new_rec a_login 0 0 0 0 [] random t) t)
  unfolding new_rec
  tied_login random until =
      tied_top a_login [] random (omega arith) (omega arith) (omega arith) _ 0 refl refl refl refl refl (login refl refl)
      (record { login = λ x. until; opener = λ x. absurd (omega arith); ticket = λ x. absurd (clash x refl); grant = λ x. absurd (omega arith); called = λ x. absurd (omega arith) })

  pub tied_session : (user random : List ℕ) → K.opener (name_of (new_rec a_session 0 0 0 0 user random t)) ≡ record { user = user; since = L.clock }
      → Tied K (enter (session_line (name_of (new_rec a_session 0 0 0 0 user random t)) user L.clock) L) (add (new_rec a_session 0 0 0 0 user random t) t)
  unfolding new_rec expiry_for since_from
  tied_session user random opener =
      tied_top a_session user random (omega arith) (omega arith) (omega arith) _ L.clock refl refl refl refl refl (session refl refl refl refl (rw w.clock_is) (rw w.clock_is))
      (record { login = λ x. absurd (omega arith); opener = λ x. opener; ticket = λ x. absurd (clash x refl); grant = λ x. absurd (omega arith); called = λ x. absurd (omega arith) })

-- what a new line takes from the line of its session, or of a ticket or grant under it
pub record Source (A : List Slot) (s : ℕ) (src : Line) (since : ℕ) : Type 0 where
  pub home : (on A s).r.kind ≡ 2
  pub sess_eq : src.session ≡ name_of (on A s).r
  pub user_eq : src.user ≡ (on A s).r.text
  pub since_eq : since ≡ (on A s).r.since
  pub until_eq : src.until ≡ (on A s).r.expiry

pub session_source : {K : Known} (A : List Slot) (n s : ℕ) → Good K A n (on A s) → (on A s).r.kind ≡ 2 → Source A s (on A s).e (on A s).o.since
session_source A n s g k = go g.placed
  where
    go : Placed A (on A s) → Source A s (on A s).e (on A s).o.since
    go (login x _) = absurd (omega arith)
    go (session x y n u b v) = record { home = k; sess_eq = n; user_eq = u; since_eq = b; until_eq = v }
    go (below x u) = absurd (omega arith)

pub under_source : (A : List Slot) (a : Slot) → Under A a → Source A a.r.session a.e a.o.since
under_source A a u = record { home = u.home; sess_eq = u.sess_eq; user_eq = u.user_eq; since_eq = u.since_eq; until_eq = u.until_eq }

-- a ticket or a waiting grant under the session in slot s
module _ {K : Known} (L : Notebook) (t : Table) (w : Tied K L t) (m : Room t) (s : ℕ) (ls : lives L.clock w.A s ≡ true) (src : Line) (since : ℕ) (so : Source w.A s src since)
    (kind mark parent depth : ℕ) (text random : List ℕ) (chain : List Text) (mk : Bool) (ref : ℕ)
    (lo : 3 ≤ kind) (hi : kind ≤ 5) (lasts : 1 ≤ lifetime kind) (marked : mark ≡ one mk)
    (numbered : kind ≡ 5 → ref ≡ t.next) (small : ref ≤ t.next)
    (line : Up w.A (if (eqb kind 3) 0 parent) s chain) (falls : 5 ≤ kind → depth ≡ suc (deep w.A (if (eqb kind 3) 0 parent))) where
  abbrev new_slot : Slot
  new_slot =
      record {
        r = new_rec kind mark parent s depth text random t;
        e = line_under kind (name_of (new_rec kind mark parent s depth text random t)) ref L.clock src;
        o = record { since = since; text = text; chain = chain; mark = mk };
      }

  some_session : eqb s 0 ≡ false
  some_session = ne_eqb s 0 (λ e. clash (rw e at ls) (zero_dead L t w))

  expiry_is : expiry_for kind s t ≡ min (L.clock + lifetime kind) (on w.A s).r.expiry
  unfolding expiry_for
  expiry_is = rw (some_session, rec_on L t w s, w.clock_is)

  under_good : Told K new_slot → Good K w.A (suc w.n) new_slot
  unfolding new_rec
  under_good told =
      let i = serial_is L t w m.serial in
      record {
        kind_eq = refl;
        name_eq = refl;
        ref_eq = numbered;
        expiry_eq = rw (expiry_is, so.until_eq);
        text_eq = refl;
        mark_eq = λ x. marked;
        fate_eq = refl;
        young = omega arith;
        placed =
            below lo
            (record {
              home = so.home;
              sess_eq = so.sess_eq;
              user_eq = so.user_eq;
              since_eq = so.since_eq;
              until_eq = so.until_eq;
              within = omega (arith, expiry_is);
              lasts = λ x. absurd (omega arith);
              line = line;
              falls = falls;
            });
        told = told;
      }

  pub tied_under : Told K new_slot → Tied K (enter (line_under kind (name_of (new_rec kind mark parent s depth text random t)) ref L.clock src) L) (add (new_rec kind mark parent s depth text random t) t)
  unfolding new_rec
  tied_under told =
      let i = serial_is L t w m.serial in
      tied_add L t w m new_slot
      (alive_is L.clock (new_rec kind mark parent s depth text random t) (omega arith, omega arith) (omega (arith, expiry_is, alive_time L.clock (on w.A s).r ls))) i.0 (omega arith) (under_good told)
