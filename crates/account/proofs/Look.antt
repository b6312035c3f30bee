-- Searches: what the table's search finds, the notebook's search finds. Assumes nothing.
use mathlib.Core.Path.{◌≡◌, refl, sym, ap, ap₂, ◌∙◌}
use mathlib.Core.Logic.{◌≢◌}
use mathlib.Core.Bool.{Bool, true, false, ◌&&◌, ◌||◌}
use mathlib.Core.List.{List, [], ◌∷◌, map, Memᴰ}
use Prim.Native.Nat.{ℕ, zero, suc, ◌+◌, ◌%◌, ◌≤◌, ◌<◌}
use native.Mathlib.Omega.{arith}
use borrow.Author.Tests.{eqb-true, eqb-false, lt-ltb}
use lib.ListN.{length, get_or, get_or-map, length-map}
use lib.Dec.{ltb, eqb}
use Rattle.protocol.specs.Bytes.{same, within}
use Rattle.protocol.specs.Tickets.{a_login, a_service, a_proxy, a_waiting, a_grant}
use Rattle.protocol.specs.Records.{Rec, free_rec, name_of, live}
use Rattle.protocol.specs.Table.{Table, rec_at, slot_from, slot_where}
use Rattle.protocol.specs.Steps.{is_named, slot_named, ticket_slot, waiting_slot}
use Rattle.protocol.proofs.Laws.{both, same-eq}
use Rattle.protocol.proofs.Added.{slot_chosen}
use Rattle.protocol.proofs.Searches.{nonzero}
use Rattle.account.specs.History.{Text}
use Rattle.account.specs.Notebook.{is_ticket, Line, Notebook, found, nothing, look, is_line, is_ticket_line, is_waiting_line}
use Rattle.account.specs.Truth.{Known}
use Rattle.account.proofs.Base.{Case, is, isnt, case, clash, untrue, and_yes, or_left, or_right, when, name_serial, is_held}
use Rattle.account.proofs.Sim.{Slot, no_slot, on, alive, lives, weight, weigh, heft, total, Told, Sim, sim_aged}
use Rattle.account.proofs.Edits.{alive_kind, alive_time}

abbrev pub rec_of : Slot → Rec
rec_of a = a.r

-- the table beside the notebook
pub record Tied (K : Known) (L : Notebook) (t : Table) : Type 0 where
  pub A : List Slot
  pub n : ℕ
  pub slots_are : free_rec ∷ t.slots ≡ map rec_of A
  pub clock_is : t.clock ≡ L.clock
  pub next_is : t.next ≡ n % 4294967296
  pub sim : Sim K L A n

abbrev pub tied_aged : {K K' : Known} {L : Notebook} {t : Table} (w : Tied K L t) → ((i : ℕ) → lives L.clock w.A i ≡ true → Told K (on w.A i) → Told K' (on w.A i)) → Tied K' L t
tied_aged w more = record { A = w.A; n = w.n; slots_are = w.slots_are; clock_is = w.clock_is; next_is = w.next_is; sim = sim_aged w.sim more }

-- a live slot is one of the slots
pub live_inside : (c : ℕ) (A : List Slot) (k : ℕ) → lives c A k ≡ true → k < length A
live_inside c [] k l = absurd (clash l refl)
live_inside c (a ∷ A) zero l = omega arith
live_inside c (a ∷ A) (suc k) l = omega (arith, live_inside c A k l)

weigh_at : (c : ℕ) (f : Line → ℕ) (A : List Slot) (i : ℕ) → weight c f (on A i) ≤ weigh c f A
weigh_at c f [] i = omega arith
weigh_at c f (a ∷ A) zero = omega arith
weigh_at c f (a ∷ A) (suc i) = omega (arith, weigh_at c f A i)

pub data Looked (q : Line → Bool) (l : List Line) : Type 0 where
  none : look q l ≡ nothing → total (λ e. when (q e) 1) l ≡ 0 → Looked q l
  some : (e : Line) → look q l ≡ found e → Memᴰ e l → is_held e.fate ≡ true → q e ≡ true → Looked q l

skip : (q : Line → Bool) (e : Line) (es : List Line) → (is_held e.fate && q e) ≡ false → heft (λ e. when (q e) 1) e ≡ 0 → Looked q es → Looked q (e ∷ es)
unfolding look
skip q e es z w (none a b) = none (rw z a) (omega arith)
skip q e es z w (some x a m h t) = some x (rw z a) (Memᴰ.tail m) h t

pub looked : (q : Line → Bool) (l : List Line) → Looked q l
unfolding look
looked q [] = none refl refl
looked q (e ∷ es) = go (case (is_held e.fate)) (case (q e)) (looked q es)
  where
    go : Case (is_held e.fate) → Case (q e) → Looked q es → Looked q (e ∷ es)
    go (is h) (is z) r = some e (rw (h, z)) (Memᴰ.head refl) h z
    go (is h) (isnt z) r = skip q e es (rw (h, z)) (rw (h, z)) r
    go (isnt h) c r = skip q e es (rw h) (rw h) r

-- what a search found is a held line of the book that passes
pub seen : (q : Line → Bool) (l : List Line) (x : Line) → look q l ≡ found x → Memᴰ x l × (is_held x.fate ≡ true) × (q x ≡ true)
seen q l x e = go (looked q l)
  where
    go : Looked q l → Memᴰ x l × (is_held x.fate ≡ true) × (q x ≡ true)
    go (none a b) = absurd (let z : ◌≡◌ {A = ℕ} 0 1 = cc in omega arith)
    go (some y a m h t) = let z : y ≡ x = cc in (rw z at m, rw z at h, rw z at t)

module _ {K : Known} (L : Notebook) (A : List Slot) (n : ℕ) (S : Sim K L A n) (q : Line → Bool) where
  -- a live slot whose line the test picks, and no other's: the notebook finds that line
  pub look_ok : (i : ℕ) → lives L.clock A i ≡ true → q (on A i).e ≡ true
      → ((j : ℕ) → lives L.clock A j ≡ true → q (on A j).e ≡ true → (on A j).r.serial ≡ (on A i).r.serial) → look q L.book ≡ found (on A i).e
  look_ok i l z only = go (looked q L.book)
    where
      go : Looked q L.book → look q L.book ≡ found (on A i).e
      go (none a b) =
          let w : weight L.clock (λ e. when (q e) 1) (on A i) ≡ 1 = rw (l, z) in
          absurd (omega (arith, S.sums (λ e. when (q e) 1), weigh_at L.clock (λ e. when (q e) 1) A i))
      go (some e a m h t) =
          let w = S.known e m h in
          let s : (on A w.0).r.serial ≡ (on A i).r.serial = only w.0 w.1 (rw w.2 t) in
          let j : w.0 ≡ i = S.one w.0 i w.1 l s in
          a ∙ ap found (sym w.2 ∙ ap (λ k. (on A k).e) j)

  pub look_no : ((i : ℕ) → lives L.clock A i ≡ true → q (on A i).e ≡ false) → look q L.book ≡ nothing
  look_no all = go (looked q L.book)
    where
      go : Looked q L.book → look q L.book ≡ nothing
      go (none a b) = a
      go (some e a m h t) =
          let w = S.known e m h in
          let z : q e ≡ false = ap q (sym w.2) ∙ all w.0 w.1 in
          absurd (clash t z)

-- a search that finds none: no record passes
none_passes : (test : Rec → Bool) (rs : List Rec) (k : ℕ) → 1 ≤ k → slot_from k test rs ≡ 0 → (i : ℕ) → i < length rs → test (get_or rs i free_rec) ≡ false
unfolding slot_from
none_passes test [] k h e i l = absurd (omega arith)
none_passes test (r ∷ rs) k h e i l = go (case (test r)) (none_passes test rs (k + 1) (omega arith)) i l
  where
    go : Case (test r) → (slot_from (k + 1) test rs ≡ 0 → (i : ℕ) → i < length rs → test (get_or rs i free_rec) ≡ false) → (i : ℕ) → i < length (r ∷ rs) → test (get_or (r ∷ rs) i free_rec) ≡ false
    go (is z) ih i l = absurd (let w : k ≡ 0 = rw z at e in omega arith)
    go (isnt z) ih zero l = z
    go (isnt z) ih (suc i) l = ih (rw z at e) i (omega arith)

module _ {K : Known} (L : Notebook) (t : Table) (w : Tied K L t) where
  -- the record in a slot
  pub rec_on : (k : ℕ) → rec_at k t.slots ≡ (on w.A k).r
  rec_on k = ap (λ (l : List Rec). get_or l k free_rec) w.slots_are ∙ get_or-map rec_of w.A k no_slot

  pub size_is : suc (length t.slots) ≡ length w.A
  size_is = ap length w.slots_are ∙ length-map w.A rec_of

  -- slot 0 holds none
  pub zero_dead : lives L.clock w.A 0 ≡ false
  zero_dead = let z : (on w.A 0).r ≡ free_rec = sym (rec_on 0) in rw z

  pub live_some : (k : ℕ) → lives L.clock w.A k ≡ true → 1 ≤ k
  live_some zero l = absurd (clash l zero_dead)
  live_some (suc k) l = omega arith

-- a search of the table beside one of the notebook
pub record Hit (L : Notebook) (A : List Slot) (k : ℕ) (test : Rec → Bool) (q : Line → Bool) : Type 0 where
  pub live : lives L.clock A k ≡ true
  pub passes : test (on A k).r ≡ true
  pub line : look q L.book ≡ found (on A k).e
  pub picked : q (on A k).e ≡ true
  pub others : (j : ℕ) → lives L.clock A j ≡ true → j ≢ k → q (on A j).e ≡ false

pub record Miss (L : Notebook) (A : List Slot) (q : Line → Bool) : Type 0 where
  pub line : look q L.book ≡ nothing
  pub all : (i : ℕ) → lives L.clock A i ≡ true → q (on A i).e ≡ false

module _ {K : Known} (L : Notebook) (t : Table) (w : Tied K L t) (test : Rec → Bool) (q : Line → Bool)
    (agree : (i : ℕ) → lives L.clock w.A i ≡ true → q (on w.A i).e ≡ test (on w.A i).r)
    (sub : (r : Rec) → test r ≡ true → alive L.clock r ≡ true)
    (only : (i j : ℕ) → lives L.clock w.A i ≡ true → lives L.clock w.A j ≡ true → q (on w.A i).e ≡ true → q (on w.A j).e ≡ true
    → (on w.A i).r.serial ≡ (on w.A j).r.serial) where
  pub hit_at : (k : ℕ) → test (on w.A k).r ≡ true → Hit L w.A k test q
  hit_at k h =
      let l : lives L.clock w.A k ≡ true = sub (on w.A k).r h in
      let z : q (on w.A k).e ≡ true = agree k l ∙ h in
      record {
        live = l;
        passes = h;
        line = look_ok L w.A w.n w.sim q k l z (λ j lj u. only j k lj l u z);
        picked = z;
        others = λ j lj ne. untrue (q (on w.A j).e) (λ u. ne (w.sim.one j k lj l (only j k lj l u z)));
      }

  pub hit : eqb (slot_where test t.slots) 0 ≡ false → Hit L w.A (slot_where test t.slots) test q
  hit e =
      let c = slot_chosen test t.slots (nonzero _ (eqb-false (slot_where test t.slots) 0 e)) in
      hit_at (slot_where test t.slots) (rw (rec_on L t w (slot_where test t.slots)) at c.passes)

  pub miss : eqb (slot_where test t.slots) 0 ≡ true → Miss L w.A q
  miss e = record { line = look_no L w.A w.n w.sim q none; all = none }
    where
      z : slot_where test t.slots ≡ 0
      z = eqb-true (slot_where test t.slots) 0 e

      at : (i : ℕ) → lives L.clock w.A i ≡ true → test (on w.A i).r ≡ false
      at zero l = absurd (clash l (zero_dead L t w))
      at (suc i) l =
          let lt : suc i < length w.A = live_inside L.clock w.A (suc i) l in
          rw (rec_on L t w (suc i)) at (none_passes test t.slots 1 (omega arith) z i (omega (arith, size_is L t w)))

      none : (i : ℕ) → lives L.clock w.A i ≡ true → q (on w.A i).e ≡ false
      none i l = agree i l ∙ at i l

-- two live lines of one text have one serial
pub same_name : {K : Known} (L : Notebook) (A : List Slot) (n : ℕ) → Sim K L A n → (i j : ℕ) → lives L.clock A i ≡ true → lives L.clock A j ≡ true → (on A i).e.name ≡ (on A j).e.name
    → (on A i).r.serial ≡ (on A j).r.serial
unfolding name_of
same_name L A n S i j li lj e =
    let g = S.good i li in
    let h = S.good j lj in
    let k = alive_kind L.clock (on A i).r li in
    let l = alive_kind L.clock (on A j).r lj in
    name_serial (on A i).r.kind (on A j).r.kind (on A i).r.serial (on A j).r.serial (on A i).r.secret (on A j).r.secret
    k.0 k.1 l.0 l.1
    (omega (arith, g.young, S.top)) (omega (arith, h.young, S.top))
    (sym g.name_eq ∙ e ∙ h.name_eq)

and_same : (a b : Bool) (x y z : Text) → a && same x z ≡ true → b && same y z ≡ true → x ≡ y
and_same a b x y z p q = same-eq x z (both a (same x z) p).1 ∙ sym (same-eq y z (both b (same y z) q).1)

-- a live service or proxy ticket of a text, and the live waiting grant of a serial
abbrev pub is_ticket_named : ℕ → Text → Rec → Bool
is_ticket_named clock text r = is_named clock a_service text r || is_named clock a_proxy text r

abbrev pub is_waiting_of : ℕ → ℕ → Rec → Bool
is_waiting_of clock serial r = eqb r.kind a_waiting && live clock r && eqb r.serial serial

module _ {K : Known} (L : Notebook) (t : Table) (w : Tied K L t) where
  fresh : (i : ℕ) → lives L.clock w.A i ≡ true → ltb L.clock (on w.A i).r.expiry ≡ true
  fresh i l = lt-ltb L.clock (on w.A i).r.expiry (alive_time L.clock (on w.A i).r l)

  -- by kind and text
  named_agree : (kind : ℕ) (text : Text) (i : ℕ) → lives L.clock w.A i ≡ true → is_line kind text (on w.A i).e ≡ is_named L.clock kind text (on w.A i).r
  unfolding is_named
  named_agree kind text i l = rw ((w.sim.good i l).kind_eq, (w.sim.good i l).name_eq, fresh i l, and_yes (eqb (on w.A i).r.kind kind))

  named_sub : (kind : ℕ) (text : Text) → within a_login a_grant kind ≡ true → (r : Rec) → is_named L.clock kind text r ≡ true → alive L.clock r ≡ true
  unfolding is_named
  named_sub kind text k r e =
      let p = both (eqb r.kind kind && live L.clock r) (same (name_of r) text) e in
      let q = both (eqb r.kind kind) (live L.clock r) p.0 in
      rw (eqb-true r.kind kind q.0, k, q.1)

  named_only : (kind : ℕ) (text : Text) (i j : ℕ) → lives L.clock w.A i ≡ true → lives L.clock w.A j ≡ true
      → is_line kind text (on w.A i).e ≡ true → is_line kind text (on w.A j).e ≡ true → (on w.A i).r.serial ≡ (on w.A j).r.serial
  named_only kind text i j li lj p q =
      same_name L w.A w.n w.sim i j li lj (and_same (eqb (on w.A i).e.kind kind) (eqb (on w.A j).e.kind kind) (on w.A i).e.name (on w.A j).e.name text p q)

  pub hit_named : (kind : ℕ) (text : Text) → within a_login a_grant kind ≡ true → eqb (slot_named kind text t) 0 ≡ false → Hit L w.A (slot_named kind text t) (is_named L.clock kind text) (is_line kind text)
  unfolding slot_named
  hit_named kind text k e =
      rw w.clock_is
      (hit L t w (is_named L.clock kind text) (is_line kind text) (named_agree kind text) (named_sub kind text k) (named_only kind text) (rw w.clock_is at e))

  -- a live slot that is so named
  pub hit_slot : (kind : ℕ) (text : Text) → within a_login a_grant kind ≡ true → (k : ℕ) → is_named L.clock kind text (on w.A k).r ≡ true → Hit L w.A k (is_named L.clock kind text) (is_line kind text)
  hit_slot kind text le k h = hit_at L t w (is_named L.clock kind text) (is_line kind text) (named_agree kind text) (named_sub kind text le) (named_only kind text) k h

  pub miss_named : (kind : ℕ) (text : Text) → within a_login a_grant kind ≡ true → eqb (slot_named kind text t) 0 ≡ true → Miss L w.A (is_line kind text)
  unfolding slot_named
  miss_named kind text k e =
      miss L t w (is_named L.clock kind text) (is_line kind text) (named_agree kind text) (named_sub kind text k) (named_only kind text) (rw w.clock_is at e)

  -- a service or proxy ticket by its text
  or_and : (a b c : Bool) → ((a || b) && c) ≡ ((a && c) || (b && c))
  or_and true b true = refl
  or_and true b false = sym (borrow_or b)
    where
      borrow_or : (b : Bool) → (false || (b && false)) ≡ false
      borrow_or true = refl
      borrow_or false = refl
  or_and false b c = refl

  ticket_agree : (text : Text) (i : ℕ) → lives L.clock w.A i ≡ true → is_ticket_line text (on w.A i).e ≡ is_ticket_named L.clock text (on w.A i).r
  ticket_agree text i l =
      or_and (eqb (on w.A i).e.kind a_service) (eqb (on w.A i).e.kind a_proxy) (same (on w.A i).e.name text)
      ∙ ap₂ ◌||◌ (named_agree a_service text i l) (named_agree a_proxy text i l)

  ticket_sub : (text : Text) (r : Rec) → is_ticket_named L.clock text r ≡ true → alive L.clock r ≡ true
  ticket_sub text r e = go (case (is_named L.clock a_service text r))
    where
      go : Case (is_named L.clock a_service text r) → alive L.clock r ≡ true
      go (is z) = named_sub a_service text refl r z
      go (isnt z) = named_sub a_proxy text refl r (rw z at e)

  ticket_only : (text : Text) (i j : ℕ) → lives L.clock w.A i ≡ true → lives L.clock w.A j ≡ true
      → is_ticket_line text (on w.A i).e ≡ true → is_ticket_line text (on w.A j).e ≡ true → (on w.A i).r.serial ≡ (on w.A j).r.serial
  ticket_only text i j li lj p q =
      same_name L w.A w.n w.sim i j li lj (and_same (is_ticket (on w.A i).e.kind) (is_ticket (on w.A j).e.kind) (on w.A i).e.name (on w.A j).e.name text p q)

  pub hit_ticket : (text : Text) → eqb (ticket_slot text t) 0 ≡ false → Hit L w.A (ticket_slot text t) (is_ticket_named L.clock text) (is_ticket_line text)
  unfolding ticket_slot
  hit_ticket text e =
      rw w.clock_is (hit L t w (is_ticket_named L.clock text) (is_ticket_line text) (ticket_agree text) (ticket_sub text) (ticket_only text) (rw w.clock_is at e))

  pub miss_ticket : (text : Text) → eqb (ticket_slot text t) 0 ≡ true → Miss L w.A (is_ticket_line text)
  unfolding ticket_slot
  miss_ticket text e = miss L t w (is_ticket_named L.clock text) (is_ticket_line text) (ticket_agree text) (ticket_sub text) (ticket_only text) (rw w.clock_is at e)

  -- a waiting grant by its serial
  waiting_agree : (serial : ℕ) (i : ℕ) → lives L.clock w.A i ≡ true → is_waiting_line serial (on w.A i).e ≡ is_waiting_of L.clock serial (on w.A i).r
  waiting_agree serial i l = rw ((w.sim.good i l).kind_eq, fresh i l, and_yes (eqb (on w.A i).r.kind a_waiting)) (go (case (eqb (on w.A i).r.kind a_waiting)))
    where
      go : Case (eqb (on w.A i).r.kind a_waiting) → (eqb (on w.A i).r.kind a_waiting && eqb (on w.A i).e.ref serial) ≡ (eqb (on w.A i).r.kind a_waiting && eqb (on w.A i).r.serial serial)
      go (is z) = rw ((w.sim.good i l).ref_eq (eqb-true (on w.A i).r.kind 5 z))
      go (isnt z) = rw z

  waiting_sub : (serial : ℕ) (r : Rec) → is_waiting_of L.clock serial r ≡ true → alive L.clock r ≡ true
  waiting_sub serial r e =
      let p = both (eqb r.kind a_waiting && live L.clock r) (eqb r.serial serial) e in
      let q = both (eqb r.kind a_waiting) (live L.clock r) p.0 in
      rw (eqb-true r.kind 5 q.0, q.1)

  waiting_ref : (serial : ℕ) (i : ℕ) → lives L.clock w.A i ≡ true → is_waiting_line serial (on w.A i).e ≡ true → (on w.A i).r.serial ≡ serial
  waiting_ref serial i l e =
      let p = both (eqb (on w.A i).e.kind a_waiting) (eqb (on w.A i).e.ref serial) e in
      let k : (on w.A i).r.kind ≡ 5 = sym (w.sim.good i l).kind_eq ∙ eqb-true (on w.A i).e.kind 5 p.0 in
      sym ((w.sim.good i l).ref_eq k) ∙ eqb-true (on w.A i).e.ref serial p.1

  waiting_only : (serial : ℕ) (i j : ℕ) → lives L.clock w.A i ≡ true → lives L.clock w.A j ≡ true
      → is_waiting_line serial (on w.A i).e ≡ true → is_waiting_line serial (on w.A j).e ≡ true → (on w.A i).r.serial ≡ (on w.A j).r.serial
  waiting_only serial i j li lj p q = waiting_ref serial i li p ∙ sym (waiting_ref serial j lj q)

  pub hit_waiting : (serial : ℕ) → eqb (waiting_slot serial t) 0 ≡ false → Hit L w.A (waiting_slot serial t) (is_waiting_of L.clock serial) (is_waiting_line serial)
  unfolding waiting_slot
  hit_waiting serial e =
      rw w.clock_is (hit L t w (is_waiting_of L.clock serial) (is_waiting_line serial) (waiting_agree serial) (waiting_sub serial) (waiting_only serial) (rw w.clock_is at e))

  -- the kinds that the searches find
  pub ticket_kind : (text : Text) (r : Rec) → is_ticket_named L.clock text r ≡ true → is_ticket r.kind ≡ true
  unfolding is_named
  ticket_kind text r e = go (case (is_named L.clock a_service text r))
    where
      go : Case (is_named L.clock a_service text r) → is_ticket r.kind ≡ true
      go (is z) = or_left (eqb r.kind 3) (eqb r.kind 4) (both (eqb r.kind 3) (live L.clock r) (both (eqb r.kind 3 && live L.clock r) (same (name_of r) text) z).0).0
      go (isnt z) =
          let y : is_named L.clock a_proxy text r ≡ true = rw z at e in
          or_right (eqb r.kind 3) (eqb r.kind 4) (both (eqb r.kind 4) (live L.clock r) (both (eqb r.kind 4 && live L.clock r) (same (name_of r) text) y).0).0

  pub waiting_kind : (serial : ℕ) (r : Rec) → is_waiting_of L.clock serial r ≡ true → r.kind ≡ 5
  waiting_kind serial r e =
      eqb-true r.kind 5 (both (eqb r.kind a_waiting) (live L.clock r) (both (eqb r.kind a_waiting && live L.clock r) (eqb r.serial serial) e).0).0

pub named_kind : (c kind : ℕ) (text : Text) (r : Rec) → is_named c kind text r ≡ true → r.kind ≡ kind
unfolding is_named
named_kind c kind text r e = eqb-true r.kind kind (both (eqb r.kind kind) (live c r) (both (eqb r.kind kind && live c r) (same (name_of r) text) e).0).0

pub named_name : (c kind : ℕ) (text : Text) (r : Rec) → is_named c kind text r ≡ true → name_of r ≡ text
unfolding is_named
named_name c kind text r e = same-eq (name_of r) text (both (eqb r.kind kind && live c r) (same (name_of r) text) e).1
