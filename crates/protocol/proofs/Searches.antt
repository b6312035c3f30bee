-- What a search finds is live and of its kind, and what room there is before and after a new record. Assumes nothing.
use mathlib.Core.Path.{◌≡◌, refl, sym}
use mathlib.Core.Bool.{Bool, true, false, ◌&&◌, ◌||◌}
use mathlib.Core.List.{List, [], ◌∷◌}
use Prim.Native.Nat.{ℕ, zero, suc, ◌+◌, ◌%◌, ◌≤◌, ◌<◌}
use native.Mathlib.Omega.{arith}
use borrow.Author.Tests.{eq-eqb, ne_eqb, eqb-true, leb-true, le-leb, ltb-true}
use lib.Dec.{eqb, leb}
use lib.ListN.{length, get_or, set}
use Rattle.protocol.specs.Bytes.{is_empty, same}
use Rattle.protocol.specs.Tickets.{a_service, a_proxy, a_waiting}
use Rattle.protocol.specs.Records.{Rec, free_rec, live, name_of}
use Rattle.protocol.specs.Table.{Table, rec_at, put_at, count_kind}
use Rattle.protocol.specs.Steps.{is_named, slot_named, ticket_slot, slot_for, room_for, add, waiting_slot}
use Rattle.protocol.proofs.Laws.{both}
use Rattle.protocol.proofs.Added.{Room, slot_chosen}

-- a record that is not free lies within the table
in_slots : (rs : List Rec) (k : ℕ) → ((get_or rs k free_rec).kind ≡ 0 → ⊥) → k < length rs
in_slots [] k h = absurd (h refl)
in_slots (r ∷ rs) zero h = omega arith
in_slots (r ∷ rs) (suc k) h = omega (arith, in_slots rs k h)

pub slot_within : (slots : List Rec) (k : ℕ) → ((rec_at k slots).kind ≡ 0 → ⊥) → k ≤ length slots
slot_within slots zero h = omega arith
slot_within slots (suc k) h = in_slots slots k h

pub nonzero : (k : ℕ) → (k ≡ 0 → ⊥) → 1 ≤ k
nonzero zero h = absurd (h refl)
nonzero (suc k) h = omega arith

pub filled : (s : List ℕ) → is_empty s ≡ false → 1 ≤ length s
filled [] e = absurd (let z : ◌≡◌ {A = ℕ} 0 1 = cc in omega arith)
filled (b ∷ s) e = omega arith

-- a text is empty by its length
pub empty : (s : List ℕ) (n : ℕ) → n ≡ length s → is_empty s ≡ eqb n 0
empty [] n e = rw e
empty (c ∷ s) n e = sym (ne_eqb n 0 (λ z. omega arith))

-- a live record of a kind
pub record Live (kind : ℕ) (t : Table) (k : ℕ) : Type 0 where
  pub some : 1 ≤ k
  pub is : (rec_at k t.slots).kind ≡ kind
  pub lasts : t.clock < (rec_at k t.slots).expiry

-- by the tests of a search
live_by : (kind : ℕ) (t : Table) (k : ℕ) (other : Bool) → 1 ≤ k → eqb (rec_at k t.slots).kind kind && live t.clock (rec_at k t.slots) && other ≡ true → Live kind t k
live_by kind t k other h e =
    let a = both (eqb (rec_at k t.slots).kind kind && live t.clock (rec_at k t.slots)) other e in
    let b = both (eqb (rec_at k t.slots).kind kind) (live t.clock (rec_at k t.slots)) a.0 in
    record { some = h; is = eqb-true (rec_at k t.slots).kind kind b.0; lasts = ltb-true t.clock (rec_at k t.slots).expiry b.1 }

pub slot_live : (kind : ℕ) (text : List ℕ) (t : Table) → 1 ≤ slot_named kind text t → Live kind t (slot_named kind text t)
unfolding slot_named is_named
slot_live kind text t h =
    live_by kind t (slot_named kind text t) (same (name_of (rec_at (slot_named kind text t) t.slots)) text) h (slot_chosen (is_named t.clock kind text) t.slots h).passes

pub waiting_live : (serial : ℕ) (t : Table) → 1 ≤ waiting_slot serial t → Live a_waiting t (waiting_slot serial t)
unfolding waiting_slot
waiting_live serial t h =
    live_by a_waiting t (waiting_slot serial t) (eqb (rec_at (waiting_slot serial t) t.slots).serial serial) h
    (slot_chosen (λ (r : Rec). eqb r.kind a_waiting && live t.clock r && eqb r.serial serial) t.slots h).passes

-- a live service or proxy ticket
pub record Ticket (t : Table) (k : ℕ) : Type 0 where
  pub some : 1 ≤ k
  pub least : 3 ≤ (rec_at k t.slots).kind
  pub most : (rec_at k t.slots).kind ≤ 4
  pub lasts : t.clock < (rec_at k t.slots).expiry

either : (c : ℕ) (text : List ℕ) (r : Rec) (a b : Bool) → is_named c 3 text r ≡ a → is_named c 4 text r ≡ b → a || b ≡ true → (3 ≤ r.kind) × (r.kind ≤ 4) × (c < r.expiry)
unfolding is_named
either c text r true b h g e =
    let p = both (eqb r.kind 3 && live c r) (same (name_of r) text) h in
    let q = both (eqb r.kind 3) (live c r) p.0 in
    let k = eqb-true r.kind 3 q.0 in
    (omega arith, omega arith, ltb-true c r.expiry q.1)
either c text r false true h g e =
    let p = both (eqb r.kind 4 && live c r) (same (name_of r) text) g in
    let q = both (eqb r.kind 4) (live c r) p.0 in
    let k = eqb-true r.kind 4 q.0 in
    (omega arith, omega arith, ltb-true c r.expiry q.1)
either c text r false false h g e = absurd (let z : ◌≡◌ {A = ℕ} 0 1 = cc in omega arith)

pub ticket_live : (text : List ℕ) (t : Table) → 1 ≤ ticket_slot text t → Ticket t (ticket_slot text t)
unfolding ticket_slot
ticket_live text t h =
    let q = slot_chosen (λ (r : Rec). is_named t.clock a_service text r || is_named t.clock a_proxy text r) t.slots h in
    let r : Rec = rec_at (ticket_slot text t) t.slots in
    let e = either t.clock text r (is_named t.clock a_service text r) (is_named t.clock a_proxy text r) refl refl q.passes in
    record { some = h; least = e.0; most = e.1; lasts = e.2 }

-- Room for two is room for one, and after one again for one

pub room_less : (t : Table) → room_for 2 t ≡ true → room_for 1 t ≡ true
unfolding room_for
room_less t e =
    let p = both (leb 2 (count_kind 0 t.slots)) (leb 1 t.next && leb (t.next + 2) 4294967296) e in
    let q = both (leb 1 t.next) (leb (t.next + 2) 4294967296) p.1 in
    rw (le-leb 1 (count_kind 0 t.slots) (omega (arith, leb-true 2 (count_kind 0 t.slots) p.0)), q.0, le-leb (t.next + 1) 4294967296 (omega (arith, leb-true (t.next + 2) 4294967296 q.1)))

count-taken : (x : Rec) (rs : List Rec) (i : ℕ) → i < length rs → (get_or rs i free_rec).kind ≡ 0 → (x.kind ≡ 0 → ⊥) → count_kind 0 (set rs i x) + 1 ≡ count_kind 0 rs
unfolding count_kind
count-taken x [] i h e n = absurd (omega arith)
count-taken x (r ∷ rs) zero h e n = rw (ne_eqb x.kind 0 n, eq-eqb r.kind 0 e) (omega arith)
count-taken x (r ∷ rs) (suc i) h e n = omega (arith, count-taken x rs i (omega arith) e n)

put-taken : (x : Rec) (slots : List Rec) (k : ℕ) → 1 ≤ k → k ≤ length slots → (rec_at k slots).kind ≡ 0 → (x.kind ≡ 0 → ⊥) → count_kind 0 (put_at k x slots) + 1 ≡ count_kind 0 slots
put-taken x slots zero h g e n = absurd (omega arith)
put-taken x slots (suc k) h g e n = count-taken x slots k (omega arith) e n

pub room_after : (x : Rec) (t : Table) → (x.kind ≡ 0 → ⊥) → Room t → room_for 2 t ≡ true → room_for 1 (add x t) ≡ true
unfolding room_for add
room_after x t n m e =
    let p = both (leb 2 (count_kind 0 t.slots)) (leb 1 t.next && leb (t.next + 2) 4294967296) e in
    let q = both (leb 1 t.next) (leb (t.next + 2) 4294967296) p.1 in
    let a = leb-true 2 (count_kind 0 t.slots) p.0 in
    let b = leb-true (t.next + 2) 4294967296 q.1 in
    let c = put-taken x t.slots (slot_for t) m.some m.within m.free n in
    rw (le-leb 1 (count_kind 0 (put_at (slot_for t) x t.slots)) (omega arith), le-leb 1 ((t.next + 1) % 4294967296) (omega (arith, m.serial)), le-leb ((t.next + 1) % 4294967296 + 1) 4294967296 (omega arith))
