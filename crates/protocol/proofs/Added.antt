-- The rules are kept where a record is added: it takes a free slot and the next serial. Assumes nothing.
use mathlib.Core.Path.{◌≡◌, refl, sym}
use mathlib.Core.Bool.{Bool, true, false, ◌&&◌, ◌||◌, not}
use mathlib.Core.List.{List, [], ◌∷◌}
use Prim.Native.Nat.{ℕ, zero, suc, ◌+◌, ◌%◌, ◌^◌, ◌≤◌, ◌<◌}
use native.Mathlib.Omega.{arith}
use borrow.Author.Tests.{ne_eqb, eqb-true, eqb-false, leb-true, ltb-true, lt-ltb}
use lib.Dec.{eqb, leb, ltb}
use lib.ListN.{length, get_or, set}
use Rattle.protocol.specs.Bytes.{if}
use Rattle.protocol.specs.Tickets.{a_free, a_login}
use Rattle.protocol.specs.Records.{Rec, free_rec, own_right, fields_right, since_right, serial_right, expiry_right}
use Rattle.protocol.specs.Table.{Table, rec_at, put_at, all_right, slot_from, slot_where, serial_taken, serials_differ, count_kind, login_cap}
use Rattle.protocol.specs.Steps.{slot_for, room_for, add}
use Rattle.protocol.proofs.Laws.{both, rec_right, right_cons, right_own, Rules, or_both, and-false, or-true}
use Rattle.protocol.proofs.Kept.{right_all, right_slot, other_right, put_other, put_same, Unnamed, leaf_unnamed, recs3}

-- What the search for a slot finds: none, or one from k on whose record passes the test
pub data Found (k : ℕ) (test : Rec → Bool) (rs : List Rec) (j : ℕ) : Type 0 where
  missing : j ≡ 0 → Found k test rs j
  found_at_lem : (i : ℕ) → j ≡ k + i → i < length rs → test (get_or rs i free_rec) ≡ true → Found k test rs j

found_later : (k : ℕ) (test : Rec → Bool) (r : Rec) (rs : List Rec) (j : ℕ) → Found (k + 1) test rs j → Found k test (r ∷ rs) j
found_later k test r rs j (missing e) = missing e
found_later k test r rs j (found_at_lem i e l q) = found_at_lem (suc i) (omega arith) (omega arith) q

found_here : (k : ℕ) (test : Rec → Bool) (r : Rec) (rs : List Rec) (j : ℕ) (z : Bool) → test r ≡ z → Found (k + 1) test rs j → Found k test (r ∷ rs) (if z k j)
found_here k test r rs j true h f = found_at_lem 0 (omega arith) (omega arith) h
found_here k test r rs j false h f = found_later k test r rs j f

pub found : (k : ℕ) (test : Rec → Bool) (rs : List Rec) → Found k test rs (slot_from k test rs)
unfolding slot_from
found k test [] = missing refl
found k test (r ∷ rs) = found_here k test r rs (slot_from (k + 1) test rs) (test r) refl (found (k + 1) test rs)

-- the same, by slots
pub record Chosen (test : Rec → Bool) (slots : List Rec) (k : ℕ) : Type 0 where
  pub some : 1 ≤ k
  pub within : k ≤ length slots
  pub passes : test (rec_at k slots) ≡ true

chosen_at : (test : Rec → Bool) (slots : List Rec) (k : ℕ) → 1 ≤ k → Found 1 test slots k → Chosen test slots k
chosen_at test slots k h (missing e) = absurd (omega arith)
chosen_at test slots k h (found_at_lem i e l q) =
    let e' : k ≡ suc i = omega arith in
    record { some = h; within = omega arith; passes = rw e' q }

pub slot_chosen : (test : Rec → Bool) (slots : List Rec) → 1 ≤ slot_where test slots → Chosen test slots (slot_where test slots)
slot_chosen test slots h = chosen_at test slots (slot_where test slots) h (found 1 test slots)

-- where a record is free, one is found
abbrev pub is_free : Rec → Bool
is_free r = eqb r.kind a_free

free_here : (k : ℕ) (z : Bool) (j m : ℕ) → 1 ≤ k → 1 ≤ if z 1 0 + m → (1 ≤ m → 1 ≤ j) → 1 ≤ if z k j
free_here k true j m h c f = h
free_here k false j m h c f = f (omega arith)

pub free_found : (k : ℕ) (rs : List Rec) → 1 ≤ k → 1 ≤ count_kind a_free rs → 1 ≤ slot_from k is_free rs
unfolding slot_from count_kind
free_found k [] h c = absurd (omega arith)
free_found k (r ∷ rs) h c = free_here k (is_free r) (slot_from (k + 1) is_free rs) (count_kind a_free rs) h c (free_found (k + 1) rs (omega arith))

-- Serials

-- a record in the table has a serial below the next
below_next : (c n : ℕ) (r : Rec) (z : Bool) → eqb r.kind a_free ≡ z → 1 ≤ n
    → if z (eqb r.serial 0 && eqb r.expiry 0) (serial_right n r.serial && expiry_right c r) ≡ true → not z && eqb r.serial n ≡ false
unfolding serial_right
below_next c n r true h g e = refl
below_next c n r false h g e =
    let p = both (leb 1 r.serial && (if (eqb n 0) true (ltb r.serial n))) (expiry_right c r) e in
    let q = both (leb 1 r.serial) (if (eqb n 0) true (ltb r.serial n)) p.0 in
    let l : r.serial < n = ltb-true r.serial n (rw (ne_eqb n 0 (λ z. absurd (omega arith))) at q.1) in
    ne_eqb r.serial n (λ z. omega arith)

own_life : (c n : ℕ) (r : Rec) → own_right c n r ≡ true → (fields_right r && since_right c r ≡ true) × (if (eqb r.kind a_free) (eqb r.serial 0 && eqb r.expiry 0) (serial_right n r.serial && expiry_right c r) ≡ true)
unfolding own_right
own_life c n r e = both (fields_right r && since_right c r) (if (eqb r.kind a_free) (eqb r.serial 0 && eqb r.expiry 0) (serial_right n r.serial && expiry_right c r)) e

pub fresh_serial : (c n : ℕ) (slots rs : List Rec) → all_right c n slots rs ≡ true → 1 ≤ n → serial_taken n rs ≡ false
unfolding serial_taken
fresh_serial c n slots [] e h = refl
fresh_serial c n slots (r ∷ rs) e h =
    let p = right_cons c n slots r rs e in
    let l = own_life c n r (right_own c n slots r p.0) in
    rw (below_next c n r (eqb r.kind a_free) refl h l.1) (fresh_serial c n slots rs p.1 h)

taken-set : (x : ℕ) (r : Rec) (rs : List Rec) (i : ℕ) → serial_taken x rs ≡ false → not (eqb r.kind a_free) && eqb r.serial x ≡ false → serial_taken x (set rs i r) ≡ false
unfolding serial_taken
taken-set x r [] i e h = e
taken-set x r (q ∷ rs) zero e h = rw h (or_both (not (eqb q.kind a_free) && eqb q.serial x) (serial_taken x rs) e).1
taken-set x r (q ∷ rs) (suc i) e h =
    let p = or_both (not (eqb q.kind a_free) && eqb q.serial x) (serial_taken x rs) e in
    rw p.0 (taken-set x r rs i p.1 h)

-- q stays apart from a set, where the new serial is not its own
apart : (z a b s : Bool) → not z && s ≡ false → (a ≡ false → s ≡ false → b ≡ false) → z || not a ≡ true → z || not b ≡ true
apart true a b s h f e = refl
apart false true b s h f e = absurd (let z : ◌≡◌ {A = ℕ} 0 1 = cc in omega arith)
apart false false b s h f e = rw (f refl h)

pub differ_set : (r : Rec) (rs : List Rec) (i : ℕ) → serials_differ rs ≡ true → serial_taken r.serial rs ≡ false → serials_differ (set rs i r) ≡ true
unfolding serials_differ serial_taken
differ_set r [] i e h = e
differ_set r (q ∷ rs) zero e h =
    let p = or_both (not (eqb q.kind a_free) && eqb q.serial r.serial) (serial_taken r.serial rs) h in
    let d = both (eqb q.kind a_free || not (serial_taken q.serial rs)) (serials_differ rs) e in
    rw (p.1, d.1, or-true (eqb r.kind a_free))
differ_set r (q ∷ rs) (suc i) e h =
    let p = or_both (not (eqb q.kind a_free) && eqb q.serial r.serial) (serial_taken r.serial rs) h in
    let d = both (eqb q.kind a_free || not (serial_taken q.serial rs)) (serials_differ rs) e in
    rw (apart (eqb q.kind a_free) (serial_taken q.serial rs) (serial_taken q.serial (set rs i r)) (eqb q.serial r.serial) p.0
    (λ a s. taken-set q.serial r rs i a (rw (ne_eqb r.serial q.serial (λ e. eqb-false q.serial r.serial s (sym e))) (and-false (not (eqb r.kind a_free))))) d.0)
    (differ_set r rs i d.1 p.1)

-- Counting

pub count_set : (k : ℕ) (r : Rec) (rs : List Rec) (i : ℕ) → count_kind k (set rs i r) ≤ count_kind k rs + if (eqb r.kind k) 1 0
unfolding count_kind
count_set k r [] i = omega arith
count_set k r (q ∷ rs) zero = omega arith
count_set k r (q ∷ rs) (suc i) = omega (arith, count_set k r rs i)

-- The next serial

serial_later : (n s : ℕ) → 1 ≤ n → n < 4294967296 → serial_right n s ≡ true → serial_right ((n + 1) % 4294967296) s ≡ true
unfolding serial_right
serial_later n s h g e =
    let q = both (leb 1 s) (if (eqb n 0) true (ltb s n)) e in
    let l : s < n = ltb-true s n (rw (ne_eqb n 0 (λ z. absurd (omega arith))) at q.1) in
    rw q.0 (go (eqb ((n + 1) % 4294967296) 0) refl l)
  where
    go : (z : Bool) → eqb ((n + 1) % 4294967296) 0 ≡ z → s < n → if z true (ltb s ((n + 1) % 4294967296)) ≡ true
    go true w l = refl
    go false w l = let x = eqb-false ((n + 1) % 4294967296) 0 w in lt-ltb s ((n + 1) % 4294967296) (omega arith)

life_later : (z a : Bool) (c n : ℕ) (r : Rec) → 1 ≤ n → n < 4294967296 → if z a (serial_right n r.serial && expiry_right c r) ≡ true
    → if z a (serial_right ((n + 1) % 4294967296) r.serial && expiry_right c r) ≡ true
life_later true a c n r h g e = e
life_later false a c n r h g e =
    let p = both (serial_right n r.serial) (expiry_right c r) e in
    rw (serial_later n r.serial h g p.0, p.1)

pub own_next : (c n : ℕ) (r : Rec) → 1 ≤ n → n < 4294967296 → own_right c n r ≡ true → own_right c ((n + 1) % 4294967296) r ≡ true
unfolding own_right
own_next c n r h g e =
    let p = own_life c n r e in
    rw p.0 (life_later (eqb r.kind a_free) (eqb r.serial 0 && eqb r.expiry 0) c n r h g p.1)

-- The record that is added: it has the next serial and would keep its rules in the table as it was
module _ (c n : ℕ) (old : List Rec) (all : all_right c n old old ≡ true) (h : 1 ≤ n) (g : n < 4294967296)
    (k : ℕ) (p : 1 ≤ k) (within : k ≤ length old) (free : (rec_at k old).kind ≡ 0) where
  unnamed_slot : Unnamed k old
  unnamed_slot = leaf_unnamed c n old all k p (λ e. omega arith) (λ e. omega arith)

  next_right : (slots : List Rec) (r : Rec) → rec_right c n slots r ≡ true → rec_right c ((n + 1) % 4294967296) slots r ≡ true
  next_right slots r e =
      let q = recs3 c n slots r e in
      rw (own_next c n r h g q.0, q.1, q.2)

  module _ (x : Rec) (right : rec_right c ((n + 1) % 4294967296) (put_at k x old) x ≡ true) where
    added_at : (j : ℕ) (d : Bool) → eqb j k ≡ d → rec_right c ((n + 1) % 4294967296) (put_at k x old) (rec_at j (put_at k x old)) ≡ true
    unfolding Unnamed
    added_at j true e = rw (eqb-true j k e, put_same x old k p within) right
    added_at j false e =
        rw (put_other x old k j (eqb-false j k e))
        (next_right (put_at k x old) (rec_at j old) (other_right c n old k x (rec_at j old) (unnamed_slot j).0 (unnamed_slot j).1 (right_slot c n old all j)))

    pub added_right : all_right c ((n + 1) % 4294967296) (put_at k x old) (put_at k x old) ≡ true
    added_right = right_all c ((n + 1) % 4294967296) (put_at k x old) (put_at k x old) (λ j. added_at (suc j) (eqb (suc j) k) refl)

put_differ : (x : Rec) (k : ℕ) (old : List Rec) → serials_differ old ≡ true → serial_taken x.serial old ≡ false → serials_differ (put_at k x old) ≡ true
put_differ x zero old e h = e
put_differ x (suc k) old e h = differ_set x old k e h

put_count : (j : ℕ) (x : Rec) (k : ℕ) (old : List Rec) → count_kind j (put_at k x old) ≤ count_kind j old + if (eqb x.kind j) 1 0
put_count j x zero old = omega arith
put_count j x (suc k) old = count_set j x old k

-- room for one: a serial, and a slot
pub record Room (t : Table) : Type 0 where
  pub serial : 1 ≤ t.next
  pub some : 1 ≤ slot_for t
  pub within : slot_for t ≤ length t.slots
  pub free : (rec_at (slot_for t) t.slots).kind ≡ 0

pub room_one : (t : Table) → room_for 1 t ≡ true → Room t
unfolding room_for slot_for
room_one t e =
    let p = both (leb 1 (count_kind a_free t.slots)) (eqb 1 0 || (leb 1 t.next && leb (t.next + 1) (2 ^ 32))) e in
    let q = both (leb 1 t.next) (leb (t.next + 1) (2 ^ 32)) p.1 in
    let s = slot_chosen is_free t.slots (free_found 1 t.slots (omega arith) (leb-true 1 (count_kind a_free t.slots) p.0)) in
    record {
      serial = leb-true 1 t.next q.0;
      some = s.some;
      within = s.within;
      free = eqb-true (rec_at (slot_where is_free t.slots) t.slots).kind 0 s.passes;
    }

-- a record that is added under room, with the next serial and its rules, keeps the table's
pub add_rules : (x : Rec) (t : Table) → Room t → t.next < 4294967296 → x.serial ≡ t.next
    → rec_right t.clock ((t.next + 1) % 4294967296) (put_at (slot_for t) x t.slots) x ≡ true
    → count_kind a_login t.slots + if (eqb x.kind a_login) 1 0 ≤ login_cap
    → Rules t → Rules (add x t)
unfolding add
add_rules x t m g s right cap r =
    record {
      clock = r.clock;
      records = added_right t.clock t.next t.slots r.records m.serial g (slot_for t) m.some m.within m.free x right;
      serials = put_differ x (slot_for t) t.slots r.serials (rw s (fresh_serial t.clock t.next t.slots t.slots r.records m.serial));
      logins = omega (arith, put_count a_login x (slot_for t) t.slots);
    }
