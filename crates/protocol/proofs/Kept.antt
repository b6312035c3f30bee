-- The rules are kept where records are taken out: by the clearing, by removal, by the end of a session. Assumes nothing.
use mathlib.Core.Path.{◌≡◌, refl, sym, ap, ◌∙◌}
use mathlib.Core.Bool.{Bool, true, false, ◌&&◌, ◌||◌, not}
use mathlib.Core.List.{List, [], ◌∷◌, map}
use Prim.Native.Nat.{ℕ, zero, suc, ◌+◌, ◌≤◌, ◌<◌, max}
use native.Mathlib.Omega.{arith}
use borrow.Author.Tests.{ne_eqb, eqb-true, eqb-false, leb-true, le-leb, ltb-true, ltb-false, lt-ltb}
use lib.Dec.{eqb, leb, ltb}
use lib.ListN.{length, get_or, set}
use Rattle.protocol.specs.Bytes.{if, all_within}
use Rattle.protocol.specs.Tickets.{a_free, a_session, a_service, a_proxy, a_grant, a_visit, lifetime, mark_most, depth_least, depth_most, text_least, text_most}
use Rattle.protocol.specs.Records.{Rec, free_rec, live, own_right, fields_right, since_right, text_right, serial_right, expiry_right}
use Rattle.protocol.specs.Table.{Table, table_of, rec_at, put_at, session_right, parent_right, grant_right, all_right, serial_taken, serials_differ, count_kind, last_time}
use lib.Seq.{get_or-set_other, get_or-set_same}
use Rattle.protocol.specs.Steps.{clear_rec, end_rec, tick, clear, remove, end_session}
use Rattle.protocol.proofs.Laws.{both, rec_right, right_cons, Rules, or_both}

-- a free record keeps every rule
pub free_right : (c n : ℕ) (slots : List Rec) → rec_right c n slots free_rec ≡ true
unfolding own_right fields_right since_right text_right mark_most depth_least depth_most text_least text_most all_within session_right parent_right
free_right c n slots = refl

-- the rules, record by record
pub right_at : (c n : ℕ) (slots rs : List Rec) → all_right c n slots rs ≡ true → (k : ℕ) → rec_right c n slots (get_or rs k free_rec) ≡ true
right_at c n slots [] e k = free_right c n slots
right_at c n slots (r ∷ rs) e zero = (right_cons c n slots r rs e).0
right_at c n slots (r ∷ rs) e (suc k) = right_at c n slots rs (right_cons c n slots r rs e).1 k

pub right_all : (c n : ℕ) (slots rs : List Rec) → ((k : ℕ) → rec_right c n slots (get_or rs k free_rec) ≡ true) → all_right c n slots rs ≡ true
unfolding all_right
right_all c n slots [] h = refl
right_all c n slots (r ∷ rs) h = rw (h 0) (right_all c n slots rs (λ k. h (suc k)))

pub right_slot : (c n : ℕ) (slots : List Rec) → all_right c n slots slots ≡ true → (k : ℕ) → rec_right c n slots (rec_at k slots) ≡ true
right_slot c n slots e zero = free_right c n slots
right_slot c n slots e (suc k) = right_at c n slots slots e k

-- some records taken out of their slots, the others as they were
pub data Pruned : List Rec → List Rec → Type 0 where
  none_left : Pruned [] []
  stays : {r : Rec} {rs ss : List Rec} → Pruned rs ss → Pruned (r ∷ rs) (r ∷ ss)
  goes : {r : Rec} {rs ss : List Rec} → Pruned rs ss → Pruned (r ∷ rs) (free_rec ∷ ss)

pub pruned_taken : (x : ℕ) {rs ss : List Rec} → Pruned rs ss → serial_taken x rs ≡ false → serial_taken x ss ≡ false
unfolding serial_taken
pruned_taken x none_left e = e
pruned_taken x (stays {r = r} {rs = rs} p) e =
    let q = or_both (not (eqb r.kind a_free) && eqb r.serial x) (serial_taken x rs) e in
    rw q.0 (pruned_taken x p q.1)
pruned_taken x (goes {r = r} {rs = rs} p) e = pruned_taken x p (or_both (not (eqb r.kind a_free) && eqb r.serial x) (serial_taken x rs) e).1

alone : (f a b : Bool) → (a ≡ false → b ≡ false) → f || not a ≡ true → f || not b ≡ true
alone true a b h e = refl
alone false true b h e = absurd (let z : ◌≡◌ {A = ℕ} 0 1 = cc in omega arith)
alone false false b h e = rw (h refl)

pub pruned_differ : {rs ss : List Rec} → Pruned rs ss → serials_differ rs ≡ true → serials_differ ss ≡ true
unfolding serials_differ
pruned_differ none_left e = e
pruned_differ (stays {r = r} {rs = rs} {ss = ss} p) e =
    let q = both (eqb r.kind a_free || not (serial_taken r.serial rs)) (serials_differ rs) e in
    rw (alone (eqb r.kind a_free) (serial_taken r.serial rs) (serial_taken r.serial ss) (pruned_taken r.serial p) q.0) (pruned_differ p q.1)
pruned_differ (goes {r = r} {rs = rs} p) e = pruned_differ p (both (eqb r.kind a_free || not (serial_taken r.serial rs)) (serials_differ rs) e).1

pub pruned_count : (k : ℕ) {rs ss : List Rec} → Pruned rs ss → count_kind (suc k) ss ≤ count_kind (suc k) rs
unfolding count_kind
pruned_count k none_left = omega arith
pruned_count k (stays {r = r} p) = omega (arith, pruned_count k p)
pruned_count k (goes {r = r} p) = rw (ne_eqb 0 (suc k) (omega arith)) (omega (arith, pruned_count k p))

-- a record whose session and parent are as they were keeps its rules
pub same_links : (c n : ℕ) (old new : List Rec) (r : Rec) → rec_at r.session new ≡ rec_at r.session old → rec_at r.parent new ≡ rec_at r.parent old
    → (session_right new r ≡ session_right old r) × (parent_right new r ≡ parent_right old r)
unfolding session_right parent_right grant_right
same_links c n old new r es ep = (rw es, rw ep)

-- time passes: a record keeps its own rules
later : (z a s : Bool) (c c' : ℕ) (r : Rec) → c ≤ c' → if z a (s && expiry_right c r) ≡ true → if z a (s && expiry_right c' r) ≡ true
unfolding expiry_right
later true a s c c' r o h = h
later false a s c c' r o h =
    let p = both s (leb r.expiry (c + lifetime r.kind)) h in
    rw (p.0, le-leb r.expiry (c' + lifetime r.kind) (omega (arith, leb-true r.expiry (c + lifetime r.kind) p.1)))

since_later : (z : Bool) (c c' m : ℕ) → c ≤ c' → if z (leb m c) (eqb m 0) ≡ true → if z (leb m c') (eqb m 0) ≡ true
since_later true c c' m o h = le-leb m c' (omega (arith, leb-true m c h))
since_later false c c' m o h = h

own_later : (c c' n : ℕ) (r : Rec) → c ≤ c' → own_right c n r ≡ true → own_right c' n r ≡ true
unfolding own_right since_right
own_later c c' n r o h =
    let p = both (fields_right r && since_right c r) (if (eqb r.kind a_free) (eqb r.serial 0 && eqb r.expiry 0) (serial_right n r.serial && expiry_right c r)) h in
    let f = both (fields_right r) (since_right c r) p.0 in
    rw (f.0, since_later (eqb r.kind a_session) c c' r.since o f.1) (later (eqb r.kind a_free) (eqb r.serial 0 && eqb r.expiry 0) (serial_right n r.serial) c c' r o p.1)

-- What the session rule says of a record: it names none, or one that lasts as long
pub data SessionView (slots : List Rec) (r : Rec) : Type 0 where
  unnamed : r.kind < 3 → r.session ≡ 0 → SessionView slots r
  named : 3 ≤ r.kind → (rec_at r.session slots).kind ≡ 2 → r.expiry ≤ (rec_at r.session slots).expiry
      → (r.kind ≡ 6 → r.expiry ≡ (rec_at r.session slots).expiry) → SessionView slots r

session_cases : (slots : List Rec) (r : Rec) (z w : Bool) → ltb r.kind a_service ≡ z → eqb r.kind a_grant || eqb r.kind a_visit ≡ w
    → if z (eqb r.session 0) (eqb (rec_at r.session slots).kind a_session && (if w (eqb r.expiry (rec_at r.session slots).expiry) (leb r.expiry (rec_at r.session slots).expiry))) ≡ true
    → SessionView slots r
session_cases slots r true w h g e = unnamed (ltb-true r.kind 3 h) (eqb-true r.session 0 e)
session_cases slots r false true h g e =
    let p = both (eqb (rec_at r.session slots).kind a_session) (eqb r.expiry (rec_at r.session slots).expiry) e in
    let q : r.expiry ≡ (rec_at r.session slots).expiry = eqb-true r.expiry (rec_at r.session slots).expiry p.1 in
    named (ltb-false r.kind 3 h) (eqb-true (rec_at r.session slots).kind 2 p.0) (omega arith) (λ k. q)
session_cases slots r false false h g e =
    let p = both (eqb (rec_at r.session slots).kind a_session) (leb r.expiry (rec_at r.session slots).expiry) e in
    named (ltb-false r.kind 3 h) (eqb-true (rec_at r.session slots).kind 2 p.0) (leb-true r.expiry (rec_at r.session slots).expiry p.1) (λ k. absurd (eqb-false r.kind 6 (or_both (eqb r.kind a_grant) (eqb r.kind a_visit) g).0 k))

pub session_view : (slots : List Rec) (r : Rec) → session_right slots r ≡ true → SessionView slots r
unfolding session_right
session_view slots r e = session_cases slots r (ltb r.kind a_service) (eqb r.kind a_grant || eqb r.kind a_visit) refl refl e

-- What the parent rule says: none, its session, or a grant of the same session
pub data ParentView (slots : List Rec) (r : Rec) : Type 0 where
  orphan : r.parent ≡ 0 → ParentView slots r
  of_session_lem : 3 ≤ r.kind → (r.kind ≡ 4 → ⊥) → r.parent ≡ r.session → ParentView slots r
  of_grant : 3 < r.kind → (rec_at r.parent slots).kind ≡ 6 → (rec_at r.parent slots).session ≡ r.session → ParentView slots r

above : (k : ℕ) → 3 ≤ k → (k ≡ 3 → ⊥) → 3 < k
above k h g = omega arith

grant_view : (slots : List Rec) (r : Rec) → 3 < r.kind → grant_right slots r ≡ true → ParentView slots r
unfolding grant_right
grant_view slots r h e =
    let p = both (eqb (rec_at r.parent slots).kind a_grant) (eqb (rec_at r.parent slots).session r.session) e in
    of_grant h (eqb-true (rec_at r.parent slots).kind 6 p.0) (eqb-true (rec_at r.parent slots).session r.session p.1)

parent_cases : (slots : List Rec) (r : Rec) (z v w d : Bool) (x : ℕ) → ltb r.kind a_service ≡ z → eqb r.kind a_service || eqb r.kind a_visit ≡ v
    → if z (eqb r.parent 0) (if v (eqb r.parent r.session) (if w (grant_right slots r) (if d (eqb r.parent 0) (grant_right slots r && eqb r.depth x)))) ≡ true
    → ParentView slots r
parent_cases slots r true v w d x h g e = orphan (eqb-true r.parent 0 e)
parent_cases slots r false true w d x h g e =
    of_session_lem (ltb-false r.kind 3 h) (λ q. absurd (let y : ◌≡◌ {A = Bool} false true = rw q at g in let z : ◌≡◌ {A = ℕ} 0 1 = ap (λ (b : Bool). if b 1 0) y in omega arith)) (eqb-true r.parent r.session e)
parent_cases slots r false false true d x h g e = grant_view slots r (above r.kind (ltb-false r.kind 3 h) (eqb-false r.kind 3 (or_both (eqb r.kind a_service) (eqb r.kind a_visit) g).0)) e
parent_cases slots r false false false true x h g e = orphan (eqb-true r.parent 0 e)
parent_cases slots r false false false false x h g e =
    grant_view slots r (above r.kind (ltb-false r.kind 3 h) (eqb-false r.kind 3 (or_both (eqb r.kind a_service) (eqb r.kind a_visit) g).0)) (both (grant_right slots r) (eqb r.depth x) e).0

pub parent_view : (slots : List Rec) (r : Rec) → parent_right slots r ≡ true → ParentView slots r
unfolding parent_right
parent_view slots r e = parent_cases slots r (ltb r.kind a_service) (eqb r.kind a_service || eqb r.kind a_visit) (eqb r.kind a_proxy) (eqb r.depth 1) ((rec_at r.parent slots).depth + 1) refl refl e

-- The clearing

if-same : (z : Bool) → if z free_rec free_rec ≡ free_rec
if-same true = refl
if-same false = refl

map_slot : (f : Rec → Rec) → f free_rec ≡ free_rec → (slots : List Rec) (k : ℕ) → rec_at k (map f slots) ≡ f (rec_at k slots)
map_slot f e slots zero = sym e
map_slot f e [] (suc k) = sym e
map_slot f e (r ∷ rs) (suc zero) = refl
map_slot f e (r ∷ rs) (suc (suc k)) = map_slot f e rs (suc k)

pub clear_slot : (c : ℕ) (slots : List Rec) (k : ℕ) → rec_at k (map (clear_rec c) slots) ≡ clear_rec c (rec_at k slots)
clear_slot c slots k = map_slot (clear_rec c) (if-same (ltb c 0)) slots k

pub clear_pruned : (c : ℕ) (slots : List Rec) → Pruned slots (map (clear_rec c) slots)
clear_pruned c [] = none_left
clear_pruned c (r ∷ rs) = elim (live c r) as (λ z. Pruned (r ∷ rs) (if z r free_rec ∷ map (clear_rec c) rs)) [ true ↦ stays (clear_pruned c rs) | false ↦ goes (clear_pruned c rs) ]

pub recs3 : (c n : ℕ) (slots : List Rec) (r : Rec) → rec_right c n slots r ≡ true → (own_right c n r ≡ true) × (session_right slots r ≡ true) × (parent_right slots r ≡ true)
recs3 c n slots r e =
    let p = both (own_right c n r && session_right slots r) (parent_right slots r) e in
    let q = both (own_right c n r) (session_right slots r) p.0 in
    (q.0, q.1, p.1)

-- the clock's move keeps the rules
later_right : (c c' n : ℕ) → c ≤ c' → (slots : List Rec) (r : Rec) → rec_right c n slots r ≡ true → rec_right c' n slots r ≡ true
later_right c c' n o slots r e = let p = recs3 c n slots r e in rw (own_later c c' n r o p.0, p.1, p.2)

pub tick_rules : (time : ℕ) (t : Table) → time ≤ last_time → Rules t → Rules (tick time t)
unfolding tick
tick_rules time t h r =
    record {
      clock = omega (arith, r.clock);
      records = right_all (max t.clock time) t.next t.slots t.slots (λ k. later_right t.clock (max t.clock time) t.next (omega arith) t.slots (rec_at (suc k) t.slots) (right_slot t.clock t.next t.slots r.records (suc k)));
      serials = r.serials;
      logins = r.logins;
    }

module _ (c n : ℕ) (old : List Rec) (all : all_right c n old old ≡ true) where
  -- a record that is live stays where it is
  stays_at : (k : ℕ) → c < (rec_at k old).expiry → rec_at k (map (clear_rec c) old) ≡ rec_at k old
  stays_at k h = clear_slot c old k ∙ rw (lt-ltb c (rec_at k old).expiry h)

  session_stays : (r : Rec) → c < r.expiry → SessionView old r → rec_at r.session (map (clear_rec c) old) ≡ rec_at r.session old
  session_stays r l (unnamed h e) = rw e
  session_stays r l (named h e m g) = stays_at r.session (omega arith)

  -- a parent grant lasts as long as the session, so as long as the record
  grant_lasts : (r p : Rec) → 3 < r.kind → p.session ≡ r.session → p.kind ≡ 6 → SessionView old r → SessionView old p → r.expiry ≤ p.expiry
  grant_lasts r p h s k (unnamed a b) w = absurd (omega arith)
  grant_lasts r p h s k (named a b m g) (unnamed x y) = absurd (omega arith)
  grant_lasts r p h s k (named a b m g) (named x y z w) = let e = w k in let q : rec_at p.session old ≡ rec_at r.session old = rw s in omega (arith, ap (λ (u : Rec). u.expiry) q)

  parent_stays : (r : Rec) → c < r.expiry → SessionView old r → ParentView old r → rec_at r.parent (map (clear_rec c) old) ≡ rec_at r.parent old
  parent_stays r l v (orphan e) = rw e
  parent_stays r l v (of_session_lem k n e) = rw e (session_stays r l v)
  parent_stays r l v (of_grant h k s) =
      let w : SessionView old (rec_at r.parent old) = session_view old (rec_at r.parent old) (recs3 c n old (rec_at r.parent old) (right_slot c n old all r.parent)).1 in
      stays_at r.parent (omega (arith, grant_lasts r (rec_at r.parent old) h s k v w))

  cleared_right : (r : Rec) → rec_right c n old r ≡ true → (z : Bool) → live c r ≡ z → rec_right c n (map (clear_rec c) old) (if z r free_rec) ≡ true
  cleared_right r e true h =
      let l : c < r.expiry = ltb-true c r.expiry h in
      let p = recs3 c n old r e in
      let v = session_view old r p.1 in
      let w = parent_view old r p.2 in
      let s = same_links c n old (map (clear_rec c) old) r (session_stays r l v) (parent_stays r l v w) in
      rw (p.0, s.0, s.1, p.1, p.2)
  cleared_right r e false h = free_right c n (map (clear_rec c) old)

  pub clear_right : all_right c n (map (clear_rec c) old) (map (clear_rec c) old) ≡ true
  clear_right = right_all c n (map (clear_rec c) old) (map (clear_rec c) old) (λ k. rw (clear_slot c old (suc k)) (cleared_right (rec_at (suc k) old) (right_slot c n old all (suc k)) (live c (rec_at (suc k) old)) refl))

-- so does the clearing
pub clear_rules : (t : Table) → Rules t → Rules (clear t)
unfolding clear
clear_rules t r =
    record {
      clock = r.clock;
      records = clear_right t.clock t.next t.slots r.records;
      serials = pruned_differ (clear_pruned t.clock t.slots) r.serials;
      logins = omega (arith, r.logins, pruned_count 0 (clear_pruned t.clock t.slots));
    }

-- Removal

pub put_other : (r : Rec) (slots : List Rec) (k j : ℕ) → (j ≡ k → ⊥) → rec_at j (put_at k r slots) ≡ rec_at j slots
put_other r slots zero j h = refl
put_other r slots (suc k) zero h = refl
put_other r slots (suc k) (suc j) h = get_or-set_other slots k j r free_rec (λ e. h (ap suc e))

pub put_same : (r : Rec) (slots : List Rec) (k : ℕ) → 1 ≤ k → k ≤ length slots → rec_at k (put_at k r slots) ≡ r
put_same r slots zero h g = absurd (omega arith)
put_same r slots (suc k) h g = get_or-set_same slots k r free_rec (omega arith)

free_beyond : (slots : List Rec) (k : ℕ) → get_or (set slots k free_rec) k free_rec ≡ free_rec
free_beyond [] k = refl
free_beyond (r ∷ rs) zero = refl
free_beyond (r ∷ rs) (suc k) = free_beyond rs k

pub remove-same : (slots : List Rec) (k : ℕ) → rec_at k (put_at k free_rec slots) ≡ free_rec
remove-same slots zero = refl
remove-same slots (suc k) = free_beyond slots k

-- every record as it was
kept_all : (slots : List Rec) → Pruned slots slots
kept_all [] = none_left
kept_all (r ∷ rs) = stays (kept_all rs)

set_pruned : (slots : List Rec) (k : ℕ) → Pruned slots (set slots k free_rec)
set_pruned [] k = none_left
set_pruned (r ∷ rs) zero = goes (kept_all rs)
set_pruned (r ∷ rs) (suc k) = stays (set_pruned rs k)

pub remove_pruned : (slots : List Rec) (k : ℕ) → Pruned slots (put_at k free_rec slots)
remove_pruned slots zero = kept_all slots
remove_pruned slots (suc k) = set_pruned slots k

-- a record that does not name slot k keeps its rules where that slot changes
pub other_right : (c n : ℕ) (old : List Rec) (k : ℕ) (x r : Rec) → (r.session ≡ k → ⊥) → (r.parent ≡ k → ⊥)
    → rec_right c n old r ≡ true → rec_right c n (put_at k x old) r ≡ true
other_right c n old k x r hs hp e =
    let p = recs3 c n old r e in
    let s = same_links c n old (put_at k x old) r (put_other x old k r.session hs) (put_other x old k r.parent hp) in
    rw (p.0, s.0, s.1, p.1, p.2)

-- no other record names slot k
unfoldable pub Unnamed : ℕ → List Rec → Type 0
Unnamed k slots = (j : ℕ) → ((rec_at j slots).session ≡ k → ⊥) × ((rec_at j slots).parent ≡ k → ⊥)

module _ (c n : ℕ) (old : List Rec) (all : all_right c n old old ≡ true) (k : ℕ) (u : Unnamed k old) where
  removed_right : (j : ℕ) (d : Bool) → eqb j k ≡ d → rec_right c n (put_at k free_rec old) (rec_at j (put_at k free_rec old)) ≡ true
  unfolding Unnamed
  removed_right j true h = rw (eqb-true j k h, remove-same old k) (free_right c n (put_at k free_rec old))
  removed_right j false h =
      rw (put_other free_rec old k j (eqb-false j k h)) (other_right c n old k free_rec (rec_at j old) (u j).0 (u j).1 (right_slot c n old all j))

  pub remove_right : all_right c n (put_at k free_rec old) (put_at k free_rec old) ≡ true
  remove_right = right_all c n (put_at k free_rec old) (put_at k free_rec old) (λ j. removed_right (suc j) (eqb (suc j) k) refl)

pub remove_rules : (k : ℕ) (t : Table) → Unnamed k t.slots → Rules t → Rules (remove k t)
remove_rules k t u r =
    record {
      clock = r.clock;
      records = remove_right t.clock t.next t.slots r.records k u;
      serials = pruned_differ (remove_pruned t.slots k) r.serials;
      logins = omega (arith, r.logins, pruned_count 0 (remove_pruned t.slots k));
    }

-- a slot whose record is no session and no grant is named by nobody
module _ (c n : ℕ) (old : List Rec) (all : all_right c n old old ≡ true) (k : ℕ) (p : 1 ≤ k) (a : (rec_at k old).kind ≡ 2 → ⊥) where
  not_session : (r : Rec) → SessionView old r → r.session ≡ k → ⊥
  not_session r (unnamed h e) q = omega arith
  not_session r (named h e m g) q = a (ap (λ (j : ℕ). (rec_at j old).kind) (sym q) ∙ e)

  not_parent : ((rec_at k old).kind ≡ 6 → ⊥) → (r : Rec) → SessionView old r → ParentView old r → r.parent ≡ k → ⊥
  not_parent b r v (orphan e) q = omega arith
  not_parent b r v (of_session_lem h n e) q = not_session r v (sym e ∙ q)
  not_parent b r v (of_grant h e s) q = b (ap (λ (j : ℕ). (rec_at j old).kind) (sym q) ∙ e)

  pub leaf_unnamed : ((rec_at k old).kind ≡ 6 → ⊥) → Unnamed k old
  unfolding Unnamed
  leaf_unnamed b j =
      let x = recs3 c n old (rec_at j old) (right_slot c n old all j) in
      let v = session_view old (rec_at j old) x.1 in
      (not_session (rec_at j old) v, not_parent b (rec_at j old) v (parent_view old (rec_at j old) x.2))

-- The end of a session

pub end_slot : (s : ℕ) (slots : List Rec) (k : ℕ) → rec_at k (map (end_rec s) slots) ≡ end_rec s (rec_at k slots)
end_slot s slots k = map_slot (end_rec s) (if-same (eqb 0 s)) slots k

pub end_pruned : (s : ℕ) (slots : List Rec) → Pruned slots (map (end_rec s) slots)
end_pruned s [] = none_left
end_pruned s (r ∷ rs) = elim (eqb r.session s) as (λ z. Pruned (r ∷ rs) (if z free_rec r ∷ map (end_rec s) rs)) [ true ↦ goes (end_pruned s rs) | false ↦ stays (end_pruned s rs) ]

module _ (c n : ℕ) (old : List Rec) (all : all_right c n old old ≡ true) (s : ℕ) (p : 1 ≤ s) (is : (rec_at s old).kind ≡ 2) where
  view : (k : ℕ) → SessionView old (rec_at k old)
  view k = session_view old (rec_at k old) (recs3 c n old (rec_at k old) (right_slot c n old all k)).1

  spared : (k : ℕ) → ((rec_at k old).session ≡ s → ⊥) → rec_at k (map (end_rec s) old) ≡ rec_at k old
  spared k h = end_slot s old k ∙ rw (ne_eqb (rec_at k old).session s h)

  -- a session names none
  session_bare : (r : Rec) → r.kind ≡ 2 → SessionView old r → r.session ≡ s → ⊥
  session_bare r k (unnamed h e) q = omega arith
  session_bare r k (named h e m g) q = omega arith

  session_spared : (r : Rec) → SessionView old r → rec_at r.session (map (end_rec s) old) ≡ rec_at r.session old
  session_spared r (unnamed h e) = rw e
  session_spared r (named h e m g) = spared r.session (session_bare (rec_at r.session old) e (view r.session))

  parent_spared : (r : Rec) → (r.session ≡ s → ⊥) → SessionView old r → ParentView old r → rec_at r.parent (map (end_rec s) old) ≡ rec_at r.parent old
  parent_spared r h v (orphan e) = rw e
  parent_spared r h v (of_session_lem k n e) = rw e (session_spared r v)
  parent_spared r h v (of_grant g k e) = spared r.parent (λ q. h (sym e ∙ q))

  ended_right : (r : Rec) → rec_right c n old r ≡ true → (z : Bool) → eqb r.session s ≡ z → rec_right c n (map (end_rec s) old) (if z free_rec r) ≡ true
  ended_right r e true h = free_right c n (map (end_rec s) old)
  ended_right r e false h =
      let q = recs3 c n old r e in
      let v = session_view old r q.1 in
      let w = same_links c n old (map (end_rec s) old) r (session_spared r v) (parent_spared r (eqb-false r.session s h) v (parent_view old r q.2)) in
      rw (q.0, w.0, w.1, q.1, q.2)

  pub end_right : all_right c n (map (end_rec s) old) (map (end_rec s) old) ≡ true
  end_right = right_all c n (map (end_rec s) old) (map (end_rec s) old) (λ k. rw (end_slot s old (suc k)) (ended_right (rec_at (suc k) old) (right_slot c n old all (suc k)) (eqb (rec_at (suc k) old).session s) refl))

  -- then nobody names it
  bare : (r : Rec) (z : Bool) → eqb r.session s ≡ z → (if z free_rec r).session ≡ s → ⊥
  bare r true h q = omega arith
  bare r false h q = eqb-false r.session s h q

  still : (rec_at s (map (end_rec s) old)).kind ≡ 2
  still = ap (λ (r : Rec). r.kind) (spared s (session_bare (rec_at s old) is (view s))) ∙ is

  apart : (r : Rec) → (r.session ≡ s → ⊥) → ParentView (map (end_rec s) old) r → r.parent ≡ s → ⊥
  apart r h (orphan e) q = omega arith
  apart r h (of_session_lem k n e) q = h (sym e ∙ q)
  apart r h (of_grant g k e) q = let x : (rec_at s (map (end_rec s) old)).kind ≡ 6 = ap (λ (j : ℕ). (rec_at j (map (end_rec s) old)).kind) (sym q) ∙ k in let y = still in omega arith

  pub end_unnamed : Unnamed s (map (end_rec s) old)
  unfolding Unnamed
  end_unnamed j =
      let h : (rec_at j (map (end_rec s) old)).session ≡ s → ⊥ = rw (end_slot s old j) (bare (rec_at j old) (eqb (rec_at j old).session s) refl) in
      let q = recs3 c n (map (end_rec s) old) (rec_at j (map (end_rec s) old)) (right_slot c n (map (end_rec s) old) end_right j) in
      (h, apart (rec_at j (map (end_rec s) old)) h (parent_view (map (end_rec s) old) (rec_at j (map (end_rec s) old)) q.2))

pub end_rules : (s : ℕ) (t : Table) → 1 ≤ s → (rec_at s t.slots).kind ≡ 2 → Rules t → Rules (end_session s t)
unfolding end_session
end_rules s t p is r =
    remove_rules s (table_of t.clock t.next (map (end_rec s) t.slots)) (end_unnamed t.clock t.next t.slots r.records s p is)
    (record {
      clock = r.clock;
      records = end_right t.clock t.next t.slots r.records s p is;
      serials = pruned_differ (end_pruned s t.slots) r.serials;
      logins = omega (arith, r.logins, pruned_count 0 (end_pruned s t.slots));
    })
