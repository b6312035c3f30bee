-- A sound table with a new record is sound: a login ticket, a session, a service ticket, a waiting grant, a proxy ticket. Assumes nothing.
use mathlib.Core.Path.{◌≡◌, refl, ap, ◌∙◌}
use mathlib.Core.Bool.{true}
use mathlib.Core.List.{List, []}
use Prim.Native.Nat.{ℕ, zero, suc, ◌+◌, ◌%◌, ◌≤◌, ◌<◌, min}
use native.Mathlib.Omega.{arith}
use borrow.Author.Tests.{eq-eqb, ne_eqb, le-leb, le-ltb}
use lib.Dec.{eqb}
use lib.ListN.{length}
use Rattle.protocol.specs.Utf8.{name_right}
use Rattle.protocol.specs.Bytes.{if, all_within}
use Rattle.protocol.specs.Tickets.{a_login, lifetime, mark_most, depth_least, depth_most, text_least, text_most, deepest}
use Rattle.protocol.specs.Records.{Rec}
use Rattle.protocol.specs.Table.{Table, rec_at, put_at, session_right, parent_right, grant_right, count_kind, login_cap}
use Rattle.protocol.specs.Steps.{slot_for, expiry_for, new_rec, add}
use Rattle.protocol.proofs.Laws.{Own, own, rec_right}
use Rattle.protocol.proofs.Kept.{SessionView, unnamed, named, ParentView, session_view, parent_view, recs3, right_slot, same_links, put_other}
use Rattle.protocol.proofs.Added.{Room}
use Rattle.protocol.proofs.Searches.{slot_within, Live}
use Rattle.protocol.proofs.Sound.{Sound, new_kind, new_fits, new_own, add_sound}

-- What a record's links say

module _ (t : Table) (s : Sound t) where
  pub view : (k : ℕ) → SessionView t.slots (rec_at k t.slots)
  view k = session_view t.slots (rec_at k t.slots) (recs3 t.clock t.next t.slots (rec_at k t.slots) (right_slot t.clock t.next t.slots s.rules.records k)).1

  pub parents : (k : ℕ) → ParentView t.slots (rec_at k t.slots)
  parents k = parent_view t.slots (rec_at k t.slots) (recs3 t.clock t.next t.slots (rec_at k t.slots) (right_slot t.clock t.next t.slots s.rules.records k)).2

  pub owned : (k : ℕ) → Own t.clock t.next (rec_at k t.slots)
  owned k = own t.clock t.next (rec_at k t.slots) (recs3 t.clock t.next t.slots (rec_at k t.slots) (right_slot t.clock t.next t.slots s.rules.records k)).0

  -- a session that is named is a slot
  pub slot_some : (j : ℕ) → (rec_at j t.slots).kind ≡ 2 → 1 ≤ j
  slot_some zero e = absurd (omega arith)
  slot_some (suc j) e = omega arith

-- New records, and the table with them

-- a record of kind 3 to 5 under a session keeps the session rule
pub new_session_lem : (kind mark parent s depth : ℕ) (text random : List ℕ) (t : Table) → 3 ≤ kind → kind < 6 → 1 ≤ s → (rec_at s t.slots).kind ≡ 2
    → session_right t.slots (new_rec kind mark parent s depth text random t) ≡ true
unfolding session_right new_rec expiry_for
new_session_lem kind mark parent s depth text random t h g p e =
    rw (
      le-ltb kind 3 h,
      eq-eqb (rec_at s t.slots).kind 2 e,
      ne_eqb kind 6 (λ z. omega arith),
      ne_eqb kind 7 (λ z. omega arith),
      le-leb (if (eqb s 0) (t.clock + lifetime kind) (min (t.clock + lifetime kind) (rec_at s t.slots).expiry)) (rec_at s t.slots).expiry (rw (ne_eqb s 0 (λ e. omega arith)) (omega arith)),
    )

-- a new record whose links are right in the table as it is is right in the table with it
pub linked : (x : Rec) (t : Table) (n : ℕ) → (x.session ≡ slot_for t → ⊥) → (x.parent ≡ slot_for t → ⊥) → rec_right t.clock n t.slots x ≡ true
    → rec_right t.clock n (put_at (slot_for t) x t.slots) x ≡ true
linked x t n hs hp e =
    let p = recs3 t.clock n t.slots x e in
    let s = same_links t.clock n t.slots (put_at (slot_for t) x t.slots) x (put_other x t.slots (slot_for t) x.session hs) (put_other x t.slots (slot_for t) x.parent hp) in
    rw (p.0, s.0, s.1, p.1, p.2)

module _ (random : List ℕ) (h : length random ≡ 48) (t : Table) (s : Sound t) (m : Room t) where
  -- a new record's slot is no slot that is taken, and not 0
  not_new : (j : ℕ) → ((rec_at j t.slots).kind ≡ 0 → ⊥) → j ≡ slot_for t → ⊥
  not_new j a e = a (ap (λ (i : ℕ). (rec_at i t.slots).kind) e ∙ m.free)

  zero_slot : (j : ℕ) → j ≡ 0 → j ≡ slot_for t → ⊥
  zero_slot j e q = omega (arith, m.some)

  small : (j : ℕ) → ((rec_at j t.slots).kind ≡ 0 → ⊥) → j < 65536
  small j a = omega (arith, slot_within t.slots j a, s.few)

  -- a login ticket
  login_right : rec_right t.clock ((t.next + 1) % 4294967296) t.slots (new_rec 1 0 0 0 0 [] random t) ≡ true
  unfolding new_rec session_right parent_right mark_most depth_least depth_most text_least text_most all_within
  login_right =
      rw (new_own 1 0 0 0 0 [] random t (new_kind random h 1 (omega arith) (omega arith)) (omega arith) (omega arith) (omega arith) (omega arith) (omega arith) refl m.serial s.next)

  pub login_sound : count_kind a_login t.slots < login_cap → Sound (add (new_rec 1 0 0 0 0 [] random t) t)
  unfolding new_rec
  login_sound cap =
      add_sound (new_rec 1 0 0 0 0 [] random t) t m refl (linked (new_rec 1 0 0 0 0 [] random t) t ((t.next + 1) % 4294967296) (zero_slot 0 refl) (zero_slot 0 refl) login_right)
      (omega arith) (new_fits 1 0 0 0 0 [] random t (omega arith) (omega arith) (omega arith) h s) s

  -- a session
  pub session_sound : (user : List ℕ) → 1 ≤ length user → length user ≤ 64 → name_right user ≡ true → Sound (add (new_rec 2 0 0 0 0 user random t) t)
  unfolding new_rec session_right parent_right mark_most depth_least depth_most text_least text_most
  session_sound user lo hi w =
      add_sound (new_rec 2 0 0 0 0 user random t) t m refl
      (linked (new_rec 2 0 0 0 0 user random t) t ((t.next + 1) % 4294967296) (zero_slot 0 refl) (zero_slot 0 refl)
      (rw (new_own 2 0 0 0 0 user random t (new_kind random h 2 (omega arith) (omega arith)) (omega arith) (omega arith) (omega arith) lo hi w m.serial s.next)))
      (omega (arith, s.rules.logins)) (new_fits 2 0 0 0 0 user random t (omega arith) (omega arith) (omega arith) h s) s

  -- a service ticket of a live session
  module _ (k : ℕ) (p : 1 ≤ k) (is : (rec_at k t.slots).kind ≡ 2) where
    held : (rec_at k t.slots).kind ≡ 0 → ⊥
    held e = omega arith

    module _ (mark : ℕ) (service : List ℕ) where
      abbrev new_ticket : Rec
      new_ticket = new_rec 3 mark k k 0 service random t

      ticket_links : (new_ticket.session ≡ slot_for t → ⊥) × (new_ticket.parent ≡ slot_for t → ⊥) × (parent_right t.slots new_ticket ≡ true) × (new_ticket.serial ≡ t.next) × (new_ticket.kind ≡ 3)
      unfolding new_rec parent_right
      ticket_links = (not_new k held, not_new k held, eq-eqb k k refl, refl, refl)

      pub service_sound : mark ≤ 1 → 1 ≤ length service → length service ≤ 200 → all_within 32 126 service ≡ true → Sound (add new_ticket t)
      unfolding mark_most depth_least depth_most text_least text_most
      service_sound hm lo hi w =
          let own = new_own 3 mark k k 0 service random t (new_kind random h 3 (omega arith) (omega arith)) hm (omega arith) (omega arith) lo hi w m.serial s.next in
          let sess = new_session_lem 3 mark k k 0 service random t (omega arith) (omega arith) p is in
          let q = ticket_links in
          add_sound new_ticket t m q.3 (linked new_ticket t ((t.next + 1) % 4294967296) q.0 q.1 (rw (own, sess, q.2))) (rw q.4 (omega (arith, s.rules.logins)))
          (new_fits 3 mark k k 0 service random t (small k held) (small k held) hi h s) s

-- What a waiting grant stands on, in the table without the ticket: a session, and no parent or a grant of that session

pub data ParentBase (t : Table) (parent session : ℕ) : Type 0 where
  none_above : parent ≡ 0 → ParentBase t parent session
  grant_above : (rec_at parent t.slots).kind ≡ 6 → (rec_at parent t.slots).session ≡ session → ParentBase t parent session

pub record Base (t : Table) (parent session : ℕ) : Type 0 where
  pub some : 1 ≤ session
  pub is : (rec_at session t.slots).kind ≡ 2
  pub above : ParentBase t parent session

-- A waiting grant

module _ (random : List ℕ) (h : length random ≡ 48) (t : Table) (s : Sound t) (m : Room t) where
  module _ (mark parent session : ℕ) (url : List ℕ) (b : Base t parent session) where
    abbrev waiting : Rec
    waiting = new_rec 5 mark parent session ((rec_at parent t.slots).depth + 1) url random t

    parent_ok : ParentBase t parent session → (parent_right t.slots waiting ≡ true) × (parent ≡ slot_for t → ⊥) × (parent < 65536)
    unfolding new_rec parent_right grant_right depth_least
    parent_ok (none_above e) = (rw e refl, zero_slot random h t s m parent e, omega arith)
    parent_ok (grant_above e q) =
        let o = owned t s parent in
        let d : 1 ≤ (rec_at parent t.slots).depth = rw e at o.shallow in (
          rw (ne_eqb ((rec_at parent t.slots).depth + 1) 1 (λ x. omega arith), eq-eqb (rec_at parent t.slots).kind 6 e, eq-eqb (rec_at parent t.slots).session session q, eq-eqb ((rec_at parent t.slots).depth + 1) ((rec_at parent t.slots).depth + 1) refl),
          not_new random h t s m parent (λ x. omega arith),
          small random h t s m parent (λ x. omega arith),
        )

    facts : (waiting.serial ≡ t.next) × (waiting.kind ≡ 5) × (waiting.session ≡ session) × (waiting.parent ≡ parent)
    unfolding new_rec
    facts = (refl, refl, refl, refl)

    pub waiting_sound : mark ≤ 1 → (rec_at parent t.slots).depth + 1 ≤ deepest → 1 ≤ length url → length url ≤ 200 → all_within 32 126 url ≡ true → Sound (add waiting t)
    unfolding mark_most depth_least depth_most text_least text_most
    waiting_sound hm hd lo hi w =
        let own = new_own 5 mark parent session ((rec_at parent t.slots).depth + 1) url random t (new_kind random h 5 (omega arith) (omega arith)) hm (omega arith) hd lo hi w m.serial s.next in
        let sess = new_session_lem 5 mark parent session ((rec_at parent t.slots).depth + 1) url random t (omega arith) (omega arith) b.some b.is in
        let p = parent_ok b.above in
        let f = facts in
        add_sound waiting t m f.0 (linked waiting t ((t.next + 1) % 4294967296) (rw f.2 (not_new random h t s m session (λ x. omega (arith, b.is)))) (rw f.3 p.1) (rw (own, sess, p.0)))
        (rw f.1 (omega (arith, s.rules.logins)))
        (new_fits 5 mark parent session ((rec_at parent t.slots).depth + 1) url random t p.2 (small random h t s m session (λ x. omega (arith, b.is))) hi h s) s

-- A proxy ticket

module _ (random : List ℕ) (h : length random ≡ 48) (t : Table) (s : Sound t) (m : Room t) (k : ℕ) (l : Live 6 t k) (target : List ℕ) where
  abbrev session : ℕ
  session = (rec_at k t.slots).session

  abbrev proxy_rec : Rec
  proxy_rec = new_rec 4 0 k session 0 target random t

  under : SessionView t.slots (rec_at k t.slots) → (rec_at session t.slots).kind ≡ 2
  under (unnamed a b) = absurd (omega (arith, l.is))
  under (named a b c d) = b

  proxy_links : (parent_right t.slots proxy_rec ≡ true) × (proxy_rec.serial ≡ t.next) × (proxy_rec.kind ≡ 4) × (proxy_rec.session ≡ session) × (proxy_rec.parent ≡ k)
  unfolding new_rec parent_right grant_right
  proxy_links = (rw (eq-eqb (rec_at k t.slots).kind 6 l.is, eq-eqb session session refl), refl, refl, refl, refl)

  pub proxy_ticket_sound : 1 ≤ length target → length target ≤ 200 → all_within 32 126 target ≡ true → Sound (add proxy_rec t)
  unfolding mark_most depth_least depth_most text_least text_most
  proxy_ticket_sound lo hi w =
      let u = under (view t s k) in
      let own = new_own 4 0 k session 0 target random t (new_kind random h 4 (omega arith) (omega arith)) (omega arith) (omega arith) (omega arith) lo hi w m.serial s.next in
      let sess = new_session_lem 4 0 k session 0 target random t (omega arith) (omega arith) (slot_some t s session u) u in
      let f = proxy_links in
      add_sound proxy_rec t m f.1 (linked proxy_rec t ((t.next + 1) % 4294967296) (rw f.3 (not_new random h t s m session (λ x. omega (arith, u)))) (rw f.4 (not_new random h t s m k (λ x. omega (arith, l.is)))) (rw (own, sess, f.0)))
      (rw f.2 (omega (arith, s.rules.logins)))
      (new_fits 4 0 k session 0 target random t (small random h t s m k (λ x. omega (arith, l.is))) (small random h t s m session (λ x. omega (arith, u))) hi h s) s
