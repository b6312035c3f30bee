-- A sound table stays sound where a ticket is removed and where a record changes its kind in place; and what an accepted ticket leaves. Assumes nothing.
use mathlib.Core.Path.{◌≡◌, refl, sym, ap, ◌∙◌}
use mathlib.Core.Bool.{Bool, true, false, ◌&&◌}
use mathlib.Core.List.{List, [], ◌∷◌}
use Prim.Native.Nat.{ℕ, zero, suc, ◌+◌, ◌≤◌}
use native.Mathlib.Omega.{arith}
use borrow.Author.Tests.{eq-eqb, ne_eqb, eqb-true, eqb-false, leb-true, le-leb}
use lib.Dec.{eqb, leb}
use lib.Seq.{set-set}
use lib.ListN.{length, get_or, set, drop}
use Rattle.protocol.specs.Bytes.{if, all_within, within}
use Rattle.protocol.specs.Tickets.{a_free, a_login, a_service, a_proxy, a_waiting, a_grant, a_visit, lifetime, mark_most, depth_least, depth_most, text_least, text_most, deepest}
use Rattle.protocol.specs.Records.{Rec, free_rec, own_right, fields_right, text_right, serial_right, expiry_right, since_right}
use Rattle.protocol.specs.Table.{Table, rec_at, put_at, session_right, parent_right, grant_right, serial_taken, serials_differ, count_kind}
use Rattle.protocol.specs.Steps.{put, remove, proxy_parent, turned, left_by}
use Rattle.protocol.specs.Held.{Fits}
use Rattle.protocol.proofs.Laws.{both, own, rec_right}
use Rattle.protocol.proofs.Kept.{SessionView, unnamed, named, ParentView, orphan, of_session_lem, of_grant, recs3, right_slot, right_all, other_right, put_other, put_same, Unnamed, leaf_unnamed}
use Rattle.protocol.proofs.Added.{count_set}
use Rattle.protocol.proofs.Searches.{slot_within, Ticket}
use Rattle.protocol.proofs.Sound.{Sound, remove_sound, fit_slot, fit_put, length-put}
use Rattle.protocol.proofs.NewSound.{ParentBase, none_above, grant_above, Base, view, parents, slot_some}

-- A ticket is removed

pub spend_sound : (k : ℕ) (t : Table) → Sound t → 1 ≤ k → ((rec_at k t.slots).kind ≡ 2 → ⊥) → ((rec_at k t.slots).kind ≡ 6 → ⊥) → Sound (remove k t)
spend_sound k t s p a b = remove_sound k t (leaf_unnamed t.clock t.next t.slots s.rules.records k p a b) s

module _ (t : Table) (s : Sound t) where
  module _ (k : ℕ) (z : Ticket t k) where
    apart : (j : ℕ) → ((rec_at j t.slots).kind ≡ 2) → j ≡ k → ⊥
    apart j e q = let x : (rec_at k t.slots).kind ≡ 2 = ap (λ (i : ℕ). (rec_at i t.slots).kind) (sym q) ∙ e in omega (arith, z.least)

    apart6 : (j : ℕ) → ((rec_at j t.slots).kind ≡ 6) → j ≡ k → ⊥
    apart6 j e q = let x : (rec_at k t.slots).kind ≡ 6 = ap (λ (i : ℕ). (rec_at i t.slots).kind) (sym q) ∙ e in omega (arith, z.most)

    same_at : (j : ℕ) → (j ≡ k → ⊥) → rec_at j (remove k t).slots ≡ rec_at j t.slots
    same_at j h = put_other free_rec t.slots k j h

    above_of : (r : Rec) → SessionView t.slots r → ParentView t.slots r → (d : Bool) → eqb r.kind a_proxy ≡ d → ParentBase (remove k t) (if d r.parent 0) r.session
    above_of r v w false e = none_above refl
    above_of r v (orphan h) true e = none_above h
    above_of r v (of_session_lem h n q) true e = absurd (n (eqb-true r.kind 4 e))
    above_of r v (of_grant g h q) true e =
        let x = same_at r.parent (apart6 r.parent h) in
        grant_above (ap (λ (u : Rec). u.kind) x ∙ h) (ap (λ (u : Rec). u.session) x ∙ q)

    base_of : (r : Rec) → r ≡ rec_at k t.slots → SessionView t.slots r → ParentView t.slots r → Base (remove k t) (proxy_parent r) r.session
    base_of r e (unnamed a b) w = absurd (omega (arith, z.least, ap (λ (u : Rec). u.kind) e))
    base_of r e (named a b c d) w =
        let x = same_at r.session (apart r.session b) in
        record {
          some = slot_some t s r.session b;
          is = ap (λ (u : Rec). u.kind) x ∙ b;
          above = above_of r (named a b c d) w (eqb r.kind a_proxy) refl;
        }

    pub ticket_base : Base (remove k t) (proxy_parent (rec_at k t.slots)) (rec_at k t.slots).session
    ticket_base = base_of (rec_at k t.slots) refl (view t s k) (parents t s k)

    pub spent_sound : Sound (remove k t)
    spent_sound = spend_sound k t s z.some (λ e. omega (arith, z.least)) (λ e. omega (arith, z.most))

-- Records change in place

-- a record in place of another of the same serial, neither of them free
module _ (x : Rec) (a : eqb x.kind 0 ≡ false) where
  taken-kept : (n : ℕ) (rs : List Rec) (i : ℕ) → eqb (get_or rs i free_rec).kind 0 ≡ false → x.serial ≡ (get_or rs i free_rec).serial → serial_taken n (set rs i x) ≡ serial_taken n rs
  unfolding serial_taken
  taken-kept n [] i b e = refl
  taken-kept n (r ∷ rs) zero b e = rw (a, b, e)
  taken-kept n (r ∷ rs) (suc i) b e = rw (taken-kept n rs i b e)

  differ_kept : (rs : List Rec) (i : ℕ) → eqb (get_or rs i free_rec).kind 0 ≡ false → x.serial ≡ (get_or rs i free_rec).serial → serials_differ (set rs i x) ≡ serials_differ rs
  unfolding serials_differ
  differ_kept [] i b e = refl
  differ_kept (r ∷ rs) zero b e = rw (a, b, e)
  differ_kept (r ∷ rs) (suc i) b e = rw (taken-kept r.serial rs i b e, differ_kept rs i b e)

-- a record of the same serial, session and parent may take the place of one that no other names
pub record Change (t : Table) (k : ℕ) (new : Rec) : Type 0 where
  pub leaf : Unnamed k t.slots
  pub held : (rec_at k t.slots).kind ≡ 0 → ⊥
  pub kind : 2 ≤ new.kind
  pub serial : new.serial ≡ (rec_at k t.slots).serial
  pub session : new.session ≡ (rec_at k t.slots).session
  pub parent : new.parent ≡ (rec_at k t.slots).parent
  pub right : rec_right t.clock t.next t.slots new ≡ true
  pub fits : Fits new

module _ (t : Table) (s : Sound t) (k : ℕ) (p : 1 ≤ k) (new : Rec) (c : Change t k new) where
  inside : k ≤ length t.slots
  inside = slot_within t.slots k c.held

  changed_at_lem : (j : ℕ) (d : Bool) → eqb j k ≡ d → rec_right t.clock t.next (put_at k new t.slots) (rec_at j (put_at k new t.slots)) ≡ true
  unfolding Unnamed
  changed_at_lem j true e =
      rw (eqb-true j k e, put_same new t.slots k p inside)
      (other_right t.clock t.next t.slots k new new (λ q. (c.leaf k).0 (sym c.session ∙ q)) (λ q. (c.leaf k).1 (sym c.parent ∙ q)) c.right)
  changed_at_lem j false e =
      rw (put_other new t.slots k j (eqb-false j k e))
      (other_right t.clock t.next t.slots k new (rec_at j t.slots) (c.leaf j).0 (c.leaf j).1 (right_slot t.clock t.next t.slots s.rules.records j))

  same_serials : (j : ℕ) → 1 ≤ j → eqb new.kind 0 ≡ false → eqb (rec_at j t.slots).kind 0 ≡ false → new.serial ≡ (rec_at j t.slots).serial → serials_differ (put_at j new t.slots) ≡ serials_differ t.slots
  same_serials zero h a b e = absurd (omega arith)
  same_serials (suc j) h a b e = differ_kept new a t.slots j b e

  few_logins : (j : ℕ) → count_kind a_login (put_at j new t.slots) ≤ count_kind a_login t.slots
  few_logins zero = omega arith
  few_logins (suc j) = let z : ◌≡◌ {A = ℕ} (if (eqb new.kind a_login) 1 0) 0 = rw (ne_eqb new.kind 1 (λ q. omega (arith, c.kind))) in omega (arith, count_set a_login new t.slots j)

  pub changed_sound : Sound (put k new t)
  changed_sound =
      record {
        rules = record {
          clock = s.rules.clock;
          records = right_all t.clock t.next (put_at k new t.slots) (put_at k new t.slots) (λ j. changed_at_lem (suc j) (eqb (suc j) k) refl);
          serials = same_serials k p (ne_eqb new.kind 0 (λ e. omega (arith, c.kind))) (ne_eqb (rec_at k t.slots).kind 0 c.held) c.serial ∙ s.rules.serials;
          logins = omega (arith, few_logins k, s.rules.logins);
        };
        next = s.next;
        fit = fit_put new c.fits k t.slots s.fit;
        few = rw (length-put k new t.slots) s.few;
      }

-- A record is turned: a waiting grant into a grant, an accepted service ticket into a visit

pub data Turn (a b : ℕ) : Type 0 where
  granting : a ≡ a_waiting → b ≡ a_grant → Turn a b
  visiting : a ≡ a_service → b ≡ a_visit → Turn a b

turned_fields : {a b : ℕ} → Turn a b → (r : Rec) (slots : List Rec) → r.kind ≡ a → fields_right r ≡ true → fields_right (turned b r slots) ≡ true
unfolding fields_right text_right turned mark_most depth_least depth_most text_least text_most all_within
turned_fields {a} {b} w r slots e h = go w
  where
    no-mark : (a b c d i : Bool) → a && b && c && d && i ≡ true → b && c && d && true ≡ true
    no-mark true b c d i h = rw (both (b && c && d) i h).0
    no-mark false b c d i h = absurd (let z : ◌≡◌ {A = ℕ} 0 1 = cc in omega arith)

    go : Turn a b → fields_right (turned b r slots) ≡ true
    go (granting x y) = rw y (no-mark (leb r.mark 1) (within 1 deepest r.depth) (all_within 0 0 (drop 16 r.secret)) (within 1 200 (length r.text) && all_within 32 126 r.text) true (rw (e ∙ x) at h))
    go (visiting x y) = rw y (no-mark (leb r.mark 1) (within 0 0 r.depth) (all_within 0 0 (drop 9 r.secret)) (within 1 200 (length r.text) && all_within 32 126 r.text) (all_within 0 0 r.iou) (rw (e ∙ x) at h))

-- what a record's life says: serial issued, expiry at most T plus the lifetime
module _ (t : Table) (s : Sound t) where
  own_of : (j : ℕ) → own_right t.clock t.next (rec_at j t.slots) ≡ true
  own_of j = (recs3 t.clock t.next t.slots (rec_at j t.slots) (right_slot t.clock t.next t.slots s.rules.records j)).0

  life : (j : ℕ) (z : Bool) → eqb (rec_at j t.slots).kind a_free ≡ z → ((rec_at j t.slots).kind ≡ 0 → ⊥)
      → (serial_right t.next (rec_at j t.slots).serial ≡ true) × ((rec_at j t.slots).expiry ≤ t.clock + lifetime (rec_at j t.slots).kind)
  unfolding expiry_right
  life j true e n = absurd (n (eqb-true (rec_at j t.slots).kind 0 e))
  life j false e n =
      let o : if (eqb (rec_at j t.slots).kind a_free) (eqb (rec_at j t.slots).serial 0 && eqb (rec_at j t.slots).expiry 0) (serial_right t.next (rec_at j t.slots).serial && expiry_right t.clock (rec_at j t.slots)) ≡ true
      = (own t.clock t.next (rec_at j t.slots) (own_of j)).life in
      let q : serial_right t.next (rec_at j t.slots).serial && expiry_right t.clock (rec_at j t.slots) ≡ true = rw e at o in
      let a = both (serial_right t.next (rec_at j t.slots).serial) (expiry_right t.clock (rec_at j t.slots)) q in
      (a.0, leb-true (rec_at j t.slots).expiry (t.clock + lifetime (rec_at j t.slots).kind) a.1)

-- its rules, from the old record's and its session's
module _ (t : Table) (s : Sound t) (k : ℕ) (p : 1 ≤ k) {a b : ℕ} (w : Turn a b) (is : (rec_at k t.slots).kind ≡ a) where
  abbrev old : Rec
  old = rec_at k t.slots

  abbrev new : Rec
  new = turned b old t.slots

  from : Turn a b → (3 ≤ old.kind) × (old.kind ≡ 6 → ⊥) × (2 ≤ b)
  from (granting x y) = (omega arith, (λ e. omega arith), omega arith)
  from (visiting x y) = (omega arith, (λ e. omega arith), omega arith)

  new_facts : (new.kind ≡ b) × (new.session ≡ old.session) × (new.parent ≡ old.parent) × (new.serial ≡ old.serial) × (new.expiry ≡ (rec_at old.session t.slots).expiry)
  unfolding turned
  new_facts = (refl, refl, refl, refl, refl)

  old_session : SessionView t.slots old → (rec_at old.session t.slots).kind ≡ 2
  old_session (unnamed x y) = absurd (omega (arith, (from w).0))
  old_session (named x y u v) = y

  turned_since : Turn a b → since_right t.clock old ≡ true → since_right t.clock new ≡ true
  unfolding since_right turned
  turned_since (granting x y) e = rw y (rw (is ∙ x) at e)
  turned_since (visiting x y) e = rw y (rw (is ∙ x) at e)

  turned_lasts : Turn a b → (rec_at old.session t.slots).expiry ≤ t.clock + 28800 → serial_right t.next old.serial ≡ true
      → if (eqb new.kind a_free) (eqb new.serial 0 && eqb new.expiry 0) (serial_right t.next new.serial && expiry_right t.clock new) ≡ true
  unfolding turned expiry_right
  turned_lasts (granting x y) m q = rw (y, q, le-leb (rec_at old.session t.slots).expiry (t.clock + 28800) m)
  turned_lasts (visiting x y) m q = rw (y, q, le-leb (rec_at old.session t.slots).expiry (t.clock + 28800) m)

  turned_own : own_right t.clock t.next new ≡ true
  unfolding own_right
  turned_own =
      let o = both (fields_right old) (since_right t.clock old) (both (fields_right old && since_right t.clock old) (if (eqb old.kind a_free) (eqb old.serial 0 && eqb old.expiry 0) (serial_right t.next old.serial && expiry_right t.clock old)) (own_of t s k)).0 in
      let v = old_session (view t s k) in
      let x = life t s k (eqb old.kind a_free) refl (λ e. omega (arith, (from w).0)) in
      let y = life t s old.session (eqb (rec_at old.session t.slots).kind a_free) refl (λ e. omega (arith, v)) in
      let m : (rec_at old.session t.slots).expiry ≤ t.clock + 28800 = rw v at y.1 in
      rw (turned_fields w old t.slots is o.0, turned_since w o.1, turned_lasts w m x.0)

  turned_links : Turn a b → ((rec_at old.session t.slots).kind ≡ 2) → parent_right t.slots old ≡ true → (session_right t.slots new ≡ true) × (parent_right t.slots new ≡ true)
  unfolding session_right parent_right turned grant_right
  turned_links (granting x y) v q = (rw (y, eq-eqb (rec_at old.session t.slots).kind 2 v, eq-eqb (rec_at old.session t.slots).expiry (rec_at old.session t.slots).expiry refl), rw y (rw (is ∙ x) at q))
  turned_links (visiting x y) v q = (rw (y, eq-eqb (rec_at old.session t.slots).kind 2 v, eq-eqb (rec_at old.session t.slots).expiry (rec_at old.session t.slots).expiry refl), rw y (rw (is ∙ x) at q))

  turned_fits : Fits new
  unfolding turned
  turned_fits =
      let f = fit_slot t.slots k s.fit in
      let g = fit_slot t.slots old.session s.fit in
      record { parent = f.parent; session = f.session; serial = f.serial; expiry = g.expiry; since = f.since; sized = record { secret = f.sized.secret; text = f.sized.text; iou = refl } }

  pub turned_sound : Sound (put k new t)
  turned_sound =
      let n = new_facts in
      let f = from w in
      let g = turned_links w (old_session (view t s k)) (recs3 t.clock t.next t.slots old (right_slot t.clock t.next t.slots s.rules.records k)).2 in
      changed_sound t s k p new
      (record {
        leaf = leaf_unnamed t.clock t.next t.slots s.rules.records k p (λ e. omega (arith, f.0)) f.1;
        held = λ e. omega (arith, f.0);
        kind = omega (arith, n.0, f.2);
        serial = n.3;
        session = n.1;
        parent = n.2;
        right = rw (turned_own, g.0, g.1);
        fits = turned_fits;
      })

-- what an accepted ticket leaves

pub put_twice : (slots : List Rec) (k : ℕ) (x y : Rec) → put_at k x (put_at k y slots) ≡ put_at k x slots
put_twice slots zero x y = refl
put_twice slots (suc k) x y = set-set slots k y x

turned_by : (kind : ℕ) (r : Rec) (a b : List Rec) → rec_at r.session a ≡ rec_at r.session b → turned kind r a ≡ turned kind r b
unfolding turned
turned_by kind r a b e = rw e

session_is : (slots : List Rec) (r : Rec) → SessionView slots r → 3 ≤ r.kind → (rec_at r.session slots).kind ≡ 2
session_is slots r (unnamed a b) h = absurd (omega arith)
session_is slots r (named a b c d) h = b

module _ (t : Table) (s : Sound t) (k : ℕ) (z : Ticket t k) where
  abbrev shown : Rec
  shown = rec_at k t.slots

  session_apart : shown.session ≡ k → ⊥
  session_apart = apart t s k z shown.session (session_is t.slots shown (view t s k) z.least)

  pub left_visit : shown.kind ≡ a_service → left_by k shown (remove k t) ≡ put k (turned a_visit shown t.slots) t
  unfolding left_by
  left_visit e =
      let q : rec_at shown.session (remove k t).slots ≡ rec_at shown.session t.slots = same_at t s k z shown.session session_apart in
      rw (eq-eqb shown.kind 3 e, turned_by a_visit shown (remove k t).slots t.slots q, put_twice t.slots k (turned a_visit shown t.slots) free_rec)

  pub left_nothing : (shown.kind ≡ a_service → ⊥) → left_by k shown (remove k t) ≡ remove k t
  unfolding left_by
  left_nothing n = rw (ne_eqb shown.kind 3 n)

  pub left_sound : Sound (left_by k shown (remove k t))
  left_sound = go (eqb shown.kind a_service) refl
    where
      go : (d : Bool) → eqb shown.kind a_service ≡ d → Sound (left_by k shown (remove k t))
      go true e = let h = eqb-true shown.kind 3 e in rw (left_visit h) (turned_sound t s k z.some (visiting refl refl) h)
      go false e = rw (left_nothing (eqb-false shown.kind 3 e)) (spent_sound t s k z)

  pub left_base : Base (left_by k shown (remove k t)) (proxy_parent shown) shown.session
  unfolding left_by
  left_base = go (eqb shown.kind a_service) refl
    where
      go : (d : Bool) → eqb shown.kind a_service ≡ d → Base (if d (put k (turned a_visit shown (remove k t).slots) (remove k t)) (remove k t)) (proxy_parent shown) shown.session
      go true e =
          let b = ticket_base t s k z in
          let q : rec_at shown.session (put_at k (turned a_visit shown (remove k t).slots) (remove k t).slots) ≡ rec_at shown.session (remove k t).slots = put_other (turned a_visit shown (remove k t).slots) (remove k t).slots k shown.session session_apart in
          let h : shown.kind ≡ 3 = eqb-true shown.kind 3 e in
          record {
            some = b.some;
            is = ap (λ (u : Rec). u.kind) q ∙ b.is;
            above = none_above (rw (ne_eqb shown.kind 4 (λ x. omega arith)));
          }
      go false e = ticket_base t s k z
