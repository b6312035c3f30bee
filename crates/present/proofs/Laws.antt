-- The parts of the code are those of the meaning, and the table with what the ticket left is again lawful. Assumes nothing.
use mathlib.Core.Path.{◌≡◌, refl, sym, ap, ◌∙◌}
use mathlib.Core.Bool.{Bool, true, false, ◌&&◌, not}
use mathlib.Core.List.{List, [], ◌∷◌}
use Prim.Native.Nat.{ℕ, ◌+◌, ◌≤◌, ◌<◌}
use native.Mathlib.Omega.{arith}
use borrow.Author.Tests.{ne_eqb, leb-true, le-leb, ltb-true, lt-ltb}
use lib.Dec.{eqb, leb, ltb}
use lib.ListN.{length}
use Rattle.protocol.specs.Bytes.{if, is_empty, same}
use Rattle.protocol.specs.Tickets.{a_proxy, a_waiting, deepest}
use Rattle.protocol.specs.Records.{Rec}
use Rattle.protocol.specs.Table.{Table, decode_table, rec_at}
use Rattle.protocol.specs.Register.{Entry, callback_of, decode_register}
use Rattle.protocol.specs.Steps.{Step, step, ruled, presented, remove, left_by, ticket_slot, room_for, new_rec, takes_proxies, proxy_parent, waiting_with, success_of, ruling_of, grants, grant_or_tell}
use Rattle.protocol.specs.Held.{Lawful, Lent, Within, Spendable, Holds, Done, bringing}
use Rattle.protocol.specs.declared.Outcome.{Outcome}
use Rattle.protocol.specs.declared.Validator.{Validator}
use Rattle.protocol.proofs.Laws.{both, same-eq, rules_hold_lem}
use Rattle.protocol.proofs.Panels.{AllShort, lawful_short}
use Rattle.protocol.proofs.Searches.{ticket_live}
use Rattle.protocol.proofs.NewSound.{Base, ParentBase, none_above, grant_above}
use Rattle.protocol.proofs.TurnSound.{left_sound, left_base}
use Rattle.protocol.proofs.Told.{done_as}
use Rattle.protocol.proofs.Held.{sound_held, record_in}
use Rattle.std.specs.Prelude.{Option, Some}
use Rattle.table_find.specs.Searches.{found_at}
use Rattle.table_find.proofs.Laws.{found_is, found_low, ticket_slot_lem}
use Rattle.success.specs.Walk.{Told}
use Rattle.issue.specs.Offers.{Offer}
use Rattle.table_edit.proofs.Leaving.{shown-live}
use Rattle.protocol.specs.declared.Ruling.{Ruling}
use Rattle.protocol.specs.declared.Ruling.TheVariants as ruling
use Rattle.present.specs.Presented.{Stands, grants_to}
use Rattle.present.specs.declared.Accepted.{Accepted}

-- A grant, or success without

pub one_deeper : (d : ℕ) → ltb d 4 ≡ leb (d + 1) deepest
unfolding deepest
one_deeper d = go (ltb d 4) refl
  where
    go : (z : Bool) → ltb d 4 ≡ z → z ≡ leb (d + 1) 4
    go true e = sym (le-leb (d + 1) 4 (omega (arith, ltb-true d 4 e)))
    go false e = go' (leb (d + 1) 4) refl
      where
        go' : (w : Bool) → leb (d + 1) 4 ≡ w → false ≡ w
        go' false f = refl
        go' true f = let x : ltb d 4 ≡ true = lt-ltb d 4 (omega (arith, leb-true (d + 1) 4 f)) in sym e ∙ x

-- the callback of a service in a lawful register is short
callback_short : (s : List ℕ) (es : List Entry) → AllShort es → length (callback_of s es) ≤ 200
unfolding AllShort callback_of
callback_short s [] h = omega arith
callback_short s (e ∷ es) h = go (same s e.service) (callback_short s es h.1)
  where
    go : (r : Bool) → length (callback_of s es) ≤ 200 → length (if r e.callback (callback_of s es)) ≤ 200
    go true k = h.0.callback
    go false k = k

pub callback_fits : (g random o service callback : List ℕ) → callback ≡ callback_of service (decode_register g) → (b : List ℕ) → Lent b g random o → length callback ≤ 200
callback_fits g random o service callback c b h = rw c (callback_short service (decode_register g) (lawful_short g h.panels))

module _ (b callback url : List ℕ) (p : ℕ) (z : Bool) (e : z ≡ grants_to p callback url (decode_table b)) where
  module _ (y : z ≡ true) where
    record Tests : Type 0 where
      its_own : url ≡ callback
      deep : (rec_at p (decode_table b).slots).depth + 1 ≤ 4
      room : room_for 1 (decode_table b) ≡ true

    tests : Tests
    unfolding grants_to deepest
    tests =
        let t = decode_table b in
        let deep = leb ((rec_at p t.slots).depth + 1) 4 in
        let x = both (not (is_empty url) && same url callback && deep) (room_for 1 t) (sym e ∙ y) in
        let v = both (not (is_empty url) && same url callback) deep x.0 in
        record { its_own = same-eq url callback (both (not (is_empty url)) (same url callback) v.0).1; deep = leb-true ((rec_at p t.slots).depth + 1) 4 v.1; room = x.1 }

    pub grant_room : room_for 1 (decode_table b) ≡ true
    grant_room = tests.room

    pub shallow : (d : ℕ) → d ≡ (rec_at p (decode_table b).slots).depth → d + 1 < 256
    shallow d f = omega (arith, tests.deep)

    pub offered : (g random o service : List ℕ) → callback ≡ callback_of service (decode_register g) → Lent b g random o → Offer b callback o
    offered g random o service c h = record { fine = h.lawful.fine; short = callback_fits g random o service callback c b h; out = h.room }

-- whether it is made, by the callback that the service has
pub grant_known : (s p m : ℕ) (service url register random : List ℕ) (t : Table)
    → grant_or_tell s p m service url (bringing register random) t
    ≡ if (grants_to p (callback_of service (decode_register register)) url t)
    (waiting_with (new_rec a_waiting m p s ((rec_at p t.slots).depth + 1) (callback_of service (decode_register register)) random t) t)
    (step t (success_of s m [] p t.slots))
unfolding grant_or_tell grants grants_to
grant_known s p m service url register random t = go (not (is_empty url)) (same url callback) refl
  where
    callback : List ℕ
    callback = callback_of service (decode_register register)

    on : Bool → Bool → List ℕ → Step
    on given own u =
        if (given && own && leb ((rec_at p t.slots).depth + 1) deepest && room_for 1 t)
        (waiting_with (new_rec a_waiting m p s ((rec_at p t.slots).depth + 1) u random t) t)
        (step t (success_of s m [] p t.slots))

    go : (given own : Bool) → same url callback ≡ own → on given own url ≡ on given own callback
    go given true e = ap (on given true) (same-eq url callback e)
    go true false e = refl
    go false false e = refl

pub told : (b g random o : List ℕ) (a : Accepted) → Lent b g random o → Stands a b → Told b a.session [] a.parent o
told b g random o a h s = record { lawful = h.lawful; user = s.session; above = s.parent; short = omega arith; room = h.room }

-- What the ticket leaves

module _ (b : List ℕ) (k : ℕ) (l : Lawful b) (z : Spendable k b) where
  abbrev t : Table
  t = decode_table b

  abbrev ticket : Rec
  ticket = rec_at k t.slots

  module _ (b' : List ℕ) (h : Holds b' (left_by k (rec_at k (decode_table b).slots) (remove k (decode_table b)))) where
    pub left_lawful : Lawful b'
    left_lawful =
        let s = left_sound t (sound_held b l) k (shown-live b k z) in
        record { fine = h.fine; rules = rw h.is (rules_hold_lem (left_by k ticket (remove k t)) s.rules) }

    stands : Base (left_by k ticket (remove k t)) (proxy_parent ticket) ticket.session
    stands = left_base t (sound_held b l) k (shown-live b k z)

    above_within : (p s : ℕ) → ParentBase (left_by k ticket (remove k t)) p s → Within p b'
    above_within p s (none_above e) = record { high = omega (arith, h.fine.count) }
    above_within p s (grant_above e q) = let i = record_in b' p (rw h.is (omega arith)) in record { high = i.high }

    -- what its ruling names
    module _ (v : Validator) (renew : Bool) (service : List ℕ) (x : Ruling) (e : x ≡ ruling_of v renew service (rec_at k (decode_table b).slots)) (s p m : ℕ) (y : x ≡ ruling.Accepted s p m) where
      names : (s ≡ ticket.session) × (p ≡ proxy_parent ticket)
      unfolding ruling_of
      names = go (eqb ticket.kind a_proxy && not (takes_proxies v)) (renew && eqb ticket.mark 0) (same ticket.text service) (sym y ∙ e)
        where
          go : (a b c : Bool) → ruling.Accepted s p m ≡ if a ruling.NoTicket (if b ruling.NoTicket (if c (ruling.Accepted ticket.session (proxy_parent ticket) ticket.mark) ruling.NoService))
              → (s ≡ ticket.session) × (p ≡ proxy_parent ticket)
          go true b c q = absurd (let w : ◌≡◌ {A = ℕ} 0 1 = cc in omega arith)
          go false true c q = absurd (let w : ◌≡◌ {A = ℕ} 0 1 = cc in omega arith)
          go false false true q = (cc, cc)
          go false false false q = absurd (let w : ◌≡◌ {A = ℕ} 0 1 = cc in omega arith)

      pub stays : Stands (record { session = s; parent = p; mark = m }) b'
      stays = record { session = rw names.0 (record_in b' ticket.session (rw h.is (omega (arith, stands.is)))); parent = rw names.1 (above_within (proxy_parent ticket) ticket.session stands.above) }

pub still_lent : (b b' g random o : List ℕ) (k : ℕ) → Lent b g random o → Spendable k b → Holds b' (left_by k (rec_at k (decode_table b).slots) (remove k (decode_table b))) → Lent b' g random o
still_lent b b' g random o k x z h = record { lawful = left_lawful b k x.lawful z b' h; panels = x.panels; drawn = x.drawn; room = x.room }

-- What is found

pub found_spendable : (b text : List ℕ) {f : Option ℕ} → f ≡ found_at (ticket_slot text (decode_table b)) → {k : ℕ} → f ≡ Some k → Spendable k b
found_spendable b text {f} e {k} y =
    let q = found_is (ticket_slot text (decode_table b)) e y in
    let z = ticket_live text (decode_table b) (omega (arith, found_low (ticket_slot text (decode_table b)) e y)) in
    record { slot = ticket_slot_lem b y text e; least = rw q z.least; most = rw q z.most; lasts = rw q z.lasts }

-- and what is done with it is what the meaning does with its slot
pub presented_at : (b text : List ℕ) {f : Option ℕ} → f ≡ found_at (ticket_slot text (decode_table b)) → {k : ℕ} → f ≡ Some k
    → (v : Validator) (renew : Bool) (service url g random o o' : List ℕ) (r : Outcome) (b' : List ℕ)
    → Done (ruled (ruling_of v renew service (rec_at k (decode_table b).slots)) v k (rec_at k (decode_table b).slots) service url (bringing g random) (remove k (decode_table b))) r b' o o'
    → Done (presented v (ticket_slot text (decode_table b)) renew service url (bringing g random) (decode_table b)) r b' o o'
unfolding presented
presented_at b text {f} e {k} z v renew service url g random o o' r b' d =
    let q = found_is (ticket_slot text (decode_table b)) e z in
    let n : eqb k 0 ≡ false = ne_eqb k 0 (λ w. omega (arith, found_low (ticket_slot text (decode_table b)) e z)) in
    rw (sym q) (done_as (rw n) d)
