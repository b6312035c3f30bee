-- What the bytes of a lent table hold: between bytes and the table that they say, slots read, records and headers laid. Assumes nothing.
use mathlib.Core.Path.{◌≡◌, refl, sym, ap, ◌∙◌}
use mathlib.Core.Bool.{Bool, true}
use mathlib.Core.List.{List}
use Prim.Native.Nat.{ℕ, zero, suc, ◌+◌, ◌*◌, ◌≤◌, ◌<◌}
use native.Mathlib.Omega.{arith}
use lib.ListN.{length}
use Rattle.protocol.specs.Bytes.{part, spliced}
use Rattle.protocol.specs.Blocks.{sealed}
use Rattle.protocol.specs.Records.{Rec, encode_rec, decode_rec}
use Rattle.protocol.specs.Table.{Table, table_of, head_body, encode_table, decode_table, rec_at, slot_where, last_time}
use Rattle.protocol.specs.Steps.{put, slot_for, room_for}
use Rattle.protocol.specs.Held.{Fits, AllFit, Fine, Holds, In, Lawful}
use Rattle.protocol.proofs.Laws.{rec_right, rules, table_back, length_table, length_rec}
use Rattle.protocol.proofs.Places.{slot_read, slot_bytes, put_bytes, head_put, slots_count}
use Rattle.protocol.proofs.Kept.{SessionView, ParentView, unnamed, named, orphan, of_session_lem, of_grant, session_view, parent_view, recs3, right_slot}
use Rattle.protocol.proofs.Searches.{slot_within}
use Rattle.protocol.proofs.Added.{slot_chosen, room_one}
use Rattle.protocol.proofs.Sound.{Sound, fit_put, fit_slot, length-put}

-- bytes that a table in range wrote hold it
pub holds_by_bytes : (b : List ℕ) (t : Table) → b ≡ encode_table t → t.clock ≤ last_time → t.next < 4294967296 → AllFit t.slots → length t.slots ≤ 127 → Holds b t
holds_by_bytes b t e c n f l =
    let d : decode_table b ≡ t = ap decode_table e ∙ table_back t f (omega arith) n in
    let m : length b ≡ 512 + 512 * length t.slots = ap length e ∙ (length_table t f ∙ omega arith) in
    record { is = d; fine = record { same = e ∙ ap encode_table (sym d); clock = rw d c; next = rw d n; fit = rw d f; few = rw d l; count = rw d m } }

pub holds_bytes : (b : List ℕ) (t : Table) → Holds b t → b ≡ encode_table t
holds_bytes b t h = h.fine.same ∙ ap encode_table h.is

-- fine bytes hold the table that they say
pub holds_self : (b : List ℕ) → Fine b → Holds b (decode_table b)
holds_self b f = record { is = refl; fine = f }

pub sound_held : (b : List ℕ) → Lawful b → Sound (decode_table b)
sound_held b l =
    let f = l.fine in
    record { rules = rules (decode_table b) l.rules; next = f.next; fit = f.fit; few = f.few }

-- one edit after another: the second is of the table that the first left
pub then : (f : Table → Table) (b b' : List ℕ) (t : Table) → Holds b t → Holds b' (f (decode_table b)) → Holds b' (f t)
then f b b' t h g = rw h.is at g

-- Slots

-- a slot's record is what its block says, whatever the bytes
pub slot_of : (b : List ℕ) (k : ℕ) → In k b → rec_at k (decode_table b).slots ≡ decode_rec (part (512 * k) 512 b)
slot_of b zero i = absurd (omega (arith, i.low))
slot_of b (suc k) i = slot_read b k (omega (arith, i.high))

-- and in fine bytes its block is that of the record
pub block_of : (b : List ℕ) (k : ℕ) → Fine b → In k b → part (512 * k) 512 b ≡ encode_rec (rec_at k (decode_table b).slots)
block_of b zero f i = absurd (omega (arith, i.low))
block_of b (suc k) f i =
    ap (λ (s : List ℕ). part (512 * suc k) 512 s) f.same ∙ slot_bytes (decode_table b) f.fit k (omega (arith, i.high, f.count))

pub fits_of : (b : List ℕ) (k : ℕ) → Fine b → Fits (rec_at k (decode_table b).slots)
fits_of b k f = fit_slot (decode_table b).slots k f.fit

-- slots by their number, and by the bytes
pub slot_in : (b : List ℕ) (k : ℕ) → 1 ≤ k → k ≤ length (decode_table b).slots → In k b
slot_in b k h l = record { low = h; high = omega (arith, slots_count b) }

pub in_slots : (b : List ℕ) (k : ℕ) → In k b → k ≤ length (decode_table b).slots
in_slots b k i = omega (arith, slots_count b, i.high)

-- a slot stays one while the length does
pub in_same : (b b' : List ℕ) (k : ℕ) → In k b → length b' ≡ length b → In k b'
in_same b b' k i e = record { low = i.low; high = omega (arith, i.high) }

-- what a search finds is a slot
pub found_in : (test : Rec → Bool) (b : List ℕ) (k : ℕ) → k ≡ slot_where test (decode_table b).slots → 1 ≤ k → In k b
found_in test b k e h =
    let c = slot_chosen test (decode_table b).slots (omega arith) in
    slot_in b k h (omega (arith, c.within))

-- and so is the one for a new record, where there is room
pub room_in : (b : List ℕ) (k : ℕ) → room_for 1 (decode_table b) ≡ true → k ≡ slot_for (decode_table b) → In k b
room_in b k h e =
    let r = room_one (decode_table b) h in
    slot_in b k (omega (arith, r.some)) (omega (arith, r.within))

-- the slots that a record of a sound table names: a session where its kind has one, and a parent where it has one
pub record_in : (b : List ℕ) (k : ℕ) → 1 ≤ (rec_at k (decode_table b).slots).kind → In k b
record_in b zero h = absurd (omega arith)
record_in b (suc k) h = slot_in b (suc k) (omega arith) (slot_within (decode_table b).slots (suc k) (λ e. omega arith))

module _ (b : List ℕ) (k : ℕ) (s : Sound (decode_table b)) where
  abbrev slots : List Rec
  slots = (decode_table b).slots

  abbrev said : Rec
  said = rec_at k slots

  right : rec_right (decode_table b).clock (decode_table b).next slots said ≡ true
  right = right_slot (decode_table b).clock (decode_table b).next slots s.rules.records k

  views : SessionView slots said
  views = session_view slots said (recs3 (decode_table b).clock (decode_table b).next slots said right).1

  pub session_in : 3 ≤ (rec_at k (decode_table b).slots).kind → In (rec_at k (decode_table b).slots).session b
  session_in h = named_in views
    where
      named_in : SessionView slots said → In said.session b
      named_in (unnamed l e) = absurd (omega arith)
      named_in (named g e l x) = record_in b said.session (omega arith)

  pub parent_in : 1 ≤ (rec_at k (decode_table b).slots).parent → In (rec_at k (decode_table b).slots).parent b
  parent_in h = of (parent_view slots said (recs3 (decode_table b).clock (decode_table b).next slots said right).2)
    where
      of : ParentView slots said → In said.parent b
      of (orphan e) = absurd (omega arith)
      of (of_session_lem g n e) = rw e (session_in g)
      of (of_grant l e g) = record_in b said.parent (omega arith)

-- Edits

-- a record's block laid over a slot is the record put into it
pub laid_rec : (b b' : List ℕ) (k : ℕ) (r : Rec) → Fine b → In k b → Fits r → b' ≡ spliced b (512 * k) (encode_rec r) → Holds b' (put k r (decode_table b))
laid_rec b b' zero r f i s e = absurd (omega (arith, i.low))
laid_rec b b' (suc k) r f i s e =
    holds_by_bytes b' (put (suc k) r (decode_table b))
    (e ∙ ap (λ (l : List ℕ). spliced l (512 * suc k) (encode_rec r)) f.same ∙ put_bytes (decode_table b) f.fit r k (length_rec r s.sized) (omega (arith, i.high, f.count)))
    f.clock
    f.next
    (fit_put r s (suc k) (decode_table b).slots f.fit)
    (rw (length-put (suc k) r (decode_table b).slots) f.few)

-- a header laid over the header is another clock and next serial
pub laid_head : (b b' : List ℕ) (clock next : ℕ) → Fine b → clock ≤ last_time → next < 4294967296
    → b' ≡ spliced b 0 (sealed (head_body (length (decode_table b).slots) clock next)) → Holds b' (table_of clock next (decode_table b).slots)
laid_head b b' clock next f c n e =
    holds_by_bytes b' (table_of clock next (decode_table b).slots)
    (e ∙ ap (λ (l : List ℕ). spliced l 0 (sealed (head_body (length (decode_table b).slots) clock next))) f.same ∙ head_put (decode_table b) f.fit clock next)
    c
    n
    f.fit
    f.few
