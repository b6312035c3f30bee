-- What a waiting grant stands on, and that one found by its serial waits. Assumes nothing.
use mathlib.Core.Path.{◌≡◌, ap}
use mathlib.Core.Bool.{Bool, ◌&&◌}
use mathlib.Core.List.{List}
use Prim.Native.Nat.{ℕ, ◌≤◌}
use native.Mathlib.Omega.{arith}
use borrow.Author.Tests.{eqb-true}
use lib.Dec.{eqb}
use lib.ListN.{length}
use Rattle.protocol.specs.Tickets.{a_waiting, iou_text}
use Rattle.protocol.specs.Records.{Rec, live}
use Rattle.protocol.specs.Table.{Table, decode_table, rec_at}
use Rattle.protocol.specs.Steps.{waiting_slot, finish_at, finish}
use Rattle.protocol.specs.Held.{Lawful, In, Done}
use Rattle.protocol.specs.declared.Outcome.{Outcome}
use Rattle.protocol.proofs.Laws.{both}
use Rattle.protocol.proofs.Added.{slot_chosen}
use Rattle.protocol.proofs.Sizes.{iou_most}
use Rattle.protocol.proofs.Held.{fits_of, sound_held, session_in}
use Rattle.std.specs.Prelude.{Option, Some}
use Rattle.table_find.specs.Searches.{found_at}
use Rattle.table_find.proofs.Laws.{found_is, found_low, waiting_slot_lem}
use Rattle.finish.specs.Waits.{Waits}

module _ (b : List ℕ) (k : ℕ) (w : Waits k b) where
  abbrev slots : List Rec
  slots = (decode_table b).slots

  pub waits_session : In (rec_at k slots).session b
  waits_session = session_in b k (sound_held b w.lawful) (omega (arith, w.kind))

  -- the IOU's text fits a name
  pub iou_size : {x : List ℕ} → x ≡ (rec_at k slots).iou → length (iou_text x) ≤ 64
  iou_size {x} e = iou_most x (omega (arith, ap length e, (fits_of b k w.lawful.fine).sized.iou))

-- What is found by its serial waits

module _ (b : List ℕ) (l : Lawful b) (serial : ℕ) {f : Option ℕ} (e : f ≡ found_at (waiting_slot serial (decode_table b))) where
  abbrev t : Table
  t = decode_table b

  chosen_kind : 1 ≤ waiting_slot serial t → (rec_at (waiting_slot serial t) t.slots).kind ≡ 5
  unfolding waiting_slot
  chosen_kind h =
      let test : Rec → Bool = λ (r : Rec). eqb r.kind a_waiting && live t.clock r && eqb r.serial serial in
      let r : Rec = rec_at (waiting_slot serial t) t.slots in
      let c = slot_chosen test t.slots h in
      let p = both (eqb r.kind a_waiting && live t.clock r) (eqb r.serial serial) c.passes in
      eqb-true r.kind 5 (both (eqb r.kind a_waiting) (live t.clock r) p.0).0

  module _ {k : ℕ} (g : f ≡ Some k) where
    pub found_waits : Waits k b
    found_waits =
        let q = found_is (waiting_slot serial t) e g in
        record { lawful = l; slot = waiting_slot_lem b g serial e; kind = rw q (chosen_kind (omega (arith, found_low (waiting_slot serial t) e g))) }

    pub finish_at_lem : (y : Bool) (o o' b' : List ℕ) (r : Outcome) → Done (finish_at k (rec_at k t.slots) y t) r b' o o' → Done (finish serial y t) r b' o o'
    unfolding finish
    finish_at_lem y o o' b' r d = let q = found_is (waiting_slot serial t) e g in rw q at d
