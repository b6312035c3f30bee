-- What an accepted ticket leaves in the table is what protocol says. Assumes nothing.
use mathlib.Core.Path.{◌≡◌, sym, ◌∙◌}
use mathlib.Core.Bool.{Bool, true, false}
use mathlib.Core.List.{List}
use Prim.Native.Nat.{ℕ}
use borrow.Author.Tests.{eqb-true, eqb-false}
use lib.Dec.{eqb}
use Rattle.protocol.specs.Tickets.{a_service, a_visit}
use Rattle.protocol.specs.Table.{decode_table, rec_at}
use Rattle.protocol.specs.Steps.{put, remove, turned, left_by}
use Rattle.protocol.specs.Held.{Lawful, Holds, In, Spendable}
use Rattle.protocol.proofs.Searches.{Ticket}
use Rattle.protocol.proofs.TurnSound.{left_visit, left_nothing}
use Rattle.protocol.proofs.Held.{sound_held, session_in}

pub shown-live : (b : List ℕ) (k : ℕ) → Spendable k b → Ticket (decode_table b) k
shown-live b k z = record { some = z.slot.low; least = z.least; most = z.most; lasts = z.lasts }

module _ (b : List ℕ) (k : ℕ) (l : Lawful b) (z : Spendable k b) where
  pub session_there : In (rec_at k (decode_table b).slots).session b
  session_there = session_in b k (sound_held b l) z.least

  pub left_visiting : {b' : List ℕ} {n : Bool} → n ≡ eqb (rec_at k (decode_table b).slots).kind a_service → n ≡ true
      → Holds b' (put k (turned a_visit (rec_at k (decode_table b).slots) (decode_table b).slots) (decode_table b)) → Holds b' (left_by k (rec_at k (decode_table b).slots) (remove k (decode_table b)))
  left_visiting {b'} e y h = rw (left_visit (decode_table b) (sound_held b l) k (shown-live b k z) (eqb-true _ _ (sym e ∙ y))) h

  pub left_gone : {b' : List ℕ} {n : Bool} → n ≡ eqb (rec_at k (decode_table b).slots).kind a_service → n ≡ false
      → Holds b' (remove k (decode_table b)) → Holds b' (left_by k (rec_at k (decode_table b).slots) (remove k (decode_table b)))
  left_gone {b'} e y h = rw (left_nothing (decode_table b) (sound_held b l) k (shown-live b k z) (eqb-false _ _ (sym e ∙ y))) h
