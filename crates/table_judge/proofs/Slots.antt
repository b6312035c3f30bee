-- Slots of the table's bytes, one after the other, as the code meets them. Assumes nothing.
use mathlib.Core.Path.{◌≡◌, refl, sym, ap, ◌∙◌}
use mathlib.Core.Bool.{Bool, true, false, ◌&&◌, not}
use mathlib.Core.List.{List, [], ◌∷◌}
use Prim.Native.Nat.{ℕ, zero, suc, ◌+◌, ◌-◌, ◌*◌, ◌<◌, ◌≤◌}
use native.Mathlib.Numerals.{add-one}
use native.Mathlib.Omega.{arith}
use borrow.Author.Tests.{eq-eqb}
use lib.Dec.{eqb}
use lib.ListN.{length, drop_of_length-le}
use lib.Seq.{drop-cons}
use Rattle.std.specs.List.{list_any, list_all, range_with_len}
use Rattle.protocol.specs.Bytes.{part}
use Rattle.protocol.specs.Records.{Rec, free_rec}
use Rattle.protocol.specs.Table.{decode_table, rec_at, serial_taken, session_right, parent_right, grant_right}
use Rattle.protocol.proofs.Places.{slots_count}
use Rattle.protocol.specs.Held.{In, said_at}
use Rattle.block.specs.Checks.{check_right_to}
use Rattle.ticket.specs.Kinds.{number}
use Rattle.ticket.proofs.Laws.{number_kind, other_number}
use Rattle.ticket.specs.declared.Kind.TheVariants.{Free}
use Rattle.table.specs.declared.Fields.{Fields}
use Rattle.table.specs.Parts.{Block, fields_of}
use Rattle.table_rules.specs.Tests.{record_right}
use Rattle.table_judge.proofs.Tail.{short_sum}
use Rattle.table_judge.specs.Tests.{from_slot, session_test, parent_test, has_serial, alone_at, slot_right, all_from}

-- a slot of so many blocks
pub slot_in : (b : List ℕ) (n k : ℕ) → length b ≡ 512 * n → 1 ≤ k → k < n → In k b
slot_in b n k h l g = record { low = l; high = omega arith }

-- the records that it names
pub session_is : (slots : List Rec) (r : Rec) → session_right slots r ≡ session_test (fields_of r) (fields_of (rec_at r.session slots))
unfolding session_right
session_is slots r = rw (number_kind r.kind, number_kind (rec_at r.session slots).kind)

pub parent_is : (slots : List Rec) (r : Rec) → parent_right slots r ≡ parent_test (fields_of r) (fields_of (rec_at r.parent slots))
unfolding parent_right grant_right
parent_is slots r = rw (number_kind r.kind, number_kind (rec_at r.parent slots).kind)

-- the records from a slot on: the first, and those behind it
module _ (b : List ℕ) (n : ℕ) (h : length b ≡ 512 * n) where
  from_step : (k : ℕ) → k < n → from_slot k b ≡ said_at k b ∷ from_slot (k + 1) b
  from_step k g = rw add-one (drop-cons (free_rec ∷ (decode_table b).slots) k free_rec (omega (arith, slots_count b)))

  from_end : (k : ℕ) → 1 ≤ k → n ≤ k → from_slot k b ≡ []
  from_end k l g = drop_of_length-le (free_rec ∷ (decode_table b).slots) {i = k} (omega (arith, slots_count b))

  -- some slot from k on has the serial
  taken_from : (s k m : ℕ) → 1 ≤ k → n - k ≡ m → list_any (λ j. has_serial s (said_at j b)) (range_with_len k m) ≡ serial_taken s (from_slot k b)
  unfolding serial_taken
  taken_from s k zero l e = sym (ap (serial_taken s) (from_end k l (omega arith)))
  taken_from s k (suc m) l e = rw (taken_from s (k + 1) m (omega arith) (omega arith)) (sym (ap (serial_taken s) (from_step k (omega arith))))

  pub taken_behind : (k s : ℕ) → k < n → list_any (λ j. has_serial s (said_at j b)) (range_with_len (k + 1) (n - (k + 1))) ≡ serial_taken s (from_slot (k + 1) b)
  taken_behind k s g = taken_from s (k + 1) (n - (k + 1)) (omega arith) refl

-- every slot of some, as std says it
pub all_listed : (test : ℕ → Bool) (k m : ℕ) → list_all test (range_with_len k m) ≡ all_from test k m
unfolding all_from
all_listed test k zero = refl
all_listed test k (suc m) = rw (all_listed test (k + 1) m)

-- a serial that no later record has
pub alone_zero : (b : List ℕ) (k : ℕ) → (said_at k b).kind ≡ 0 → alone_at k b ≡ true
unfolding alone_at
alone_zero b k e = rw (eq-eqb (said_at k b).kind 0 e)

module _ (b : List ℕ) (k : ℕ) {f : Fields} (e : f ≡ fields_of (said_at k b)) where
  kind_said : number f.kind ≡ (said_at k b).kind
  kind_said = rw e (number_kind (said_at k b).kind)

  pub alone_free : f.kind ≡ Free → true ≡ alone_at k b
  alone_free z = sym (alone_zero b k (sym kind_said ∙ ap number z))

  pub alone_held : {t : Bool} → (f.kind ≡ Free → ⊥) → t ≡ serial_taken f.serial (from_slot (k + 1) b) → not t ≡ alone_at k b
  unfolding alone_at
  alone_held z g = let q : eqb (said_at k b).kind 0 ≡ false = rw kind_said at (other_number f.kind Free z) in rw (q, g, e)

-- all that is asked of a slot
pub slot_right_lem : (b : List ℕ) (clock next k : ℕ) {bl : List ℕ} {f s p : Fields} {o u v c a : Bool} → Block k b bl → f ≡ fields_of (said_at k b)
    → s ≡ fields_of (said_at f.session b) → p ≡ fields_of (said_at f.parent b)
    → o ≡ record_right clock next bl → u ≡ session_test f s → v ≡ parent_test f p → c ≡ check_right_to 280 (part (512 * k) 512 b) → a ≡ alone_at k b
    → o && u && v && c && a ≡ slot_right clock next b k
unfolding slot_right
slot_right_lem b clock next k {bl = bl} {f = f} {s = s} {p = p} at e i j o u v c a =
    let u' : session_test f s ≡ session_right (decode_table b).slots (said_at k b) = rw (i, e) (sym (session_is (decode_table b).slots (said_at k b))) in
    let v' : parent_test f p ≡ parent_right (decode_table b).slots (said_at k b) = rw (j, e) (sym (parent_is (decode_table b).slots (said_at k b))) in
    let w = short_sum clock next bl (session_right (decode_table b).slots (said_at k b)) (parent_right (decode_table b).slots (said_at k b)) (alone_at k b) at.size in
    rw (o, at.says, at.is, u, u', v, v', c, a) (rw (at.says, at.is) at w)
