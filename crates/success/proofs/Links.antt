-- Where the parent that a record names lies: in a slot of the lawful table, or nowhere. Assumes nothing.
use mathlib.Core.Path.{◌≡◌, refl}
use mathlib.Core.List.{List}
use Prim.Native.Nat.{ℕ, zero, suc}
use native.Mathlib.Omega.{arith}
use Rattle.protocol.specs.Table.{decode_table, rec_at}
use Rattle.protocol.specs.Held.{Lawful, Within}
use Rattle.protocol.proofs.Held.{sound_held, parent_in}

pub parent_within : (b : List ℕ) → Lawful b → (k : ℕ) → Within (rec_at k (decode_table b).slots).parent b
parent_within b l k = go (rec_at k (decode_table b).slots).parent refl
  where
    go : (p : ℕ) → (rec_at k (decode_table b).slots).parent ≡ p → Within p b
    go zero e = record { high = omega (arith, l.fine.count) }
    go (suc p) e = let i = parent_in b k (sound_held b l) (omega (arith, e)) in record { high = omega (arith, e, i.high) }
