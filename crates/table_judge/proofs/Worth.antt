-- What a lawful table is worth to callers: its bytes are fine, and the table that they say keeps the rules. Assumes nothing.
use mathlib.Core.Path.{◌≡◌}
use mathlib.Core.Bool.{true}
use mathlib.Core.List.{List}
use Prim.Native.Nat.{ℕ, ◌*◌, ◌/◌, ◌%◌, ◌≤◌}
use native.Mathlib.Omega.{arith}
use borrow.Author.Tests.{eqb-true, leb-true}
use lib.Dec.{eqb, leb}
use lib.ListN.{length}
use Rattle.protocol.specs.Bytes.{within}
use Rattle.protocol.specs.Table.{table_shape, table_lawful}
use Rattle.protocol.specs.Held.{Fine, Lawful}
use Rattle.protocol.proofs.Laws.{both, lawful_bytes, lawful_rules}
use Rattle.protocol.proofs.Places.{slots_count}
use Rattle.protocol.proofs.Lasting.{lawful_sound}

-- a right shape, in numbers: n blocks
pub record Shaped (s n : ℕ) : Type 0 where
  pub whole : s ≡ 512 * n
  pub low : 9 ≤ n
  pub high : n ≤ 128

pub shaped : (s : ℕ) → table_shape s ≡ true → Shaped s (s / 512)
shaped s h =
    let p = both (eqb (s % 512) 0) (within 9 128 (s / 512)) h in
    let q = both (leb 9 (s / 512)) (leb (s / 512) 128) p.1 in
    let x = eqb-true (s % 512) 0 p.0 in
    record { whole = omega arith; low = leb-true 9 (s / 512) q.0; high = leb-true (s / 512) 128 q.1 }

pub lawful_fine : (b : List ℕ) → table_shape (length b) ≡ true → table_lawful b ≡ true → Fine b
lawful_fine b h e =
    let s = lawful_sound b h e in
    let n = shaped (length b) h in
    record { same = lawful_bytes b e; clock = s.rules.clock; next = s.next; fit = s.fit; few = s.few; count = omega (arith, n.whole, n.low, slots_count b) }

pub lawful_law : (b : List ℕ) → table_shape (length b) ≡ true → table_lawful b ≡ true → Lawful b
lawful_law b h e = record { fine = lawful_fine b h e; rules = lawful_rules b e }
