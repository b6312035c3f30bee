-- The definition's sums over what is left, from the reduced sums so far, are those of the whole.
use mathlib.Core.Path.{◌≡◌}
use mathlib.Core.List.{◌++◌}
use Prim.Native.Nat.{◌≤◌, ◌+◌, ◌*◌, ◌%◌}
use lib.ListN.{drop}
use Rattle.protocol.specs.Bytes.{zeros}
use Rattle.protocol.specs.Blocks.{check_from, house_check}
use Rattle.block.proofs.padded_check.Given as goal

abbrev pub invariant-loop-x : goal.invariant-loop-x
invariant-loop-x l = (l.a ≤ 1 + 255 * l.x-index) × (l.b ≤ 1044481 * l.x-index)
    × (check_from (l.a % 65535) (l.b % 65535) (drop l.x-index l.s ++ zeros l.n) ≡ house_check (l.s ++ zeros l.n))
