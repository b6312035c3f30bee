-- What is left to write is the changes of the blocks from here on; each took 516 bytes at most.
use mathlib.Core.Path.{◌≡◌}
use Prim.Native.Nat.{◌+◌, ◌-◌, ◌*◌, ◌/◌, ◌≤◌}
use lib.ListN.{length}
use Rattle.text.proofs.Splice.{Left}
use Rattle.changed.specs.Changes.{changes_from, changes_of, blocks_text}
use Rattle.changed.proofs.put_blocks.Given as goal

abbrev pub invariant-loop-k : goal.invariant-loop-k
invariant-loop-k l = (l.m ≡ length l.new / 512) × (l.k ≤ l.m) × (l.to ≤ l.at + 516 * l.k) × (length l.out ≡ length l.initial.out) × Left l.initial.out l.at (blocks_text (changes_of l.old l.new)) l.out l.to (blocks_text (changes_from l.k (l.m - l.k) l.old l.new))
