-- Invariant: what was passed is right, so that what is left decides, and so many bytes were passed. Assumes nothing.
use mathlib.Core.Path.{◌≡◌}
use Prim.Native.Nat.{◌+◌}
use lib.ListN.{length}
use Rattle.protocol.specs.Bytes.{all_within}
use Rattle.protocol.specs.Request.{decoded}
use Rattle.decode.specs.Units.{left}
use Rattle.decode.proofs.judge.Given as goal

abbrev pub invariant-loop-v : goal.invariant-loop-v
invariant-loop-v l = (all_within l.lo l.hi (decoded l.in_body l.raw) ≡ all_within l.lo l.hi (left l.v-iterator)) × (length (decoded l.in_body l.raw) ≡ l.n + length (left l.v-iterator))
