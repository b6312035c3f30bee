-- What stands in the field, with the bytes that are left to store, is the number's bytes.
use mathlib.Core.Path.{◌≡◌}
use Prim.Native.Nat.{◌-◌}
use lib.Seq.{sets}
use Rattle.protocol.specs.Bytes.{bytes_of}
use Rattle.block.proofs.put.Given as goal

abbrev pub invariant-loop-b : goal.invariant-loop-b
invariant-loop-b l = sets l.b-items l.b-index (bytes_of (l.n - l.b-index) l.w) ≡ bytes_of l.n l.v
