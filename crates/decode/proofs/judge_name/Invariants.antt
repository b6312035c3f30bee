-- Invariant: the state and what is left decide, and so many bytes were passed. Assumes nothing.
use mathlib.Core.Path.{◌≡◌}
use Prim.Native.Nat.{◌+◌}
use lib.ListN.{length}
use Rattle.protocol.specs.Utf8.{name_right}
use Rattle.protocol.specs.Request.{decoded}
use Rattle.utf8.specs.Machine.{judged_from}
use Rattle.decode.specs.Units.{left}
use Rattle.decode.proofs.judge_name.Given as goal

abbrev pub invariant-loop-v : goal.invariant-loop-v
invariant-loop-v l = (judged_from l.state (left l.v-iterator) ≡ name_right (decoded l.in_body l.raw)) × (length (decoded l.in_body l.raw) ≡ l.n + length (left l.v-iterator))
