-- Invariant: what is left, judged from the state, decides. Assumes nothing.
use mathlib.Core.Path.{◌≡◌}
use lib.ListN.{drop}
use Rattle.protocol.specs.Utf8.{name_right}
use Rattle.utf8.specs.Machine.{judged_from}
use Rattle.utf8.proofs.is_name.Given as goal

abbrev pub invariant-loop-byte : goal.invariant-loop-byte
invariant-loop-byte l = judged_from l.state (drop l.byte-index l.bytes) ≡ name_right l.bytes
