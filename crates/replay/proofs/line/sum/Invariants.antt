-- Both sums stay below 65,535, so that nothing overflows.
use Rattle.std.proofs.Common.{◌<◌}
use Rattle.replay.proofs.line.sum.Given as goal

abbrev pub invariant-loop-x : goal.invariant-loop-x
invariant-loop-x l = (l.a < 65535) × (l.b < 65535)
