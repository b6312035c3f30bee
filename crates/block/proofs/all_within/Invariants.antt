-- What was found of the bytes before the next, and the test of what is left, are that of the whole.
use Rattle.block.proofs.Within.{Passed}
use Rattle.block.proofs.all_within.Given as goal

abbrev pub invariant-loop-b : goal.invariant-loop-b
invariant-loop-b l = Passed l.lo l.hi l.s l.good l.b-index
