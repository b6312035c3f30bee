-- What was gathered so far is within the room, and has the head and the length of each text.
use Rattle.std.proofs.Common.{length, ◌+◌, ◌*◌, ◌≤◌}
use Rattle.replay.proofs.frame.gather.Given as goal

abbrev pub invariant-loop : goal.invariant-loop
invariant-loop g l = (l.head + 4 * l.counter ≤ l.end) × (l.end ≤ length l.room)
