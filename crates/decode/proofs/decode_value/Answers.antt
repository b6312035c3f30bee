-- Invariant: what is left to write is what is left to decode, and its bytes are bytes. Assumes nothing.
use Rattle.std.proofs.Common.{arith}
use Rattle.std.proofs.lemmas.Grind.{common_steps}
use Rattle.protocol.specs.Bytes.{all_within}
use Rattle.text.proofs.Splice.{left_byte}
use Rattle.decode.specs.Units.{left}
use Rattle.decode.proofs.decode_value.Goals as goal

pub loop-v-preserved : goal.loop-v-preserved
unfolding all_within
loop-v-preserved c = (left_byte (left c.next.new.self) c.loop-v.invariant.0 c.in-Some.ensures.steps, grind (arith, common_steps))
