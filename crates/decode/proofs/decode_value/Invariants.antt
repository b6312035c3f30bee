-- Invariant: what is left to write is what is left to decode, and its bytes are bytes. Assumes nothing.
use mathlib.Core.Path.{◌≡◌}
use mathlib.Core.Bool.{true}
use Rattle.protocol.specs.Bytes.{all_within}
use Rattle.protocol.specs.Request.{decoded}
use Rattle.text.proofs.Splice.{Left}
use Rattle.decode.specs.Units.{left}
use Rattle.decode.proofs.decode_value.Given as goal

abbrev pub invariant-loop-v : goal.invariant-loop-v
invariant-loop-v l = Left l.initial.out 0 (decoded l.in_body l.raw) l.out l.to (left l.v-iterator) × (all_within 0 255 (left l.v-iterator) ≡ true)
