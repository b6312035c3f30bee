-- What was found of the bytes so far, and the comparison of what is left, are that of the whole.
use mathlib.Core.Path.{◌≡◌}
use mathlib.Core.Bool.{◌&&◌}
use lib.ListN.{length}
use Rattle.std.specs.Iterator.Adapters.{zip_first, zip_second}
use Rattle.std.specs.Slice.Iter.{iter_rest}
use Rattle.protocol.specs.Bytes.{same}
use Rattle.changed.proofs.alike.Given as goal

abbrev pub invariant-loop-x : goal.invariant-loop-x
invariant-loop-x l =
    let xs = iter_rest (zip_first l.x-iterator) in
    let ys = iter_rest (zip_second l.x-iterator) in
    (length xs ≡ length ys) × (l.good && same xs ys ≡ same l.a l.b)
