-- What the two iterators have left, byte by byte: the second has all of the text. Assumes nothing.
use Rattle.std.proofs.Common.{arith, rules}
use Rattle.std.proofs.lemmas.Iterator.{YieldsList-from_map, YieldsList-from_slice}
use Rattle.std.proofs.lemmas.Iterator.Consumers.{YieldsList-from_first}
use Rattle.std.proofs.lemmas.List.{map-id, take_all}
use Rattle.decode.specs.Units.{left}
use Rattle.decode.proofs.Laws.{same_from_eq}
use Rattle.decode.proofs.is_text.Goals as goal

pub returns : goal.returns
returns c =
    rw (map-id c.args.text.now) at
    (same_from_eq c.eq.result c.eq.ensures.ran (YieldsList-from_first (λ x. x) left _ c.of.ensures)
    (YieldsList-from_map _ (λ x. x) (YieldsList-from_slice c.args.text.now (grind (arith, take_all))) (cc) (λ x r q k. search rules)))
