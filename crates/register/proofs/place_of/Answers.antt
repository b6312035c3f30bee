-- The first block that `find` meets with the service. Assumes nothing.
use Rattle.std.proofs.Common.{refl, ◌/◌, length, arith, rules}
use Rattle.std.proofs.lemmas.Iterator.{YieldsList-from_range}
use Rattle.std.proofs.lemmas.Iterator.Search.{find_from_yields_List}
use Rattle.text.proofs.Laws.{same_pointwise}
use Rattle.protocol.specs.Bytes.{same}
use Rattle.protocol.specs.Panels.{service_in}
use Rattle.register.proofs.Laws.{same_bytewise, place_found}
use Rattle.register.proofs.place_of.Goals as goal

pub returns : goal.returns
returns c =
    place_found c.args.service.now c.args.b.now
    (find_from_yields_List (λ j. same c.args.service.now (service_in c.args.b.now j)) _ _ _ c.find.ensures.ran (YieldsList-from_range 0 (length c.args.b.now / 512) _ refl (omega arith)) (λ x b q k. (search rules, grind (arith, same_pointwise, same_bytewise))))
