-- The first block that `find` meets with the service. Assumes nothing.
use Rattle.std.proofs.Common.{refl, ◌/◌, length, arith, rules, tests}
use Rattle.std.proofs.lemmas.Iterator.{YieldsList-from_range}
use Rattle.std.proofs.lemmas.Iterator.Search.{find_from_yields_List}
use Rattle.protocol.specs.Bytes.{same}
use Rattle.protocol.specs.Panels.{service_in}
use Rattle.request.specs.Value.{text_of}
use Rattle.known.proofs.Laws.{standing_found}
use Rattle.known.proofs.standing.Goals as goal

pub returns : goal.returns
returns c =
    standing_found (text_of c.args.service) c.args.register.now
    (find_from_yields_List (λ j. same (text_of c.args.service) (service_in c.args.register.now j)) _ _ _ c.find.ensures.ran (YieldsList-from_range 0 (length c.args.register.now / 512) _ refl (omega arith)) (λ x b q k. search (rules, tests)))
