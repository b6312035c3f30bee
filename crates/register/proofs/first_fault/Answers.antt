-- The first block that `find` meets at fault. Assumes nothing.
use Rattle.std.proofs.Common.{refl, ◌/◌, length, arith, rules, tests}
use Rattle.std.proofs.lemmas.Iterator.{YieldsList-from_range}
use Rattle.std.proofs.lemmas.Iterator.Search.{find_from_yields_List}
use Rattle.protocol.specs.Panels.{at_fault}
use Rattle.register.proofs.Laws.{fault_found}
use Rattle.register.proofs.first_fault.Goals as goal

pub returns : goal.returns
returns c =
    fault_found c.args.b.now
    (find_from_yields_List (at_fault c.args.b.now) _ _ _ c.find.ensures.ran (YieldsList-from_range 0 (length c.args.b.now / 512) _ refl (omega arith)) (λ x b q k. search (rules, tests)))
