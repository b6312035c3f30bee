-- Every slot passes the test.
use Rattle.std.proofs.Common.{refl, ◌∙◌, ◌-◌, arith, rules, tests}
use Rattle.std.proofs.lemmas.Iterator.{YieldsList-from_range}
use Rattle.std.proofs.lemmas.Iterator.Search.{all_from_yields_List}
use Rattle.table_judge.specs.Tests.{slot_right}
use Rattle.table_judge.proofs.Slots.{all_listed}
use Rattle.table_judge.proofs.Judge.slots_right.Goals as goal

pub returns : goal.returns
returns c =
    all_from_yields_List (slot_right c.args.self.clock.seconds c.args.self.next c.args.self.table.now) _ _ _ c.all.ensures.ran (YieldsList-from_range 1 c.args.self.count _ refl (omega arith)) (λ x b q k. search (rules, tests))
    ∙ all_listed (slot_right c.args.self.clock.seconds c.args.self.next c.args.self.table.now) 1 (c.args.self.count - 1)
