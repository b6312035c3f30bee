-- Some slot behind k passes the test.
use Rattle.std.proofs.Common.{refl, ◌∙◌, ◌+◌, arith, rules, tests}
use Rattle.std.proofs.lemmas.Iterator.{YieldsList-from_range}
use Rattle.std.proofs.lemmas.Iterator.Search.{any_from_yields_List}
use Rattle.protocol.specs.Held.{said_at}
use Rattle.table_judge.specs.Tests.{has_serial}
use Rattle.table_judge.proofs.Slots.{taken_behind}
use Rattle.table_judge.proofs.Judge.serial_taken.Goals as goal

pub returns : goal.returns
returns c =
    any_from_yields_List (λ j. has_serial c.args.serial (said_at j c.args.self.table.now)) _ _ _ c.any.ensures.ran (YieldsList-from_range (c.args.k + 1) c.args.self.count _ refl (omega arith)) (λ x b q k. search (rules, tests))
    ∙ taken_behind c.args.self.table.now c.args.self.count c.args.self.whole c.args.k c.args.serial c.requires
