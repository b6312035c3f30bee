-- The callback's outcome on the table after the clock. Assumes nothing.
use borrow.Author.Rules.{rules}
use Rattle.signon.proofs.Laws.{finish_done}
use Rattle.signon.proofs.finish.Goals as goal

pub returns : goal.returns
returns c = finish_done c.args.table.now c.args.time c.args.out.now (search rules) c.args.serial c.args.outcome c.tick.ensures c.finish.ensures
