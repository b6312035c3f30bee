-- The place that `position` finds, or the end. Assumes nothing.
use borrow.Author.Rules.{rules}
use Rattle.std.proofs.iter.runs.Made.{chains}
use Rattle.query.proofs.Pieces.{skip_some_place}
use Rattle.query.proofs.skip_empty.Goals as goal

pub returns : goal.returns
returns c = skip_some_place c.args.query.now c.args.at c.unwrap_or.result (search (rules, chains)) (search (rules, chains)) (search (rules, chains))
