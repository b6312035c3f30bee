-- The eight places filled.
use borrow.Author.Rules.{rules}
use Rattle.export.proofs.Laws.{outcome_put}
use Rattle.export.proofs.put_outcome.Goals as goal

pub returns : goal.returns
returns c = search (rules, outcome_put)
