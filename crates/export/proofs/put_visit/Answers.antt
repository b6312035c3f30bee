-- The two places filled.
use borrow.Author.Rules.{rules}
use Rattle.export.specs.Numbers.{visit_numbers}
use Rattle.export.proofs.put_visit.Goals as goal

pub returns : goal.returns
unfolding visit_numbers
returns c = search rules
