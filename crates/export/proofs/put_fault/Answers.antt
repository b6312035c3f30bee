-- The two places filled.
use borrow.Author.Rules.{rules}
use Rattle.export.specs.Numbers.{fault_numbers}
use Rattle.export.proofs.put_fault.Goals as goal

pub returns : goal.returns
unfolding fault_numbers
returns c = search rules
