-- The three places filled.
use borrow.Author.Rules.{rules}
use Rattle.export.specs.Numbers.{form_numbers}
use Rattle.export.proofs.put_form.Goals as goal

pub returns : goal.returns
unfolding form_numbers
returns c = search rules
