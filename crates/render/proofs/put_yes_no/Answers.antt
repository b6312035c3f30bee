-- `yes` or `no`.
use borrow.Author.Rules.{rules}
use Rattle.render.proofs.Texts.{yes_wrote, no_wrote}
use Rattle.render.proofs.put_yes_no.Goals as goal

pub returns-then-yes : goal.returns-then-yes
returns-then-yes c = search (rules, yes_wrote)

pub returns : goal.returns
returns c = search (rules, no_wrote)
