-- A failure of the validators.
use borrow.Author.Rules.{rules}
use Rattle.xml.proofs.Texts.{failure_room, failure_wrote}
use Rattle.xml.proofs.put_failure.Goals as goal

pub put_failure_by-requires : goal.put_failure_by-requires
put_failure_by-requires c = search (rules, failure_room)

pub returns : goal.returns
returns c = search (rules, failure_wrote)
