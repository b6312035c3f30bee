-- The blocks stand already where the count is put before them.
use borrow.Author.Rules.{rules}
use Rattle.changed.proofs.Writing.{changed_put}
use Rattle.changed.proofs.put_changed.Goals as goal

pub returns : goal.returns
returns c = search (rules, changed_put)
