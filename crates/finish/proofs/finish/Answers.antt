-- The waiting grant that is found is settled.
use borrow.Author.Rules.{rules}
use Rattle.finish.proofs.Laws.{found_waits, finish_at_lem}
use Rattle.finish.proofs.finish.Goals as goal

pub settle-requires : goal.settle-requires
settle-requires c = search (rules, found_waits)

pub returns-in-Some : goal.returns-in-Some
returns-in-Some c = search (rules, finish_at_lem)
