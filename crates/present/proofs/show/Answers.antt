-- The ticket that is found may be spent, and is.
use borrow.Author.Rules.{rules}
use Rattle.present.proofs.Laws.{found_spendable, presented_at}
use Rattle.present.proofs.show.Goals as goal

pub spend-requires : goal.spend-requires
spend-requires c = search (rules, found_spendable)

pub returns-in-Some : goal.returns-in-Some
returns-in-Some c = search presented_at
