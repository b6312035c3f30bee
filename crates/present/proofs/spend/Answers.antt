-- What an accepted ticket leaves is lawful, and has its session and parent.
use borrow.Author.Rules.{rules}
use Rattle.present.proofs.Laws.{still_lent, stays}
use Rattle.present.proofs.spend.Goals as goal

pub accept-requires : goal.accept-requires
accept-requires c = search (rules, still_lent, stays)
