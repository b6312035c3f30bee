-- The service is no longer than one may be.
use borrow.Author.Rules.{rules}
use Rattle.login_post.proofs.Laws.{enter_offers, enter_ready}
use Rattle.login_post.proofs.enter.Goals as goal

pub form-requires : goal.form-requires
form-requires c = search (rules, enter_offers)

pub accept-requires : goal.accept-requires
accept-requires c = search (rules, enter_ready)
