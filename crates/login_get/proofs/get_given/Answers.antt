-- The service is no longer than one may be.
use borrow.Author.Rules.{rules}
use Rattle.known.proofs.Laws.{known-short}
use Rattle.login_get.proofs.Laws.{known_offer}
use Rattle.login_get.proofs.get_given.Goals as goal

pub signed_on-requires : goal.signed_on-requires
signed_on-requires c = (search known_offer, search rules)

pub say_gateway-requires : goal.say_gateway-requires
say_gateway-requires c = (search rules, search known-short)

pub form-requires : goal.form-requires
form-requires c = search known_offer
