-- The link is no longer than a url may be.
use borrow.Author.Rules.{rules}
use Rattle.known.proofs.Laws.{known-short}
use Rattle.logout.proofs.leave_for.Goals as goal

pub say_signed_out-requires : goal.say_signed_out-requires
say_signed_out-requires c = (search rules, search known-short)
