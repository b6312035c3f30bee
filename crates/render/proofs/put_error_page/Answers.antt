-- An error page: the head with the status.
use borrow.Author.Rules.{rules}
use Rattle.render.proofs.Texts.{error_room, error_wrote}
use Rattle.render.proofs.put_error_page.Goals as goal

pub put_head-requires : goal.put_head-requires
put_head-requires c = search (rules, error_room)

pub returns : goal.returns
returns c = search (rules, error_wrote)
