-- The service: nothing, or a hidden input.
use borrow.Author.Rules.{rules}
use Rattle.render.proofs.Texts.{no_service, service_room, service_wrote}
use Rattle.render.proofs.put_service.Goals as goal

pub returns-then-is_empty : goal.returns-then-is_empty
returns-then-is_empty c = search (rules, no_service)

pub put_hidden-requires : goal.put_hidden-requires
put_hidden-requires c = search (rules, service_room)

pub returns : goal.returns
returns c = search (rules, service_wrote)
