-- A redirect: the service alone, or its address marked and the ticket behind it.
use borrow.Author.Rules.{rules}
use Rattle.render.proofs.Texts.{alone_wrote, marked_room, name_room, ticket_room, redirect_wrote}
use Rattle.render.proofs.put_redirect.Goals as goal

pub returns-then-is_empty : goal.returns-then-is_empty
returns-then-is_empty c = search (rules, alone_wrote)

pub put_marked-name-requires : goal.put_marked-name-requires
put_marked-name-requires c = search (rules, marked_room)

pub put_bytes-to-requires : goal.put_bytes-to-requires
put_bytes-to-requires c = search (rules, name_room)

pub put_bytes-requires-2 : goal.put_bytes-requires-2
put_bytes-requires-2 c = search (rules, ticket_room)

pub returns : goal.returns
returns c = search (rules, redirect_wrote)
