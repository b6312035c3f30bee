-- Signed out: the page as it stands, and its link behind it.
use borrow.Author.Rules.{rules}
use Rattle.render.proofs.Texts.{signed_out_wrote, link_room, linked_wrote}
use Rattle.render.proofs.put_signed_out.Goals as goal

pub returns-then-is_empty : goal.returns-then-is_empty
returns-then-is_empty c = search (rules, signed_out_wrote)

pub put_link-requires : goal.put_link-requires
put_link-requires c = search (rules, link_room)

pub returns : goal.returns
returns c = search (rules, linked_wrote)
