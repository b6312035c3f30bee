-- A callback: its address marked, and grant and IOU behind it.
use borrow.Author.Rules.{rules}
use Rattle.render.proofs.Texts.{url_room, grant_room, callback_wrote}
use Rattle.render.proofs.put_callback.Goals as goal

pub put_marked-to-requires : goal.put_marked-to-requires
put_marked-to-requires c = search (rules, url_room)

pub put_grant-requires : goal.put_grant-requires
put_grant-requires c = search (rules, grant_room)

pub returns : goal.returns
returns c = search (rules, callback_wrote)
