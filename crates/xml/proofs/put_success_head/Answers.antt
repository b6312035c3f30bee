-- User, attributes and IOU, one after the other.
use borrow.Author.Rules.{rules}
use Rattle.xml.proofs.Texts.{user_room, attributes_room, last_room, head_wrote}
use Rattle.xml.proofs.put_success_head.Goals as goal

pub put_user-named-requires : goal.put_user-named-requires
put_user-named-requires c = search (rules, user_room)

pub put_attributes-told-requires : goal.put_attributes-told-requires
put_attributes-told-requires c = search (rules, attributes_room)

pub put_iou-requires : goal.put_iou-requires
put_iou-requires c = search (rules, last_room)

pub returns : goal.returns
returns c = search (rules, head_wrote)
