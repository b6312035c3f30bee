-- The IOU: nothing, or its line in pieces.
use borrow.Author.Rules.{rules}
use Rattle.xml.proofs.Texts.{no_iou, iou_open, iou_close, iou_wrote}
use Rattle.xml.proofs.put_iou.Goals as goal

pub returns-then-is_empty : goal.returns-then-is_empty
returns-then-is_empty c = search (rules, no_iou)

pub put_bytes-value-requires : goal.put_bytes-value-requires
put_bytes-value-requires c = search (rules, iou_open)

pub put_bytes-requires : goal.put_bytes-requires
put_bytes-requires c = search (rules, iou_close)

pub returns : goal.returns
returns c = search (rules, iou_wrote)
