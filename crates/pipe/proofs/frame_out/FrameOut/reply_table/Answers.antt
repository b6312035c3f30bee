-- The letter, then the table.
use Rattle.pipe.proofs.Laws.{two_wrote}
use Rattle.pipe.proofs.frame_out.FrameOut.reply_table.Goals as goal

pub returns : goal.returns
returns c = two_wrote _ _ _ _ _ _ _ _ c.begin.ensures.wrote c.put_text.ensures.wrote
