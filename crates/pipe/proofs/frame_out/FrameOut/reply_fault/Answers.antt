-- Refusal and block.
use Rattle.pipe.proofs.Laws.{two_wrote}
use Rattle.pipe.proofs.frame_out.FrameOut.reply_fault.Goals as goal

pub returns : goal.returns
returns c = two_wrote _ _ _ _ _ _ _ _ c.put_refusal.ensures.wrote c.put_number.ensures.wrote
