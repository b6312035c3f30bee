-- The refusal, then what is told.
use Rattle.pipe.proofs.Laws.{two_wrote, cut_wrote}
use Rattle.pipe.proofs.frame_out.FrameOut.reply_visit.Goals as goal

pub returns : goal.returns
returns c = two_wrote _ _ _ _ _ _ _ _ c.put_refusal.ensures.wrote (cut_wrote _ _ _ _ _ _ c.front.ensures c.put_text.ensures.wrote)
