-- The refusal, then what was read of both.
use Rattle.pipe.proofs.Laws.{three_wrote, cut_wrote}
use Rattle.pipe.proofs.frame_out.FrameOut.reply_form.Goals as goal

pub returns : goal.returns
returns c = three_wrote _ _ _ _ _ _ _ _ _ _ _ c.put_refusal.ensures.wrote (cut_wrote _ _ _ _ _ _ c.front.ensures c.put_text.ensures.wrote) (cut_wrote _ _ _ _ _ _ c.front-2.ensures c.put_text-2.ensures.wrote)
