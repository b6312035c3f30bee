-- The letter, then the reason.
use Rattle.std.proofs.Common.{◌∙◌}
use Rattle.pipe.proofs.Laws.{two_wrote, cut_wrote}
use Rattle.pipe.proofs.frame_out.FrameOut.reply_bad.Goals as goal

pub returns : goal.returns
returns c = two_wrote _ _ _ _ _ _ _ _ c.begin.ensures.wrote (cut_wrote _ _ _ _ _ _ (c.as_bytes.ensures.value ∙ c.reason.ensures.value) c.put_text.ensures.wrote)
