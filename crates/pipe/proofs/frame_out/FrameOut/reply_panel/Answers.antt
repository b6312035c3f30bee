-- The refusal, then the block.
use Rattle.std.proofs.Common.{ap}
use Rattle.text.proofs.Splice.{wrote_as}
use Rattle.pipe.specs.Frames.{refused}
use Rattle.pipe.proofs.Laws.{two_wrote}
use Rattle.pipe.proofs.frame_out.FrameOut.reply_panel.Goals as goal

pub returns : goal.returns
returns c = two_wrote _ _ _ _ _ _ _ _ (wrote_as (ap (refused 66) c.number_of.ensures) c.put_refusal.ensures.wrote) c.put_text.ensures.wrote
