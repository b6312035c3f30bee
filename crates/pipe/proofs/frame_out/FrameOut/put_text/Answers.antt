-- The length, then the text.
use Rattle.pipe.proofs.Laws.{two_wrote}
use Rattle.pipe.proofs.frame_out.FrameOut.put_text.Goals as goal

pub returns-clause-wrote : goal.returns-clause-wrote
returns-clause-wrote c = two_wrote _ _ _ _ _ _ _ _ c.put_number.ensures.wrote c.put_bytes-self.ensures
