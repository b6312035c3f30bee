-- The letter, then the refusal.
use Rattle.std.proofs.Common.{rules}
use Rattle.pipe.proofs.Laws.{refusal_wrote}
use Rattle.pipe.proofs.frame_out.FrameOut.put_refusal.Goals as goal

pub returns-clause-wrote : goal.returns-clause-wrote
returns-clause-wrote c = search (rules, refusal_wrote)
