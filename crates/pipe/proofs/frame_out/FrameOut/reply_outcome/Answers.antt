-- The numbers, then the bytes of both outputs.
use Rattle.std.proofs.Common.{rules}
use Rattle.pipe.proofs.Laws.{outcome_told}
use Rattle.pipe.proofs.frame_out.FrameOut.reply_outcome.Goals as goal

pub returns-clause-wrote : goal.returns-clause-wrote
returns-clause-wrote c = search (rules, outcome_told)
