-- A byte stored.
use Rattle.std.proofs.Common.{rules}
use Rattle.text.proofs.Splice.{wrote_byte}
use Rattle.pipe.proofs.frame_out.FrameOut.put_byte.Goals as goal

pub returns-clause-wrote : goal.returns-clause-wrote
returns-clause-wrote c = wrote_byte _ _ _ (search rules)
