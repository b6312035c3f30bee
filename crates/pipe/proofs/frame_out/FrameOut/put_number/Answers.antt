-- A number of four bytes.
use Rattle.std.proofs.Common.{refl, rules}
use Rattle.pipe.proofs.Laws.{number_wrote}
use Rattle.pipe.proofs.frame_out.FrameOut.put_number.Goals as goal

pub returns-clause-wrote : goal.returns-clause-wrote
returns-clause-wrote c = number_wrote _ _ _ _ _ (search rules) c.put.ensures refl
