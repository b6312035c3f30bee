-- The refusal, then the numbers, one behind the other.
use Rattle.pipe.proofs.Laws.{outcome_wrote}
use Rattle.pipe.proofs.frame_out.FrameOut.put_outcome.Goals as goal

pub returns-clause-wrote : goal.returns-clause-wrote
returns-clause-wrote c =
    outcome_wrote c.args.letter c.args.o _ _ _ _ _ _ _ _ _ _ _ _ _ _ _ _ _ _ _ c.put_refusal.ensures.wrote c.number_of.ensures c.put_byte.ensures.wrote c.data_of.ensures c.put_byte-2.ensures.wrote
    c.from.ensures c.put_number.ensures.wrote c.from-2.ensures c.put_byte-3.ensures.wrote c.from-3.ensures c.put_number-2.ensures.wrote
