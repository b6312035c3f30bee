-- A block is judged where it stands.
use Rattle.block.proofs.Parts.{right_in_place}
use Rattle.block.proofs.block_ok_to.Goals as goal

pub returns : goal.returns
returns c = search right_in_place
