-- A block is sealed where it stands.
use Rattle.block.proofs.Laws.{seal_done}
use Rattle.block.proofs.seal.Goals as goal

pub returns : goal.returns
returns c = search seal_done
