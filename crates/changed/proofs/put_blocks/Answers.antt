-- What is left to write is the changes of the blocks from here on; each took 516 bytes at most.
use borrow.Author.Rules.{rules}
use Rattle.changed.proofs.Writing.{blocks_start, blocks_turn, blocks_done}
use Rattle.changed.proofs.put_blocks.Goals as goal

pub loop-k-init : goal.loop-k-init
loop-k-init c = (search rules, search rules, search rules, search rules, search (rules, blocks_start))

pub loop-k-preserved : goal.loop-k-preserved
loop-k-preserved c = (search rules, search rules, search rules, search rules, search (rules, blocks_turn))

pub returns : goal.returns
returns c = search (rules, blocks_done)
