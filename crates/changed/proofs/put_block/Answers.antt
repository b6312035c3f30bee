-- Number and bytes, one behind the other, or nothing.
use borrow.Author.Rules.{rules}
use Rattle.changed.proofs.Writing.{block_put, block_moves, block_same}
use Rattle.changed.proofs.put_block.Goals as goal

pub returns-then-is_changed : goal.returns-then-is_changed
returns-then-is_changed c = record { wrote = search (rules, block_put); upper_bound = search (rules, block_moves) }

pub returns : goal.returns
returns c = record { wrote = search (rules, block_same); upper_bound = search rules }
