-- Invariant: what is left, judged from the state, decides. Assumes nothing.
use borrow.Author.Rules.{rules}
use Rattle.utf8.proofs.Laws.{name_turn, name_done}
use Rattle.utf8.proofs.Join.{judged_name_lem}
use Rattle.utf8.proofs.is_name.Goals as goal

pub loop-byte-init : goal.loop-byte-init
loop-byte-init c = judged_name_lem _

pub loop-byte-preserved : goal.loop-byte-preserved
loop-byte-preserved c = search (rules, name_turn)

pub returns : goal.returns
returns c = search (rules, name_done)
