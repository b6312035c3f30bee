-- By the comparison part by part.
use Rattle.block.proofs.Bytewise.{Bytes}
use borrow.Author.Rules.{rules}
use Rattle.text.proofs.Laws.{same_pointwise}
use Rattle.table_rules.proofs.Laws.{head_right_lem}
use Rattle.table_rules.proofs.head_right.Goals as goal

pub returns : goal.returns
returns c =
    let bytes : Bytes c.args.table.now = record { each = λ i. (c.type_inv.table i).fits } in
    search (rules, head_right_lem, same_pointwise, bytes)
