-- The header first; within it the slots and the count decide.
use Rattle.block.proofs.Bytewise.{Bytes}
use Rattle.table_judge.proofs.Whole.{clock_low, table_wrong, table_right}
use borrow.Author.Rules.{rules}
use Rattle.table_judge.proofs.table_lawful.Goals as goal

pub returns-then-not-head_right : goal.returns-then-not-head_right
returns-then-not-head_right c =
    let bytes : Bytes c.args.table.now = record { each = λ i. (c.type_inv.table i).fits } in
    search (rules, table_wrong, bytes)

pub invariant_of-clock : goal.invariant_of-clock
invariant_of-clock c = search (rules, clock_low)

pub returns : goal.returns
returns c =
    let bytes : Bytes c.args.table.now = record { each = λ i. (c.type_inv.table i).fits } in
    search (rules, table_right, bytes)
