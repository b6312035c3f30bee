-- Its limits; within them the bytes decide.
use borrow.Author.Rules.{rules}
use Rattle.block.proofs.Bytewise.{Bytes}
use Rattle.table_rules.proofs.Laws.{limits_short, record_wrong, record_right_lem}
use Rattle.table_rules.proofs.record_right.Goals as goal

pub text_right-requires : goal.text_right-requires
text_right-requires c = search (rules, limits_short)

pub returns-then-not-limits_right : goal.returns-then-not-limits_right
returns-then-not-limits_right c = search (rules, record_wrong)

pub returns : goal.returns
returns c =
    let bytes : Bytes c.args.block.now = record { each = c.fits-block } in
    search (rules, record_right_lem, bytes)
