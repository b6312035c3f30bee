-- Each test is a rung of the list; the first two were judged together.
use lib.ListN.{length}
use Rattle.protocol.specs.Table.{table_shape, table_lawful}
use Rattle.protocol.specs.Calls.{check_of}
use Rattle.refusal.proofs.Laws.{judged_no}
use Rattle.refusal.proofs.of_visit.Goals as goal

pub returns-in_err-of_check : goal.returns-in_err-of_check
unfolding check_of
returns-in_err-of_check c = judged_no (table_shape (length c.args.table.now)) (table_lawful c.args.table.now) 1 2 _ _ _ c.from_residual.ensures.1 c.in_err-of_check.ensures
