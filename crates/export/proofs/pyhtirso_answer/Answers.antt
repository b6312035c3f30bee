-- The call of signon, or nothing.
use Rattle.export.proofs.Laws.{method_told, answer_none, answer_some}
use Rattle.export.proofs.pyhtirso_answer.Goals as goal

pub returns-then-outcome-ne8 : goal.returns-then-outcome-ne8
returns-then-outcome-ne8 c = search answer_none

pub returns : goal.returns
returns c = let m = method_told c.args.post c.from-method.ensures in search answer_some
