-- The call of signon, or nothing.
use Rattle.export.proofs.Laws.{finish_none, finish_some}
use Rattle.export.proofs.pyhtirso_finish.Goals as goal

pub returns-then-outcome-ne8 : goal.returns-then-outcome-ne8
returns-then-outcome-ne8 c = search finish_none

pub returns : goal.returns
returns c = search finish_some
