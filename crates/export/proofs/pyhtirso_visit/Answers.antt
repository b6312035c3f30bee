-- The call of signon, or nothing.
use Rattle.export.proofs.Laws.{visit_none, visit_some}
use Rattle.export.proofs.pyhtirso_visit.Goals as goal

pub returns-then-visit-ne2 : goal.returns-then-visit-ne2
returns-then-visit-ne2 c = search visit_none

pub returns : goal.returns
returns c = search visit_some
