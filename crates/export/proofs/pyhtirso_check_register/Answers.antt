-- The call of signon, or nothing.
use Rattle.export.proofs.Laws.{fault_none, fault_some}
use Rattle.export.proofs.pyhtirso_check_register.Goals as goal

pub returns-then-fault-ne2 : goal.returns-then-fault-ne2
returns-then-fault-ne2 c = search fault_none

pub returns : goal.returns
returns c = search fault_some
