-- Each name in its turn. Assumes nothing.
use Rattle.request.proofs.Laws.{wanted_as, stands}
use Rattle.request.proofs.proxy_query.Goals as goal

pub returns-in_err-pgt-clause-spells : goal.returns-in_err-pgt-clause-spells
returns-in_err-pgt-clause-spells c = rw (c.from_residual.ensures, wanted_as c.walk-found.ensures, ← c.in_err-pgt.ensures.spells)

pub returns-in_err-target-clause-spells : goal.returns-in_err-target-clause-spells
returns-in_err-target-clause-spells c = rw (c.from_residual-in_err-target.ensures, wanted_as c.walk-found.ensures, ← c.in_ok-pgt.ensures.spells, ← c.in_err-target.ensures.spells)

pub returns-clause-spells : goal.returns-clause-spells
returns-clause-spells c = rw (wanted_as c.walk-found.ensures, ← c.in_ok-pgt.ensures.spells, ← c.in_ok-target.ensures.spells)

pub returns-clause-stands : goal.returns-clause-stands
returns-clause-stands c = record { pgt = stands c.walk-found.ensures.first c.in_ok-pgt.ensures.taken; target = stands c.walk-found.ensures.second c.in_ok-target.ensures.taken }
