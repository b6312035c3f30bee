-- Each name in its turn. Assumes nothing.
use Rattle.request.proofs.Laws.{asked_as, stands}
use Rattle.request.proofs.login_query.Goals as goal

pub returns-in_err-service-clause-spells : goal.returns-in_err-service-clause-spells
returns-in_err-service-clause-spells c = rw (c.from_residual.ensures, asked_as c.walk-found.ensures, ← c.in_err-service.ensures.spells)

pub returns-in_err-judged-clause-spells : goal.returns-in_err-judged-clause-spells
returns-in_err-judged-clause-spells c = rw (c.from_residual-in_err-judged.ensures, asked_as c.walk-found.ensures, ← c.in_ok-service.ensures.spells, ← c.in_err-judged.ensures.spells)

pub returns-in_err-judged-2-clause-spells : goal.returns-in_err-judged-2-clause-spells
returns-in_err-judged-2-clause-spells c = rw (c.from_residual-in_err-judged-2.ensures, asked_as c.walk-found.ensures, ← c.in_ok-service.ensures.spells, ← c.in_ok-judged.ensures.spells, ← c.in_err-judged-2.ensures.spells)

pub returns-clause-spells : goal.returns-clause-spells
returns-clause-spells c = rw (asked_as c.walk-found.ensures, ← c.in_ok-service.ensures.spells, ← c.in_ok-judged.ensures.spells, ← c.in_ok-judged-2.ensures.spells)

pub returns-clause-stands : goal.returns-clause-stands
returns-clause-stands c = stands c.walk-found.ensures.first c.in_ok-service.ensures.taken
