-- Each name in its turn. Assumes nothing.
use Rattle.request.proofs.Laws.{posted_as, stands}
use Rattle.request.proofs.login_body.Goals as goal

pub returns-in_err-service-clause-spells : goal.returns-in_err-service-clause-spells
returns-in_err-service-clause-spells c = rw (c.from_residual.ensures, posted_as c.walk-found.ensures, ← c.in_err-service.ensures.spells)

pub returns-in_err-username-clause-spells : goal.returns-in_err-username-clause-spells
returns-in_err-username-clause-spells c = rw (c.from_residual-in_err-username.ensures, posted_as c.walk-found.ensures, ← c.in_ok-service.ensures.spells, ← c.in_err-username.ensures.spells)

pub returns-in_err-password-clause-spells : goal.returns-in_err-password-clause-spells
returns-in_err-password-clause-spells c = rw (c.from_residual-in_err-password.ensures, posted_as c.walk-found.ensures, ← c.in_ok-service.ensures.spells, ← c.in_ok-username.ensures.spells, ← c.in_err-password.ensures.spells)

pub returns-in_err-lt-clause-spells : goal.returns-in_err-lt-clause-spells
returns-in_err-lt-clause-spells c = rw (c.from_residual-in_err-lt.ensures, posted_as c.walk-found.ensures, ← c.in_ok-service.ensures.spells, ← c.in_ok-username.ensures.spells, ← c.in_ok-password.ensures.spells, ← c.in_err-lt.ensures.spells)

pub returns-clause-spells : goal.returns-clause-spells
returns-clause-spells c = rw (posted_as c.walk-found.ensures, ← c.in_ok-service.ensures.spells, ← c.in_ok-username.ensures.spells, ← c.in_ok-password.ensures.spells, ← c.in_ok-lt.ensures.spells)

pub returns-clause-stands : goal.returns-clause-stands
returns-clause-stands c = record { service = stands c.walk-found.ensures.first c.in_ok-service.ensures.taken; username = stands c.walk-found.ensures.second c.in_ok-username.ensures.taken; password = stands c.walk-found.ensures.third c.in_ok-password.ensures.taken; lt = stands c.walk-found.ensures.fourth c.in_ok-lt.ensures.taken }
