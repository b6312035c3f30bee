-- Each name in its turn. Assumes nothing.
use Rattle.request.proofs.Laws.{shown_as, stands, url_stands}
use Rattle.request.proofs.validator_query.Goals as goal

pub returns-in_err-service-clause-spells : goal.returns-in_err-service-clause-spells
returns-in_err-service-clause-spells c = rw (c.from_residual.ensures, shown_as c.args.validator c.walk-found.ensures, ← c.in_err-service.ensures.spells)

pub returns-in_err-ticket-clause-spells : goal.returns-in_err-ticket-clause-spells
returns-in_err-ticket-clause-spells c = rw (c.from_residual-in_err-ticket.ensures, shown_as c.args.validator c.walk-found.ensures, ← c.in_ok-service.ensures.spells, ← c.in_err-ticket.ensures.spells)

pub returns-in_err-judged-clause-spells : goal.returns-in_err-judged-clause-spells
returns-in_err-judged-clause-spells c = rw (c.from_residual-in_err-judged.ensures, shown_as c.args.validator c.walk-found.ensures, ← c.in_ok-service.ensures.spells, ← c.in_ok-ticket.ensures.spells, ← c.in_err-judged.ensures.spells)

pub returns-in_err-pgt_url-clause-spells : goal.returns-in_err-pgt_url-clause-spells
returns-in_err-pgt_url-clause-spells c = rw (c.from_residual-in_err-pgt_url.ensures, shown_as c.args.validator c.walk-found.ensures, ← c.in_ok-service.ensures.spells, ← c.in_ok-ticket.ensures.spells, ← c.in_ok-judged.ensures.spells, ← c.in_err-pgt_url.ensures.spells)

pub returns-clause-spells : goal.returns-clause-spells
returns-clause-spells c = rw (shown_as c.args.validator c.walk-found.ensures, ← c.in_ok-service.ensures.spells, ← c.in_ok-ticket.ensures.spells, ← c.in_ok-judged.ensures.spells, ← c.in_ok-pgt_url.ensures.spells)

pub returns-clause-stands : goal.returns-clause-stands
returns-clause-stands c = record { service = stands c.walk-found.ensures.first c.in_ok-service.ensures.taken; ticket = stands c.walk-found.ensures.second c.in_ok-ticket.ensures.taken; pgt_url = url_stands c.args.validator c.walk-found.ensures.fourth c.in_ok-pgt_url.ensures.taken }
