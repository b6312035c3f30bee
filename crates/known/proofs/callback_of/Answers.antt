-- The callback at the place. Assumes nothing.
use Rattle.std.proofs.Common.{rules}
use Rattle.request.specs.Value.{text_of}
use Rattle.known.proofs.Laws.{callback_told}
use Rattle.known.proofs.callback_of.Goals as goal

pub returns : goal.returns
returns c = callback_told (text_of c.args.service) c.args.register.now c.map_or.result.now (λ p. search rules) c.standing.result c.standing.ensures c.map_or.ensures (λ k q. search rules)
