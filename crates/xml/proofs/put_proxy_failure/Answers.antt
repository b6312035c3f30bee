-- A failure of proxy.
use borrow.Author.Rules.{rules}
use Rattle.xml.proofs.Texts.{refusal_room, refusal_wrote}
use Rattle.xml.proofs.put_proxy_failure.Goals as goal

pub put_failure_by-requires : goal.put_failure_by-requires
put_failure_by-requires c = search (rules, refusal_room)

pub returns : goal.returns
returns c = search (rules, refusal_wrote)
