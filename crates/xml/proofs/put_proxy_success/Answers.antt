-- A proxy ticket between the lines of the outer element.
use borrow.Author.Rules.{rules}
use Rattle.xml.proofs.Texts.{ticket_told, ticket_close, ticket_wrote}
use Rattle.xml.proofs.put_proxy_success.Goals as goal

pub put_proxy_ticket-told-requires : goal.put_proxy_ticket-told-requires
put_proxy_ticket-told-requires c = search (rules, ticket_told)

pub put_close-requires : goal.put_close-requires
put_close-requires c = search (rules, ticket_close)

pub returns : goal.returns
returns c = search (rules, ticket_wrote)
