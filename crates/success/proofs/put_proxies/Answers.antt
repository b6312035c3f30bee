-- Nothing at depth 0; else the element's two lines around those of the walk.
use borrow.Author.Rules.{rules}
use Rattle.success.proofs.Laws.{start, no_proxies, open_room, lines_room, close_room, proxies_wrote}
use Rattle.success.proofs.put_proxies.Goals as goal

pub returns-then-depth-eq0 : goal.returns-then-depth-eq0
returns-then-depth-eq0 c = search (rules, no_proxies)

pub put_proxies_open-first-requires : goal.put_proxies_open-first-requires
put_proxies_open-first-requires c = search (rules, open_room)

pub put_chain-end-requires : goal.put_chain-end-requires
put_chain-end-requires c = search (rules, start, lines_room)

pub put_proxies_close-requires : goal.put_proxies_close-requires
put_proxies_close-requires c = search (rules, close_room)

pub returns : goal.returns
returns c = search (rules, proxies_wrote)
