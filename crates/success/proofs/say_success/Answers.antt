-- Head, proxies and tail, written one after the other, are the success.
use borrow.Author.Rules.{rules}
use Rattle.success.proofs.Laws.{user_short, since_known, proxies_room, tail_room, success_said}
use Rattle.success.proofs.say_success.Goals as goal

pub invariant_of-since : goal.invariant_of-since
invariant_of-since c = record { in_range = search since_known }

pub put_success_head-head-requires-clause-user_len_bound : goal.put_success_head-head-requires-clause-user_len_bound
put_success_head-head-requires-clause-user_len_bound c = search (rules, user_short)

pub put_proxies-to-requires : goal.put_proxies-to-requires
put_proxies-to-requires c = search (rules, proxies_room)

pub put_success_tail-n-requires : goal.put_success_tail-n-requires
put_success_tail-n-requires c = search (rules, tail_room)

pub returns : goal.returns
returns c = search (rules, success_said)
