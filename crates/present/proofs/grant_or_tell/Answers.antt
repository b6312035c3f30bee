-- A grant where the tests allow one, else success without.
use borrow.Author.Rules.{rules}
use Rattle.present.proofs.Laws.{callback_fits, grant_room, shallow, offered, told}
use Rattle.present.proofs.grant_or_tell.Goals as goal

pub overflow_add-new : goal.overflow_add-new
overflow_add-new c = search (rules, shallow)

pub invariant_of-new : goal.invariant_of-new
invariant_of-new c = search (rules, callback_fits)

pub waiting-requires : goal.waiting-requires
waiting-requires c = search (rules, offered, grant_room)

pub say_success-requires : goal.say_success-requires
say_success-requires c = search (rules, told)
