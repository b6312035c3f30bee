-- A day in its three parts.
use borrow.Author.Rules.{rules}
use Rattle.calendar.proofs.Texts.{month_two, day_two, room_year, room_month, room_day, day_wrote}
use Rattle.calendar.proofs.put_day.Goals as goal

pub put_decimal-a1-requires : goal.put_decimal-a1-requires
put_decimal-a1-requires c = search (rules, room_year)

pub put_two-a2-requires-clause-room : goal.put_two-a2-requires-clause-room
put_two-a2-requires-clause-room c = search (rules, room_month)

pub put_two-a2-requires-clause-v_bound : goal.put_two-a2-requires-clause-v_bound
put_two-a2-requires-clause-v_bound c = search (rules, month_two)

pub put_two-requires-clause-room : goal.put_two-requires-clause-room
put_two-requires-clause-room c = search (rules, room_day)

pub put_two-requires-clause-v_bound : goal.put_two-requires-clause-v_bound
put_two-requires-clause-v_bound c = search (rules, day_two)

pub returns : goal.returns
returns c = search (rules, day_wrote)
