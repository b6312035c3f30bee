-- A time of day in its four parts.
use borrow.Author.Rules.{rules}
use Rattle.calendar.proofs.Texts.{room_hour, room_minute, room_second, room_end, clock_wrote}
use Rattle.calendar.proofs.put_clock.Goals as goal

pub put_two-a1-requires-clause-room : goal.put_two-a1-requires-clause-room
put_two-a1-requires-clause-room c = search (rules, room_hour)

pub put_two-a2-requires-clause-room : goal.put_two-a2-requires-clause-room
put_two-a2-requires-clause-room c = search (rules, room_minute)

pub put_two-a3-requires-clause-room : goal.put_two-a3-requires-clause-room
put_two-a3-requires-clause-room c = search (rules, room_second)

pub put_bytes-requires : goal.put_bytes-requires
put_bytes-requires c = search (rules, room_end)

pub returns : goal.returns
returns c = search (rules, clock_wrote)
