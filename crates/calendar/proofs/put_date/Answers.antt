-- A date in its two parts.
use borrow.Author.Rules.{rules}
use Rattle.calendar.proofs.Texts.{date_room_day, date_room_clock, date_wrote}
use Rattle.calendar.proofs.put_date.Goals as goal

pub put_day-to-requires : goal.put_day-to-requires
put_day-to-requires c = search (rules, date_room_day)

pub put_clock-requires-clause-room : goal.put_clock-requires-clause-room
put_clock-requires-clause-room c = search (rules, date_room_clock)

pub returns : goal.returns
returns c = search (rules, date_wrote)
