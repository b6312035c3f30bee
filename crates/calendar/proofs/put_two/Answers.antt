-- A mark and two digits.
use borrow.Author.Rules.{rules}
use Rattle.calendar.proofs.Texts.{room_two, wrote_two}
use Rattle.calendar.proofs.put_two.Goals as goal

pub put_bytes-requires : goal.put_bytes-requires
put_bytes-requires c = search (rules, room_two)

pub returns : goal.returns
returns c = search (rules, wrote_two)
