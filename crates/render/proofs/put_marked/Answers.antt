-- An address and its mark, `&` or `?`.
use borrow.Author.Rules.{rules}
use Rattle.render.proofs.Texts.{address_room, and_room, and_wrote, ask_room, ask_wrote}
use Rattle.render.proofs.put_marked.Goals as goal

pub put_bytes-to-requires : goal.put_bytes-to-requires
put_bytes-to-requires c = search (rules, address_room)

pub put_bytes-requires : goal.put_bytes-requires
put_bytes-requires c = search (rules, and_room)

pub returns-then-has_byte : goal.returns-then-has_byte
returns-then-has_byte c = search (rules, and_wrote)

pub put_bytes-requires-2 : goal.put_bytes-requires-2
put_bytes-requires-2 c = search (rules, ask_room)

pub returns : goal.returns
returns c = search (rules, ask_wrote)
