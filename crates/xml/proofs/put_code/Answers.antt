-- A failure's code and message, in pieces.
use Rattle.text.proofs.Pieces.{piece_1, piece_2, piece_3, piece_4, four_pieces}
use Rattle.xml.specs.Response.{code_twice}
use Rattle.xml.proofs.put_code.Goals as goal

pub put_bytes-coded-requires : goal.put_bytes-coded-requires
unfolding code_twice
put_bytes-coded-requires c = search piece_1

pub put_bytes-message-requires : goal.put_bytes-message-requires
unfolding code_twice
put_bytes-message-requires c = search piece_2

pub put_bytes-to-requires : goal.put_bytes-to-requires
unfolding code_twice
put_bytes-to-requires c = search piece_3

pub put_bytes-requires : goal.put_bytes-requires
unfolding code_twice
put_bytes-requires c = search piece_4

pub returns : goal.returns
unfolding code_twice
returns c = search four_pieces
