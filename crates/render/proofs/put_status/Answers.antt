-- The status on its line, in pieces.
use Rattle.text.proofs.Pieces.{piece_1, piece_2, piece_3, last_piece, more_pieces}
use Rattle.render.specs.Parts.{status_line}
use Rattle.render.proofs.put_status.Goals as goal

pub put_bytes-words-requires : goal.put_bytes-words-requires
unfolding status_line
put_bytes-words-requires c = search piece_1

pub put_decimal-to-requires : goal.put_decimal-to-requires
unfolding status_line
put_decimal-to-requires c = rw c.from.ensures (search piece_2)

pub put_bytes-requires : goal.put_bytes-requires
unfolding status_line
put_bytes-requires c = let w = rw c.from.ensures at c.put_decimal-to.ensures in search piece_3

pub returns : goal.returns
unfolding status_line
returns c = let w = rw c.from.ensures at c.put_decimal-to.ensures in search (last_piece, more_pieces)
