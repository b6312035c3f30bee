-- The title, in pieces.
use Rattle.text.proofs.Pieces.{piece_1, piece_2, piece_3, last_piece, more_pieces}
use Rattle.render.specs.Parts.{title_lines}
use Rattle.render.proofs.put_title.Goals as goal

pub put_bytes-title-requires : goal.put_bytes-title-requires
unfolding title_lines
put_bytes-title-requires c = search piece_1

pub put_decimal-to-requires : goal.put_decimal-to-requires
unfolding title_lines
put_decimal-to-requires c = rw c.from.ensures (search piece_2)

pub put_bytes-requires : goal.put_bytes-requires
unfolding title_lines
put_bytes-requires c = let w = rw c.from.ensures at c.put_decimal-to.ensures in search piece_3

pub returns : goal.returns
unfolding title_lines
returns c = let w = rw c.from.ensures at c.put_decimal-to.ensures in search (last_piece, more_pieces)
