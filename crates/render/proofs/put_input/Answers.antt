-- A hidden input up to its value, in pieces.
use Rattle.text.proofs.Pieces.{piece_1, piece_2, piece_3, last_piece, more_pieces}
use Rattle.render.specs.Parts.{input_open}
use Rattle.render.proofs.put_input.Goals as goal

pub put_bytes-open-requires : goal.put_bytes-open-requires
unfolding input_open
put_bytes-open-requires c = search piece_1

pub put_bytes-to-requires : goal.put_bytes-to-requires
unfolding input_open
put_bytes-to-requires c = search piece_2

pub put_bytes-requires : goal.put_bytes-requires
unfolding input_open
put_bytes-requires c = search piece_3

pub returns : goal.returns
unfolding input_open
returns c = search (last_piece, more_pieces)
