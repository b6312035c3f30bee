-- A hidden input, in pieces.
use Rattle.text.proofs.Pieces.{piece_1, piece_2, piece_3, last_piece, more_pieces}
use Rattle.render.specs.Parts.{hidden_input}
use Rattle.render.proofs.put_hidden.Goals as goal

pub put_input-named-requires : goal.put_input-named-requires
unfolding hidden_input
put_input-named-requires c = search piece_1

pub put_escaped-to-requires : goal.put_escaped-to-requires
unfolding hidden_input
put_escaped-to-requires c = search piece_2

pub put_bytes-requires : goal.put_bytes-requires
unfolding hidden_input
put_bytes-requires c = search piece_3

pub returns : goal.returns
unfolding hidden_input
returns c = search (last_piece, more_pieces)
