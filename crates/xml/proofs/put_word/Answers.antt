-- The last attribute, in pieces.
use Rattle.text.proofs.Pieces.{piece_1, piece_2, piece_3, last_piece, more_pieces}
use Rattle.xml.specs.Success.{login_part}
use Rattle.xml.proofs.put_word.Goals as goal

pub put_bytes-value-requires : goal.put_bytes-value-requires
unfolding login_part
put_bytes-value-requires c = search piece_1

pub put_bytes-to-requires : goal.put_bytes-to-requires
unfolding login_part
put_bytes-to-requires c = search piece_2

pub put_bytes-requires : goal.put_bytes-requires
unfolding login_part
put_bytes-requires c = search piece_3

pub returns : goal.returns
unfolding login_part
returns c = search (last_piece, more_pieces)
