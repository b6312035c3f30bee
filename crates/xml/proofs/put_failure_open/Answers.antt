-- A failure's element up to its code, in pieces.
use Rattle.text.proofs.Pieces.{piece_1, piece_2, piece_3, last_piece, more_pieces}
use Rattle.xml.specs.Response.{failure_open}
use Rattle.xml.proofs.put_failure_open.Goals as goal

pub put_bytes-name-requires : goal.put_bytes-name-requires
unfolding failure_open
put_bytes-name-requires c = search piece_1

pub put_bytes-to-requires : goal.put_bytes-to-requires
unfolding failure_open
put_bytes-to-requires c = search piece_2

pub put_bytes-requires : goal.put_bytes-requires
unfolding failure_open
put_bytes-requires c = search piece_3

pub returns : goal.returns
unfolding failure_open
returns c = search (last_piece, more_pieces)
