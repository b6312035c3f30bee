-- The end of a failure's element, in pieces.
use Rattle.text.proofs.Pieces.{piece_1, piece_2, piece_3, last_piece, more_pieces}
use Rattle.xml.specs.Response.{failure_close}
use Rattle.xml.proofs.put_failure_close.Goals as goal

pub put_bytes-name-requires : goal.put_bytes-name-requires
unfolding failure_close
put_bytes-name-requires c = search piece_1

pub put_bytes-to-requires : goal.put_bytes-to-requires
unfolding failure_close
put_bytes-to-requires c = search piece_2

pub put_bytes-requires : goal.put_bytes-requires
unfolding failure_close
put_bytes-requires c = search piece_3

pub returns : goal.returns
unfolding failure_close
returns c = search (last_piece, more_pieces)
