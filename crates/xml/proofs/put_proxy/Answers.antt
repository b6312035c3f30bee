-- A proxy's line, in pieces.
use Rattle.text.proofs.Pieces.{piece_1, piece_2, piece_3, last_piece, more_pieces}
use Rattle.xml.specs.Success.{proxy_line}
use Rattle.xml.proofs.put_proxy.Goals as goal

pub put_bytes-value-requires : goal.put_bytes-value-requires
unfolding proxy_line
put_bytes-value-requires c = search piece_1

pub put_escaped-to-requires : goal.put_escaped-to-requires
unfolding proxy_line
put_escaped-to-requires c = search piece_2

pub put_bytes-requires : goal.put_bytes-requires
unfolding proxy_line
put_bytes-requires c = search piece_3

pub returns : goal.returns
unfolding proxy_line
returns c = search (last_piece, more_pieces)
