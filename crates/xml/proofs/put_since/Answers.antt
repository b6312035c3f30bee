-- The date's attribute, in pieces.
use Rattle.text.proofs.Pieces.{piece_1, piece_2, piece_3, last_piece, more_pieces}
use Rattle.xml.specs.Success.{date_part}
use Rattle.xml.proofs.put_since.Goals as goal

pub put_bytes-date-requires : goal.put_bytes-date-requires
unfolding date_part
put_bytes-date-requires c = search piece_1

pub put_date-to-requires : goal.put_date-to-requires
unfolding date_part
put_date-to-requires c = search piece_2

pub put_bytes-requires : goal.put_bytes-requires
unfolding date_part
put_bytes-requires c = search piece_3

pub returns : goal.returns
unfolding date_part
returns c = search (last_piece, more_pieces)
