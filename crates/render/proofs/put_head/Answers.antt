-- The head of a page, in its parts.
use Rattle.text.proofs.Pieces.{piece_1, piece_2, last_piece, more_pieces}
use Rattle.render.specs.Parts.{status_head}
use Rattle.render.proofs.put_head.Goals as goal

pub put_title-to-requires : goal.put_title-to-requires
unfolding status_head
put_title-to-requires c = search piece_1

pub put_status-requires : goal.put_status-requires
unfolding status_head
put_status-requires c = search piece_2

pub returns : goal.returns
unfolding status_head
returns c = search (last_piece, more_pieces)
