-- Grant and IOU, in pieces.
use Rattle.text.proofs.Pieces.{piece_1, piece_2, piece_3, piece_4, four_pieces}
use Rattle.render.specs.Parts.{grant_parts}
use Rattle.render.proofs.put_grant.Goals as goal

pub put_bytes-id-requires : goal.put_bytes-id-requires
unfolding grant_parts
put_bytes-id-requires c = search piece_1

pub put_bytes-told-requires : goal.put_bytes-told-requires
unfolding grant_parts
put_bytes-told-requires c = search piece_2

pub put_bytes-to-requires : goal.put_bytes-to-requires
unfolding grant_parts
put_bytes-to-requires c = search piece_3

pub put_bytes-requires : goal.put_bytes-requires
unfolding grant_parts
put_bytes-requires c = search piece_4

pub returns : goal.returns
unfolding grant_parts
returns c = search four_pieces
