-- The attributes, one after the other.
use Rattle.text.proofs.Pieces.{piece_1, piece_2, piece_3, last_piece, more_pieces}
use Rattle.xml.specs.Success.{attribute_parts}
use Rattle.xml.proofs.put_attributes.Goals as goal

pub put_since-dated-requires : goal.put_since-dated-requires
unfolding attribute_parts
put_since-dated-requires c = search piece_1

pub put_token-to-requires : goal.put_token-to-requires
unfolding attribute_parts
put_token-to-requires c = search piece_2

pub put_mark-requires : goal.put_mark-requires
unfolding attribute_parts
put_mark-requires c = search piece_3

pub returns : goal.returns
unfolding attribute_parts
returns c = search (last_piece, more_pieces)
