-- The user, in pieces.
use Rattle.text.proofs.Pieces.{piece_1, piece_2, piece_3, piece_4, four_pieces}
use Rattle.xml.specs.Success.{success_user}
use Rattle.xml.proofs.put_user.Goals as goal

pub put_open-open-requires : goal.put_open-open-requires
unfolding success_user
put_open-open-requires c = search piece_1

pub put_bytes-name-requires : goal.put_bytes-name-requires
unfolding success_user
put_bytes-name-requires c = search piece_2

pub put_escaped-to-requires : goal.put_escaped-to-requires
unfolding success_user
put_escaped-to-requires c = search piece_3

pub put_bytes-requires : goal.put_bytes-requires
unfolding success_user
put_bytes-requires c = search piece_4

pub returns : goal.returns
unfolding success_user
returns c = search four_pieces
