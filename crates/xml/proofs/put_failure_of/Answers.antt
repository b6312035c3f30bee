-- A failure, in its parts.
use Rattle.text.proofs.Pieces.{piece_1, piece_2, piece_3, piece_4, piece_5, five_pieces}
use Rattle.xml.specs.Response.{failure_parts}
use Rattle.xml.proofs.put_failure_of.Goals as goal

pub put_open-open-requires : goal.put_open-open-requires
unfolding failure_parts
put_open-open-requires c = search piece_1

pub put_failure_open-named-requires : goal.put_failure_open-named-requires
unfolding failure_parts
put_failure_open-named-requires c = search piece_2

pub put_code-told-requires : goal.put_code-told-requires
unfolding failure_parts
put_code-told-requires c = search piece_3

pub put_failure_close-to-requires : goal.put_failure_close-to-requires
unfolding failure_parts
put_failure_close-to-requires c = search piece_4

pub put_close-requires : goal.put_close-requires
unfolding failure_parts
put_close-requires c = search piece_5

pub returns : goal.returns
unfolding failure_parts
returns c = search five_pieces
