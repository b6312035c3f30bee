-- The form, in its parts.
use Rattle.text.proofs.Pieces.{piece_1, piece_2, piece_3, piece_4, four_pieces}
use Rattle.render.specs.Parts.{form_parts}
use Rattle.render.proofs.put_inputs.Goals as goal

pub put_fields-fields-requires : goal.put_fields-fields-requires
unfolding form_parts
put_fields-fields-requires c = search piece_1

pub put_hidden-kept-requires : goal.put_hidden-kept-requires
unfolding form_parts
put_hidden-kept-requires c = search piece_2

pub put_service-to-requires : goal.put_service-to-requires
unfolding form_parts
put_service-to-requires c = search piece_3

pub put_button-requires : goal.put_button-requires
unfolding form_parts
put_button-requires c = search piece_4

pub returns : goal.returns
unfolding form_parts
returns c = search four_pieces
