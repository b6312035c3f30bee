-- The form: the page's head, and the form behind it.
use borrow.Author.Rules.{rules}
use Rattle.render.proofs.Texts.{head_room, inputs_room, form_wrote}
use Rattle.render.proofs.put_form.Goals as goal

pub put_head-to-requires : goal.put_head-to-requires
put_head-to-requires c = search (rules, head_room)

pub put_inputs-requires : goal.put_inputs-requires
put_inputs-requires c = search (rules, inputs_room)

pub returns : goal.returns
returns c = search (rules, form_wrote)
