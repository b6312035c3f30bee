-- The line of a grant, then those of its parents by the function itself, one less deep.
use mathlib.Core.Path.{◌∙◌}
use borrow.Author.Rules.{rules}
use Rattle.success.proofs.Laws.{walk_in, walk_on, no_lines, line_room, rest_room, lines_wrote}
use Rattle.success.proofs.+put_chain.Goals as goal

pub returns-then-depth-eq0 : goal.returns-then-depth-eq0
returns-then-depth-eq0 t c = search (rules, no_lines)

pub text_of-callback-requires : goal.text_of-callback-requires
text_of-callback-requires t c = search (rules, walk_in)

pub put_proxy-next-requires : goal.put_proxy-next-requires
put_proxy-next-requires t c = search (rules, line_room)

pub put_chain-requires : goal.put_chain-requires
put_chain-requires t c = search (rules, walk_on, rest_room)

pub returns : goal.returns
returns t c =
    let q = c.from-parent.ensures ∙ c.parent_of.ensures in
    search (rules, lines_wrote)
