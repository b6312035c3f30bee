-- The step on the table after the clock. Assumes nothing.
use borrow.Author.Rules.{rules}
use Rattle.signon.proofs.Laws.{answer_cookie, answer_lent, answer_done}
use Rattle.signon.proofs.answer.Goals as goal

pub request-requires : goal.request-requires
request-requires c = (
  rw c.drawn.ensures (answer_lent c.args.table.now c.args.register.now c.args.target.now c.args.body.now c.args.time c.args.random.now c.args.out.now c.args.cookie_out.now (search rules) (search rules)),
  search (rules, answer_cookie),
)

pub returns : goal.returns
returns c =
    answer_done c.args.table.now c.args.register.now c.args.target.now c.args.body.now c.args.time c.args.random.now c.args.out.now c.args.cookie_out.now (search rules)
    c.args.method c.args.cookie.now c.args.verdict (search rules) (rw c.drawn.ensures at c.request.ensures)
