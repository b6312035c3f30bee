-- A secret has at most 16 bytes.
use borrow.Author.Rules.{rules}
use Rattle.table_rules.proofs.Laws.{secret_room}
use Rattle.table_rules.proofs.secrets_right.Goals as goal

pub slice_bounds-all_within-count : goal.slice_bounds-all_within-count
slice_bounds-all_within-count c = search (rules, secret_room)

pub slice_bounds-all_within-start : goal.slice_bounds-all_within-start
slice_bounds-all_within-start c = search (rules, secret_room)
