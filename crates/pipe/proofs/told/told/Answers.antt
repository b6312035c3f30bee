-- What is told is told against the table that was kept, and there is room for it behind what the call said.
use Rattle.std.proofs.Common.{rules}
use Rattle.changed.proofs.Writing.{told_last}
use Rattle.pipe.proofs.Laws.{kept_whole}
use Rattle.pipe.proofs.told.told.Goals as goal

pub returns : goal.returns
returns g c = search (rules, told_last, kept_whole)

pub put_changed-out-requires : goal.put_changed-out-requires
put_changed-out-requires g c = search (rules, c.requires.end_bound _ _ _ _ c.call.ensures)
