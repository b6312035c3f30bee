-- By the kind: a free slot passes where its block is the free record's, another by all that is asked of it.
use Rattle.block.proofs.Bytewise.{Bytes}
use Rattle.table_judge.proofs.Slots.{slot_in}
use Rattle.table_judge.proofs.Blocks.{free_slot}
use borrow.Author.Rules.{rules}
use Rattle.table_judge.proofs.Judge.slot_right.Goals as goal

pub returns-then-has_kind : goal.returns-then-has_kind
returns-then-has_kind c =
    let bytes : Bytes c.args.self.table.now = record { each = c.args.self.bytes } in
    search (rules, free_slot, slot_in, bytes)
