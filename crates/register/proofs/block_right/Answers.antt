-- Its texts are right, and the rest decides. Assumes nothing.
use Rattle.block.proofs.Bytewise.{Bytes}
use Rattle.register.proofs.Meaning.{block_yes}
use Rattle.register.proofs.block_right.Goals as goal

pub returns-then-entry_right : goal.returns-then-entry_right
returns-then-entry_right c =
    let bytes : Bytes c.args.b.now = record { each = c.fits-b } in
    search (block_yes, bytes)
