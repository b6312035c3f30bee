-- Four texts fill the 508 bytes that are sealed. Assumes nothing.
use borrow.Author.Rules.{rules}
use Rattle.register.proofs.Making.{entry_filled}
use Rattle.register.proofs.put_entry.Goals as goal

pub returns : goal.returns
returns c = entry_filled c.args.service.now c.args.callback.now c.args.b.now (search rules) c.requires.0 c.requires.1 c.seal.ensures c.pad_at-2.ensures c.pad_at.ensures c.write-2.ensures c.write.ensures
