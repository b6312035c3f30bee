-- Signed in: the page as it stands.
use borrow.Author.Rules.{rules}
use Rattle.render.proofs.Texts.{signed_in_wrote}
use Rattle.render.proofs.put_signed_in.Goals as goal

pub returns : goal.returns
returns c = search (rules, signed_in_wrote)
