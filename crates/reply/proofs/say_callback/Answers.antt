-- The bytes written and their result say the reply.
use Rattle.reply.proofs.Laws.{said_callback}
use Rattle.reply.proofs.say_callback.Goals as goal

pub returns : goal.returns
returns c = search said_callback
