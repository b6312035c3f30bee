-- What a ticket's issue asks for, and the grant that is found is live.
use Rattle.proxy.proofs.Laws.{offered, grant_live}
use Rattle.proxy.proofs.ask.Goals as goal

pub under-requires : goal.under-requires
under-requires c = (search offered, search grant_live)
