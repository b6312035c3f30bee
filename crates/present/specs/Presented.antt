-- What a ticket is presented with, and the steps that present it.
use Rattle.std.specs.Prelude.{Bool, ◌&&◌, not, List, ℕ, ◌+◌, leb}
use Rattle.protocol.specs.Bytes.{is_empty, same}
use Rattle.protocol.specs.Tickets.{deepest}
use Rattle.protocol.specs.Table.{Table, rec_at}
use Rattle.protocol.specs.Answers.{Reply}
use Rattle.protocol.specs.Steps.{Brought, Step, step, remove, room_for, ticket_slot, ruling_of, ruled, presented}
use Rattle.protocol.specs.declared.Validator.{Validator}
use Rattle.protocol.specs.Held.{In, Within}
use Rattle.present.specs.declared.Accepted.{Accepted}

-- the session of an accepted ticket and where its proxies start are in the table
pub record Stands (a : Accepted) (b : List ℕ) : Type 0 where
  pub session : In a.session b
  pub parent : Within a.parent b

-- whether a grant is made, by the callback that the service has
unfoldable pub grants_to : ℕ → List ℕ → List ℕ → Table → Bool
grants_to parent callback url t =
    not (is_empty url)
    && same url callback
    && leb ((rec_at parent t.slots).depth + 1) deepest
    && room_for 1 t

-- the ticket in slot k goes, whatever is said of it
abbrev pub burnt : ℕ → Reply → Table → Step
burnt k reply t = step (remove k t) reply

abbrev pub spent : Validator → ℕ → Bool → List ℕ → List ℕ → Brought → Table → Step
spent v k renew service url g t = ruled (ruling_of v renew service (rec_at k t.slots)) v k (rec_at k t.slots) service url g (remove k t)

-- the ticket with this text is presented
abbrev pub shown : Validator → List ℕ → Bool → List ℕ → List ℕ → Brought → Table → Step
shown v ticket renew service url g t = presented v (ticket_slot ticket t) renew service url g t
