-- Proxy once its request is read: protocol's step from there on.
use Rattle.std.specs.Prelude.{List, ℕ}
use Rattle.protocol.specs.Bytes.{if, is_empty}
use Rattle.protocol.specs.Tickets.{a_grant}
use Rattle.protocol.specs.Table.{Table, decode_table, rec_at}
use Rattle.protocol.specs.Answers.{ProxyFailure, UnauthorizedService, InternalError}
use Rattle.protocol.specs.Steps.{Brought, Step, step, slot_named, room_for, new_proxy, proxy_with, proxy_by}
use Rattle.protocol.specs.Held.{In}

-- k is the slot of a grant, and so is its session a slot
pub record Live (k : ℕ) (table : List ℕ) : Type 0 where
  pub here : In k table
  pub session : In (rec_at k (decode_table table).slots).session table

-- under the grant in slot k, by the target as the register has it, empty where it has none
unfoldable pub proxy_under : ℕ → List ℕ → List ℕ → Table → Step
proxy_under k known random t =
    if (is_empty known)
    (step t (ProxyFailure UnauthorizedService))
    (if (room_for 1 t)
    (proxy_with (new_proxy k known random t) t)
    (step t (ProxyFailure InternalError)))

-- by the grant's text
unfoldable pub proxy_for : List ℕ → List ℕ → Brought → Table → Step
proxy_for pgt target g t = proxy_by (slot_named a_grant pgt t) target g t
