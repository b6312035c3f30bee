-- The login ticket that is spent, what is lent after that, and what a body posts.
use Rattle.std.specs.Prelude.{◌≡◌, Bool, List, ℕ, ◌≤◌, length, ltb}
use Rattle.protocol.specs.Bytes.{if}
use Rattle.protocol.specs.Tickets.{a_login}
use Rattle.protocol.specs.Table.{decode_table}
use Rattle.protocol.specs.Request.{Posted}
use Rattle.protocol.specs.Steps.{remove, slot_named}
use Rattle.protocol.specs.Held.{Fine, Holds}
use Rattle.request.specs.Value.{spelled}
use Rattle.request.specs.declared.LoginBody.{LoginBody}

-- credentials are judged by whether the login ticket's slot is 0, which is none: 1 stands for any other
abbrev pub slot_if : Bool → ℕ
slot_if live = if live 1 0

-- the live login ticket of a text was removed, if there was one
pub record Spent (lt b b' : List ℕ) (live : Bool) : Type 0 where
  pub slot : live ≡ ltb 0 (slot_named a_login lt (decode_table b))
  pub table : Holds b' (remove (slot_named a_login lt (decode_table b)) (decode_table b))

-- what the credentials are judged with then: the table need not be lawful
pub record Supplied (b o c : List ℕ) : Type 0 where
  pub fine : Fine b
  pub out : 8192 ≤ length o
  pub cookie : 64 ≤ length c

-- what a body posts
abbrev pub posted_by : LoginBody → Posted
posted_by p = record { service = spelled p.service; username = spelled p.username; password = spelled p.password; lt = spelled p.lt }
