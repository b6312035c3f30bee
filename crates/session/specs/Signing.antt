-- What signing in is made with.
use Rattle.std.specs.Prelude.{List, ℕ, ◌≤◌, length}
use Rattle.protocol.specs.Table.{Table}
use Rattle.protocol.specs.Steps.{Step, session_of, new_session, session_with, accepted}
use Rattle.protocol.specs.Held.{Fine, In}
use Rattle.protocol.specs.declared.Standing.{Standing}
use Rattle.protocol.specs.declared.Standing.TheVariants.{Absent, Kept, Other}

-- a table, a service, and outputs with room
pub record Signing (b s o c : List ℕ) : Type 0 where
  pub fine : Fine b
  pub short : length s ≤ 200
  pub out : 8192 ≤ length o
  pub cookie : 64 ≤ length c

-- whose session the cookie names is in the table
abbrev pub StandsIn : Standing → List ℕ → Type 0
StandsIn Absent b = Unit
StandsIn (Kept s) b = In s b
StandsIn (Other s) b = In s b

-- a new session, and what a session of the cookie makes of the call
abbrev pub session_anew : List ℕ → List ℕ → List ℕ → Table → Step
session_anew user service random t = session_with (new_session user random t) service random t

abbrev pub signed_in : List ℕ → List ℕ → List ℕ → List ℕ → Table → Step
signed_in cookie user service random t = accepted (session_of cookie t) user service random t
