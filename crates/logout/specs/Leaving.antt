-- What logout is lent, and what it reads besides its parameter.
use Rattle.std.specs.Prelude.{false, List, [], ℕ, ◌≤◌, length}
use Rattle.protocol.specs.Register.{decode_register}
use Rattle.protocol.specs.Steps.{Brought}
use Rattle.protocol.specs.Held.{Fine}

-- what logout is lent
pub record Given (table out : List ℕ) : Type 0 where
  pub fine : Fine table
  pub room : 8192 ≤ length out

-- what it reads besides its parameter; it draws no random bytes and asks no verdict
abbrev pub leaving : List ℕ → List ℕ → Brought
leaving register cookie = record { register = decode_register register; cookie = cookie; random = []; verdict = false }
