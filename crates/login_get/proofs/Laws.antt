-- Login, GET, with the service as the register has it. Assumes nothing.
use mathlib.Core.Path.{◌≡◌, refl, sym, ap}
use mathlib.Core.Bool.{Bool, true, false, ◌&&◌}
use mathlib.Core.List.{List}
use Prim.Native.Nat.{ℕ}
use lib.Dec.{eqb, ltb}
use lib.ListN.{length}
use Rattle.protocol.specs.Table.{Table}
use Rattle.protocol.specs.Register.{Entry, decode_register}
use Rattle.protocol.specs.Request.{Given, asking}
use Rattle.protocol.specs.Steps.{Step, unknown_service, way_of, taken, login_get, link_to}
use Rattle.protocol.specs.Held.{Lent}
use Rattle.protocol.specs.Calls.{brought_by}
use Rattle.request.specs.Value.{spelled}
use Rattle.request.specs.declared.value.Value.{Value}
use Rattle.known.proofs.Laws.{known-short, unknown_as, known_is}
use Rattle.issue.specs.Offers.{Offer}

-- the service as the register has it
abbrev listed : List ℕ → List ℕ → List ℕ
listed s register = link_to s (decode_register register)

-- `get_given`: an unknown service is not looked at, and a known one is the one that was given
pub get_known : (s register cookie random : List ℕ) (renew gateway : Bool) (t : Table)
    → login_get (Given (asking s renew gateway)) (brought_by register cookie random false) t
    ≡ taken (way_of (ltb 0 (length s) && eqb (length (listed s register)) 0) (asking (listed s register) renew gateway) cookie t) (listed s register) random t
unfolding login_get way_of taken
get_known s register cookie random renew gateway t = rw (unknown_as s (listed s register) es refl (length s) refl) (go (unknown_service s es) refl)
  where
    es : List Entry
    es = decode_register register

    on : Bool → List ℕ → Step
    on y l = taken (way_of y (asking l renew gateway) cookie t) l random t

    go : (y : Bool) → unknown_service s es ≡ y → on y s ≡ on y (listed s register)
    go true h = refl
    go false h = ap (on false) (sym (known_is s (listed s register) es refl h))

-- and it is no longer than one may be
pub known_offer : (b register random o v : List ℕ) (x : Value 200) → v ≡ link_to (spelled x) (decode_register register) → Lent b register random o → Offer b v o
known_offer b register random o v x e l = record { fine = l.lawful.fine; short = known-short v x (decode_register register) e; out = l.room }
