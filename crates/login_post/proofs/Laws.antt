-- Login, POST: the credentials judged with the service as the register has it. Assumes nothing.
use mathlib.Core.Path.{◌≡◌, refl, sym, ap}
use mathlib.Core.Bool.{Bool, true, false, ◌&&◌, ◌||◌}
use mathlib.Core.List.{List}
use Prim.Native.Nat.{ℕ}
use lib.Dec.{eqb, ltb}
use lib.ListN.{length}
use Rattle.protocol.specs.Table.{Table}
use Rattle.protocol.specs.Request.{Posted}
use Rattle.protocol.specs.Register.{Entry, decode_register}
use Rattle.protocol.specs.Steps.{Brought, Step, unknown_service, link_to, admission_of, entered, credentials}
use Rattle.protocol.specs.Calls.{brought_by}
use Rattle.request.specs.Value.{spelled}
use Rattle.request.specs.declared.value.Value.{Value}
use Rattle.known.proofs.Laws.{known-short, unknown_as, known_is}
use Rattle.issue.proofs.Laws.{none_given}
use Rattle.issue.specs.Offers.{Offer}
use Rattle.session.specs.Signing.{Signing}
use Rattle.login_post.specs.Given.{Supplied}

-- the service as the register has it
abbrev listed : List ℕ → List ℕ → List ℕ
listed s register = link_to s (decode_register register)

-- `enter`: who is turned away for an unknown service is so whatever it is; else it is the one that was given
pub credentials_known : (k : ℕ) (p : Posted) (register cookie random : List ℕ) (verdict : Bool) (t : Table)
    → credentials k p (brought_by register cookie random verdict) t
    ≡ entered (admission_of (ltb 0 (length p.service) && eqb (length (listed p.service register)) 0) k (eqb (length p.username) 0 || eqb (length p.password) 0) verdict) p.username (listed p.service register) (brought_by register cookie random verdict) t
unfolding credentials admission_of entered
credentials_known k p register cookie random verdict t =
    rw (none_given p.username, none_given p.password, unknown_as p.service (listed p.service register) es refl (length p.service) refl) (go (unknown_service p.service es) refl)
  where
    es : List Entry
    es = decode_register register

    absent : Bool
    absent = eqb (length p.username) 0 || eqb (length p.password) 0

    on : Bool → List ℕ → Step
    on y l = entered (admission_of y k absent verdict) p.username l (brought_by register cookie random verdict) t

    go : (y : Bool) → unknown_service p.service es ≡ y → on y p.service ≡ on y (listed p.service register)
    go true h = refl
    go false h = ap (on false) (sym (known_is p.service (listed p.service register) es refl h))

-- what it is done with: a service no longer than one may be
module _ (b register o c v : List ℕ) (x : Value 200) (e : v ≡ link_to (spelled x) (decode_register register)) (l : Supplied b o c) where
  pub enter_offers : Offer b v o
  enter_offers = record { fine = l.fine; short = known-short v x (decode_register register) e; out = l.out }

  pub enter_ready : Signing b v o c
  enter_ready = record { fine = l.fine; short = enter_offers.short; out = l.out; cookie = l.cookie }

-- `post`: credentials are judged by whether there was a login ticket, and not by its slot
pub any_slot : (k n : ℕ) (p : Posted) (g : Brought) (t : Table) → eqb k 0 ≡ eqb n 0 → credentials k p g t ≡ credentials n p g t
unfolding credentials admission_of
any_slot k n p g t e = rw e
