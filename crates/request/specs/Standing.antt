-- Which raw value each value of a request is: that of its name in what was read, read as a query or as a body is. Where it lies there, a walk over the names tells.
use Rattle.std.specs.Prelude.{◌≡◌, Bool, true, false, List, [], ℕ, ◌≤◌, length}
use Rattle.protocol.specs.Bytes.{ascii}
use Rattle.protocol.specs.Request.{raw_value}
use Rattle.protocol.specs.declared.Validator.{Validator}
use Rattle.protocol.specs.declared.Validator.TheVariants as validator
use Rattle.request.specs.declared.value.Spelling.{Spelling}
use Rattle.request.specs.declared.LoginQuery.{LoginQuery}
use Rattle.request.specs.declared.LoginBody.{LoginBody}
use Rattle.request.specs.declared.ValidatorQuery.{ValidatorQuery}
use Rattle.request.specs.declared.ProxyQuery.{ProxyQuery}

-- a spelling is this raw value, read so
pub record Taken (in_body : Bool) (raw : List ℕ) (v : Spelling) : Type 0 where
  pub bytes : v.raw.now ≡ raw
  pub reading : v.in_body ≡ in_body

-- and it is no longer than the text that it was read from
pub record Stands (in_body : Bool) (q raw : List ℕ) (v : Spelling) : Type 0 where
  pub taken : Taken in_body raw v
  pub short : length v.raw.now ≤ length q

-- login, GET
abbrev pub StandsAsked : List ℕ → LoginQuery → Type 0
StandsAsked q a = Stands false q (raw_value (ascii "service") q) a.service.spelling

-- login, POST
pub record StandsPosted (q : List ℕ) (p : LoginBody) : Type 0 where
  pub service : Stands true q (raw_value (ascii "service") q) p.service.spelling
  pub username : Stands true q (raw_value (ascii "username") q) p.username.spelling
  pub password : Stands true q (raw_value (ascii "password") q) p.password.spelling
  pub lt : Stands true q (raw_value (ascii "lt") q) p.lt.spelling

-- logout
abbrev pub StandsLeaving : List ℕ → Spelling → Type 0
StandsLeaving q url = Stands false q (raw_value (ascii "url") q) url

-- the callback of a validator, which /cas/validate does not read
abbrev pub callback_raw : Validator → List ℕ → List ℕ
callback_raw validator.Plain q = []
callback_raw validator.Service q = raw_value (ascii "pgtUrl") q
callback_raw validator.Proxy q = raw_value (ascii "pgtUrl") q

-- the validators
pub record StandsShown (validator : Validator) (q : List ℕ) (s : ValidatorQuery) : Type 0 where
  pub service : Stands false q (raw_value (ascii "service") q) s.service.spelling
  pub ticket : Stands false q (raw_value (ascii "ticket") q) s.ticket.spelling
  pub pgt_url : Stands false q (callback_raw validator q) s.pgt_url.spelling

-- proxy
pub record StandsWanted (q : List ℕ) (w : ProxyQuery) : Type 0 where
  pub pgt : Stands false q (raw_value (ascii "pgt") q) w.pgt.spelling
  pub target : Stands false q (raw_value (ascii "targetService") q) w.target.spelling
