-- What a step does not read does not matter: each path's step with no more than it reads is the one with all that was brought. Assumes nothing.
use mathlib.Core.Path.{◌≡◌, refl, sym, ◌∙◌}
use mathlib.Core.Bool.{Bool, false}
use mathlib.Core.List.{List}
use Prim.Native.Nat.{ℕ}
use Rattle.protocol.specs.Table.{Table}
use Rattle.protocol.specs.Request.{Read, Malformed, Given, Asked, Wanted, asked, shown, wanted, get_request}
use Rattle.protocol.specs.Request as asks
use Rattle.protocol.specs.Steps.{way_of, login_get, logout, proxy, proxy_by, request_step}
use Rattle.protocol.specs.declared.Path.{Path}
use Rattle.protocol.specs.declared.Path.TheVariants as path
use Rattle.protocol.specs.Calls.{brought_by}
use Rattle.protocol.specs.Held.{bringing}
use Rattle.logout.specs.Leaving.{leaving}
use Rattle.validate.proofs.Laws.{unread}

-- login, GET: no verdict
login_reads : (a : Read Asked) (g k d : List ℕ) (v : Bool) (t : Table) → login_get a (brought_by g k d false) t ≡ login_get a (brought_by g k d v) t
unfolding login_get way_of
login_reads Malformed g k d v t = refl
login_reads (Given a) g k d v t = refl

-- logout: no random input, no verdict
pub logout_reads : (a : Read (List ℕ)) (g k d : List ℕ) (v : Bool) (t : Table) → logout a (leaving g k) t ≡ logout a (brought_by g k d v) t
unfolding logout
logout_reads Malformed g k d v t = refl
logout_reads (Given url) g k d v t = refl

-- proxy: no cookie, no verdict
pub proxy_reads : (a : Read Wanted) (g k d : List ℕ) (v : Bool) (t : Table) → proxy a (bringing g d) t ≡ proxy a (brought_by g k d v) t
unfolding proxy proxy_by
proxy_reads Malformed g k d v t = refl
proxy_reads (Given a) g k d v t = refl

-- GET asks for no verdict
pub get_reads : (p : Path) (q g k d : List ℕ) (v : Bool) (t : Table) → request_step (get_request p q) (brought_by g k d false) t ≡ request_step (get_request p q) (brought_by g k d v) t
unfolding request_step
get_reads path.Login q g k d v t = login_reads (asked q) g k d v t
get_reads path.Logout q g k d v t = sym (logout_reads (asks.leaving q) g k d false t) ∙ logout_reads (asks.leaving q) g k d v t
get_reads (path.Validate w) q g k d v t = sym (unread w (shown w q) g k d false t) ∙ unread w (shown w q) g k d v t
get_reads path.Proxy q g k d v t = sym (proxy_reads (wanted q) g k d false t) ∙ proxy_reads (wanted q) g k d v t
get_reads path.Unknown q g k d v t = refl
