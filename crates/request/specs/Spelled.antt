-- What the answer for each path spells: what the request asks, by the meaning. Each value is no longer than its name's limit, by its type.
use Rattle.std.specs.Prelude.{List, ℕ, Option, Some, None}
use Rattle.protocol.specs.Request.{Read, Asked, Posted, Shown, Wanted}
use Rattle.protocol.specs.Request as read
use Rattle.request.specs.declared.value.Value.{Value}
use Rattle.request.specs.declared.LoginQuery.{LoginQuery}
use Rattle.request.specs.declared.LoginBody.{LoginBody}
use Rattle.request.specs.declared.ValidatorQuery.{ValidatorQuery}
use Rattle.request.specs.declared.ProxyQuery.{ProxyQuery}
use Rattle.request.specs.Value.{spelled}

-- login, GET
abbrev pub spelled_asked : Option LoginQuery → Read Asked
spelled_asked None = read.Malformed
spelled_asked (Some a) = read.Given (record { service = spelled a.service; renew = a.renew; gateway = a.gateway })

-- login, POST
abbrev pub spelled_posted : Option LoginBody → Read Posted
spelled_posted None = read.Malformed
spelled_posted (Some p) = read.Given (record { service = spelled p.service; username = spelled p.username; password = spelled p.password; lt = spelled p.lt })

-- logout
abbrev pub spelled_leaving : {most : ℕ} → Option (Value most) → Read (List ℕ)
spelled_leaving None = read.Malformed
spelled_leaving (Some url) = read.Given (spelled url)

-- the validators
abbrev pub spelled_shown : Option ValidatorQuery → Read Shown
spelled_shown None = read.Malformed
spelled_shown (Some s) = read.Given (record { service = spelled s.service; ticket = spelled s.ticket; renew = s.renew; pgt_url = spelled s.pgt_url })

-- proxy
abbrev pub spelled_wanted : Option ProxyQuery → Read Wanted
spelled_wanted None = read.Malformed
spelled_wanted (Some w) = read.Given (record { pgt = spelled w.pgt; target = spelled w.target })
