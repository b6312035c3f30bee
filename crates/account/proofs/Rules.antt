-- What the rules for a ticket give the account: the facts that a wrong rule would break. Assumes nothing.
use mathlib.Core.Path.{◌≡◌, refl, ap}
use mathlib.Core.Bool.{Bool, true, false, ◌&&◌, not}
use Prim.Native.Nat.{ℕ}
use lib.Dec.{eqb}
use Rattle.protocol.specs.Tickets.{a_service, a_proxy}
use Rattle.protocol.specs.Records.{Rec, free_rec}
use Rattle.protocol.specs.Table.{Table, table_of}
use Rattle.protocol.specs.Request.{Shown}
use Rattle.protocol.specs.Steps.{put, remove, turned, left_by, takes_proxies}
use Rattle.protocol.specs.declared.Validator.{Validator}
use Rattle.protocol.specs.declared.Validator.TheVariants as validator
use Rattle.protocol.proofs.Laws.{fork, same-eq}
use Rattle.protocol.proofs.Courses.{Rightly}
use Rattle.protocol.proofs.TurnSound.{put_twice}
use Rattle.account.proofs.Base.{clash}
use Rattle.account.proofs.Sim.{alive}

-- of a ticket that is accepted: a proxy ticket is shown where proxy tickets are taken
pub proxy_in_place : (v : Validator) (a : Shown) (r : Rec) → Rightly v a r → eqb r.kind a_proxy ≡ true → takes_proxies v ≡ true
proxy_in_place v a r c k = go v c.in_place
  where
    go : (v : Validator) → eqb r.kind a_proxy && not (takes_proxies v) ≡ false → takes_proxies v ≡ true
    go validator.Plain e = absurd (clash {b = true} refl (rw k at e))
    go validator.Service e = absurd (clash {b = true} refl (rw k at e))
    go validator.Proxy e = refl

-- under renew it has its mark
pub renew_wants_mark : (v : Validator) (a : Shown) (r : Rec) → Rightly v a r → a.renew ≡ true → eqb r.mark 0 ≡ false
renew_wants_mark v a r c x = go a.renew x c.signed
  where
    go : (renew : Bool) → renew ≡ true → renew && eqb r.mark 0 ≡ false → eqb r.mark 0 ≡ false
    go true x e = e
    go false x e = absurd (clash x refl)

-- and it is for that service
pub for_its_service : (v : Validator) (a : Shown) (r : Rec) → Rightly v a r → r.text ≡ a.service
for_its_service v a r c = same-eq r.text a.service c.service

-- an accepted ticket leaves in its slot what has no line
pub record Left (c k : ℕ) (t u : Table) : Type 0 where
  pub rest : Rec
  pub dead : alive c rest ≡ false
  pub table_is : u ≡ put k rest t

pub accepted_left : (c k : ℕ) (r : Rec) (t : Table) → Left c k t (left_by k r (remove k t))
unfolding left_by turned
accepted_left c k r t = fork (λ (u : Table). Left c k t u) (eqb r.kind a_service) (λ e. by _ refl) (λ e. record { rest = free_rec; dead = refl; table_is = refl })
  where
    by : (x : Rec) → alive c x ≡ false → Left c k t (put k x (remove k t))
    by x d = record { rest = x; dead = d; table_is = ap (table_of t.clock t.next) (put_twice t.slots k x free_rec) }
