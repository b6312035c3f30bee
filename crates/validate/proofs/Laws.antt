-- What the validators do not read does not matter. Assumes nothing.
use mathlib.Core.Path.{◌≡◌, refl}
use mathlib.Core.Bool.{Bool}
use mathlib.Core.List.{List}
use Prim.Native.Nat.{ℕ}
use Rattle.protocol.specs.Records.{Rec}
use Rattle.protocol.specs.Table.{Table, rec_at}
use Rattle.protocol.specs.Register.{decode_register}
use Rattle.protocol.specs.Request.{Read, Malformed, Given, Shown}
use Rattle.protocol.specs.Steps.{Brought, remove, ticket_slot, ruling_of, grants, grant_or_tell, accept_ticket, ruled, presented, validate}
use Rattle.protocol.specs.Held.{bringing}
use Rattle.protocol.specs.declared.Ruling.{Ruling}
use Rattle.protocol.specs.declared.Ruling.TheVariants as ruling
use Rattle.protocol.specs.declared.Validator.{Validator}

-- cookie and verdict are not read
module _ (register cookie random : List ℕ) (verdict : Bool) where
  abbrev whole : Brought
  whole = record { register = decode_register register; cookie = cookie; random = random; verdict = verdict }

  ruled_unread : (w : Ruling) (v : Validator) (k : ℕ) (r : Rec) (service url : List ℕ) (t : Table) → ruled w v k r service url (bringing register random) t ≡ ruled w v k r service url whole t
  unfolding ruled accept_ticket grant_or_tell grants
  ruled_unread ruling.NoTicket v k r service url t = refl
  ruled_unread ruling.NoService v k r service url t = refl
  ruled_unread (ruling.Accepted session parent mark) v k r service url t = refl

  presented_unread : (v : Validator) (k : ℕ) (renew : Bool) (service url : List ℕ) (t : Table) → presented v k renew service url (bringing register random) t ≡ presented v k renew service url whole t
  unfolding presented
  presented_unread v k renew service url t = rw (ruled_unread (ruling_of v renew service (rec_at k t.slots)) v k (rec_at k t.slots) service url (remove k t))

pub unread : (v : Validator) (a : Read Shown) (register cookie random : List ℕ) (verdict : Bool) (t : Table)
    → validate v a (bringing register random) t ≡ validate v a (record { register = decode_register register; cookie = cookie; random = random; verdict = verdict }) t
unfolding validate
unread v Malformed register cookie random verdict t = refl
unread v (Given a) register cookie random verdict t = rw (presented_unread register cookie random verdict v (ticket_slot a.ticket t) a.renew a.service a.pgt_url t)
