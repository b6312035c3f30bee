-- Proxy, from its parts to protocol's step. Assumes nothing.
use mathlib.Core.Path.{◌≡◌, refl, ◌∙◌}
use mathlib.Core.Bool.{Bool, true, false}
use mathlib.Core.List.{List, []}
use Prim.Native.Nat.{ℕ, ◌≤◌}
use native.Mathlib.Omega.{arith}
use lib.ListN.{length}
use borrow.Author.Tests.{ne_eqb}
use Rattle.protocol.specs.Bytes.{if, is_empty}
use Rattle.protocol.specs.Tickets.{a_grant}
use Rattle.protocol.specs.Table.{Table, decode_table, rec_at}
use Rattle.protocol.specs.Register.{decode_register, registered}
use Rattle.protocol.specs.Answers.{ProxyFailure, BadPgt, UnauthorizedService, InternalError}
use Rattle.protocol.specs.Steps.{Brought, Step, step, slot_named, room_for, proxy_by, link_to}
use Rattle.protocol.specs.Held.{Lawful, Lent, bringing}
use Rattle.protocol.proofs.Held.{sound_held, session_in}
use Rattle.protocol.proofs.Searches.{slot_live}
use Rattle.table_find.specs.Searches.{found_at}
use Rattle.std.specs.Prelude.{Option, Some}
use Rattle.table_find.proofs.Laws.{found_is, found_low, named_slot}
use Rattle.request.specs.Value.{spelled}
use Rattle.request.specs.declared.ProxyQuery.{ProxyQuery}
use Rattle.known.proofs.Laws.{known-short}
use Rattle.issue.specs.Offers.{Offer, proxy_anew}
use Rattle.issue.proofs.Laws.{none_given}
use Rattle.proxy.specs.Asking.{Live, proxy_under}

-- a live grant's slot, and its session's
pub grant_live : (b pgt : List ℕ) (k : ℕ) {f : Option ℕ} → Lawful b → f ≡ found_at (slot_named a_grant pgt (decode_table b)) → f ≡ Some k → Live k b
grant_live b pgt k l e a =
    let t : Table = decode_table b in
    let n : k ≡ slot_named a_grant pgt t = found_is (slot_named a_grant pgt t) e a in
    let v = slot_live a_grant pgt t (omega (arith, found_low (slot_named a_grant pgt t) e a)) in
    let h : (rec_at k t.slots).kind ≡ 6 = rw n v.is in
    record { here = named_slot b a a_grant pgt e; session = session_in b k (sound_held b l) (omega arith) }

-- `ask`: what the ticket's issue asks for
pub offered : (b register random o v : List ℕ) (w : ProxyQuery) → Lent b register random o → v ≡ link_to (spelled w.target) (decode_register register) → Offer b v o
offered b register random o v w g e =
    record { fine = g.lawful.fine; short = known-short v w.target (decode_register register) e; out = g.room }

-- under a grant: a target that is not absent is registered just where something was found, and that is the target
module _ (k : ℕ) (target : List ℕ) (t : Table) where
  pub proxy_none : (g : Brought) → k ≡ 0 → proxy_by k target g t ≡ step t (ProxyFailure BadPgt)
  unfolding proxy_by
  proxy_none g e = rw e

  pub proxy_known : (register random : List ℕ) → 1 ≤ k → 1 ≤ length target → proxy_by k target (bringing register random) t ≡ proxy_under k (link_to target (decode_register register)) random t
  unfolding proxy_by proxy_under link_to
  proxy_known register random l h = rw (ne_eqb k 0 (λ z. omega arith)) (go target (registered target (decode_register register)) (none_given target ∙ ne_eqb (length target) 0 (λ z. omega arith)))
    where
      on : List ℕ → Step
      on l = if (room_for 1 t) (proxy_anew k l random t) (step t (ProxyFailure InternalError))

      refused : Step
      refused = step t (ProxyFailure UnauthorizedService)

      go : (l : List ℕ) (x : Bool) → is_empty l ≡ false → if x (on l) refused ≡ if (is_empty (if x l [])) refused (on (if x l []))
      go l true m = rw m
      go l false m = refl
