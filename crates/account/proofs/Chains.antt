-- The user, the sign-on time and the proxy list that the table gives are those of the line. Assumes nothing.
use mathlib.Core.Path.{◌≡◌, refl, sym, ap, ◌∙◌}
use mathlib.Core.Bool.{true}
use mathlib.Core.List.{List, ◌∷◌}
use Prim.Native.Nat.{ℕ, zero, suc, ◌+◌, ◌<◌}
use native.Mathlib.Omega.{arith}
use borrow.Author.Tests.{eqb-true}
use lib.Dec.{eqb}
use Rattle.protocol.specs.Records.{Rec}
use Rattle.protocol.specs.Table.{rec_at}
use Rattle.protocol.specs.Steps.{chain_from, chain_of, proxy_parent}
use Rattle.account.specs.History.{Text}
use Rattle.account.specs.Notebook.{is_ticket, Notebook}
use Rattle.account.specs.Truth.{Known}
use Rattle.account.proofs.Base.{Case, is, isnt, case}
use Rattle.account.proofs.Sim.{Slot, on, lives, Above, Up, up_of, deep, Under, Sim}
use Rattle.account.proofs.Edits.{alive_is, under_of}

module _ {K : Known} (L : Notebook) (A : List Slot) (n : ℕ) (S : Sim K L A n) (slots : List Rec) (rec : (k : ℕ) → rec_at k slots ≡ (on A k).r) where
  -- a parent grant lives
  above_lives : (p s : ℕ) (chain : List Text) → Above A p s chain → L.clock < (on A s).r.expiry → lives L.clock A p ≡ true
  above_lives p s chain h v = alive_is L.clock (on A p).r (omega (arith, h.grants), omega (arith, h.grants)) (omega (arith, h.even))

  above_under : (p s : ℕ) (chain : List Text) → Above A p s chain → L.clock < (on A s).r.expiry → Under A (on A p)
  above_under p s chain h v = under_of A (on A p) (S.good p (above_lives p s chain h v)).placed (omega (arith, h.grants))

  grant_up : (r : Rec) → r.kind ≡ 6 → up_of r ≡ r.parent
  grant_up r k = rw k

  walk : (d p s : ℕ) (chain : List Text) → L.clock < (on A s).r.expiry → deep A p ≡ d → Up A p s chain → chain_from d p slots ≡ chain
  unfolding chain_from
  walk zero zero s chain v e h = sym h
  walk (suc d) zero s chain v e h = absurd (omega arith)
  walk zero (suc k) s chain v e h = absurd (omega (arith, (above_under (suc k) s chain h v).falls (omega (arith, h.grants))))
  walk (suc d) (suc k) s chain v e h =
      let u = above_under (suc k) s chain h v in
      let x = grant_up (on A (suc k)).r h.grants in
      let f : (on A (suc k)).r.depth ≡ suc (deep A (on A (suc k)).r.parent) = rw x at (u.falls (omega (arith, h.grants))) in
      let e' : deep A (on A (suc k)).r.parent ≡ d = omega arith in
      rw (rec (suc k))
      (ap (λ (c : List Text). (on A (suc k)).r.text ∷ c)
      (walk d (on A (suc k)).r.parent (on A (suc k)).r.session (on A (suc k)).o.chain (rw h.its_session v) e' (rw x at u.line))
      ∙ sym h.linked)

  deep_is : (p : ℕ) → (rec_at p slots).depth ≡ deep A p
  deep_is zero = refl
  deep_is (suc p) = ap (λ (r : Rec). r.depth) (rec (suc p))

  chain_is : (p s : ℕ) (chain : List Text) → L.clock < (on A s).r.expiry → Up A p s chain → chain_of p slots ≡ chain
  unfolding chain_of
  chain_is p s chain v h = walk (rec_at p slots).depth p s chain v (sym (deep_is p)) h

  -- of what stands below a session
  module _ (a : Slot) (u : Under A a) (live : L.clock < a.r.expiry) where
    pub user_ok : (rec_at a.r.session slots).text ≡ a.e.user
    user_ok = ap (λ (r : Rec). r.text) (rec a.r.session) ∙ sym u.user_eq

    pub since_ok : (rec_at a.r.session slots).since ≡ a.o.since
    since_ok = ap (λ (r : Rec). r.since) (rec a.r.session) ∙ sym u.since_eq

    pub chain_ok : (p : ℕ) → p ≡ up_of a.r → chain_of p slots ≡ a.o.chain
    chain_ok p e = rw e (chain_is (up_of a.r) a.r.session a.o.chain (omega (arith, u.within)) u.line)

    pub depth_ok : (p : ℕ) → p ≡ up_of a.r → (rec_at p slots).depth + 1 ≡ suc (deep A (up_of a.r))
    depth_ok p e = rw e (omega (arith, deep_is (up_of a.r)))

-- where a ticket's list starts, and a waiting grant's
pub ticket_up : (r : Rec) → is_ticket r.kind ≡ true → proxy_parent r ≡ up_of r
ticket_up r t = go (case (eqb r.kind 3))
  where
    go : Case (eqb r.kind 3) → proxy_parent r ≡ up_of r
    go (is z) = let k : r.kind ≡ 3 = eqb-true r.kind 3 z in rw k
    go (isnt z) =
        let y : eqb r.kind 4 ≡ true = rw z at t in
        rw (z, y)

pub waiting_up : (r : Rec) → r.kind ≡ 5 → r.parent ≡ up_of r
waiting_up r k = rw k
