-- Demand 3: the account of every run. Assumes nothing.
use mathlib.Core.Path.{◌≡◌, refl, sym, ap, ap₂, ◌∙◌}
use mathlib.Core.Bool.{Bool, true, false, ◌&&◌}
use mathlib.Core.List.{List, [], ◌∷◌, map}
use Prim.Native.Nat.{ℕ, suc, ◌+◌, ◌≤◌}
use native.Mathlib.Omega.{arith}
use borrow.Author.Tests.{ltb-true}
use lib.Dec.{ltb}
use Rattle.protocol.specs.Bytes.{same, within}
use Rattle.protocol.specs.Records.{free_rec, name_of, live}
use Rattle.protocol.specs.Table.{Table, decode_table}
use Rattle.protocol.specs.Calls.{format_of}
use Rattle.protocol.proofs.Laws.{both, and-false}
use Rattle.account.specs.History.{Text, Call, table_after, history_of}
use Rattle.account.specs.Reading.{Said, trail_of}
use Rattle.account.specs.Notebook.{Line, Notebook, is_ticket, notebook, tally}
use Rattle.account.specs.Truth.{Known}
use Rattle.account.specs.Account.{one, waiting_among, waiting_in, Account}
use Rattle.account.proofs.Base.{Case, is, isnt, case, clash, and_yes, when, is_held}
use Rattle.account.proofs.Sim.{Slot, on, alive, lives, weight, weigh}
use Rattle.account.proofs.Edits.{ticket_among, alive_is}
use Rattle.account.proofs.Look.{rec_of, Tied}
use Rattle.account.proofs.Books.{fates, held_total}
use Rattle.account.proofs.Run.{life, started}

-- The held tickets are the live records of kind 3 and 4

waiting_weigh : (f : Text → Bool) (c : ℕ) (A : List Slot) → ((i : ℕ) → lives c A i ≡ true → ((on A i).e.kind ≡ (on A i).r.kind) × ((on A i).e.name ≡ name_of (on A i).r))
    → weigh c (λ e. when (is_ticket e.kind && f e.name) 1) A ≡ waiting_among f c (map rec_of A)
unfolding waiting_among
waiting_weigh f c [] h = refl
waiting_weigh f c (a ∷ A) h = ap₂ ◌+◌ (go (case (alive c a.r))) (waiting_weigh f c A (λ i. h (suc i)))
  where
    same-one : (z : Bool) → when z 1 ≡ one z
    same-one true = refl
    same-one false = refl

    go : Case (alive c a.r) → weight c (λ e. when (is_ticket e.kind && f e.name) 1) a ≡ one (is_ticket a.r.kind && f (name_of a.r) && live c a.r)
    go (is z) =
        rw (z, (h 0 z).0, (h 0 z).1, (both (within 1 6 a.r.kind) (ltb c a.r.expiry) z).1, and_yes (is_ticket a.r.kind && f (name_of a.r))) (same-one (is_ticket a.r.kind && f (name_of a.r)))
    go (isnt z) = rw z (dead (case (is_ticket a.r.kind)))
      where
        dead : Case (is_ticket a.r.kind) → 0 ≡ one (is_ticket a.r.kind && f (name_of a.r) && live c a.r)
        dead (is t) = rw t (late (case (ltb c a.r.expiry)))
          where
            k : (3 ≤ a.r.kind) × (a.r.kind ≤ 4)
            k = ticket_among a.r.kind t

            late : Case (ltb c a.r.expiry) → 0 ≡ one (f (name_of a.r) && ltb c a.r.expiry)
            late (is l) = absurd (clash {b = alive c a.r} (alive_is c a.r (omega (arith, k.0), omega (arith, k.1)) (ltb-true c a.r.expiry l)) z)
            late (isnt l) = rw (l, and-false (f (name_of a.r)))
        dead (isnt t) = rw t

held_waiting : {K : Known} (f : Text → Bool) (L : Notebook) (t : Table) → Tied K L t → tally f is_held L.book ≡ waiting_among f t.clock t.slots
unfolding waiting_among
held_waiting f L t w =
    let a : waiting_among f L.clock (free_rec ∷ t.slots) ≡ waiting_among f L.clock (map rec_of w.A) = ap (waiting_among f L.clock) w.slots_are in
    let b = held_total f L.book ∙ w.sim.sums (λ e. when (is_ticket e.kind && f e.name) 1) ∙ waiting_weigh f L.clock w.A (λ i l. ((w.sim.good i l).kind_eq, (w.sim.good i l).name_eq)) in
    rw w.clock_is (omega arith)

-- The theorem: any table of an allowed size that was formatted, any calls after it
pub account : (old : Text) (time : ℕ) → (format_of old time).refusal ≡ 0 → (calls : List Call)
    → Account time (history_of (format_of old time).table calls) (table_after (format_of old time).table calls)
unfolding waiting_in
account old time e calls =
    let l = life time (format_of old time).table (started old time e) calls in
    let h : List Said = trail_of (history_of (format_of old time).table calls) in
    let b = l.reached.books in
    let book : List Line = (notebook time h).book in
    let t : Table = decode_table (table_after (format_of old time).table calls) in
    let w : (f : Text → Bool) → tally f is_held book ≡ waiting_among f t.clock t.slots = λ f. held_waiting f (notebook time h) t l.reached.tied in
    record {
      issues_read = l.issues;
      accepts_read = l.accepts;
      successes_read = l.wins;
      frank = l.frank;
      balance = λ f. omega (arith, b.all f, b.acc f, b.unspent f, fates f book, w f);
      accepted_noted = b.acc;
      waiting_noted = λ f. sym (w f);
      issued_once = b.single;
      accepted_once = λ x. let f : Text → Bool = λ (y : Text). same y x in omega (arith, b.single x, b.all f, b.acc f, fates f book);
      once = λ x. omega (arith, b.owing.most x);
      honest = l.honest;
    }
