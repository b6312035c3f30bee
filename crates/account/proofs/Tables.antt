-- The edits of a table keep it tied to the notebook. Assumes nothing.
use mathlib.Core.Path.{◌≡◌, refl, sym, ap, ap₂, ◌∙◌}
use mathlib.Core.Logic.{◌≢◌}
use mathlib.Core.Bool.{Bool, true, false, not}
use mathlib.Core.List.{List, [], ◌∷◌, map}
use Prim.Native.Nat.{ℕ, zero, suc, ◌+◌, ◌%◌, ◌≤◌, ◌<◌, max}
use native.Mathlib.Omega.{arith}
use native.Mathlib.Decide.{ℕ_discrete}
use borrow.Author.Tests.{eq-eqb, ne_eqb, eqb-true, eqb-false, lt-ltb, not-true, not-false}
use lib.ListN.{get_or, set, get_or-map, length-map, length-set}
use lib.Seq.{get_or-set_same, get_or-set_other}
use lib.Dec.{ltb, eqb}
use Rattle.protocol.specs.Records.{Rec, free_rec}
use Rattle.protocol.specs.Table.{Table, put_at}
use Rattle.protocol.specs.Steps.{clear_rec, tick, clear, put, remove, slot_for, add}
use Rattle.protocol.proofs.Added.{Room}
use Rattle.protocol.proofs.Laws.{and-false}
use Rattle.account.specs.Notebook.{Fate, expired, Line, Notebook, close_line, close_all, enter, pass}
use Rattle.account.specs.Truth.{Known}
use Rattle.account.proofs.Base.{if-same, clash, is_held}
use Rattle.account.proofs.Sim.{Slot, bare, no_slot, on, alive, lives, up_of, Under, session, Good, Sim, good_move}
use Rattle.account.proofs.Edits.{alive_time, free_dead, under_of, home_lives, parent_lives, up_grants, sim_drop, sim_put, sim_time}
use Rattle.account.proofs.Look.{rec_of, Tied, live_inside, rec_on, size_is, live_some, Miss}

pub map-set : (A : List Slot) (k : ℕ) (a : Slot) → set (map rec_of A) k a.r ≡ map rec_of (set A k a)
map-set [] k a = refl
map-set (b ∷ A) zero a = refl
map-set (b ∷ A) (suc k) a = ap (λ (l : List Rec). b.r ∷ l) (map-set A k a)

-- a record put into a slot
pub put_slots : (slots : List Rec) (A : List Slot) (k : ℕ) (a : Slot) → free_rec ∷ slots ≡ map rec_of A → 1 ≤ k → free_rec ∷ put_at k a.r slots ≡ map rec_of (set A k a)
put_slots slots A zero a e h = absurd (omega arith)
put_slots slots A (suc k) a e h = ap (λ (l : List Rec). set l (suc k) a.r) e ∙ map-set A (suc k) a

-- every record goes through g, which leaves a free one as it is
abbrev pub on_rec : (Rec → Rec) → Slot → Slot
on_rec g a = record { r = g a.r; e = a.e; o = a.o }

module _ (g : Rec → Rec) (free : g free_rec ≡ free_rec) where
  pub on_map : (A : List Slot) (i : ℕ) → on (map (on_rec g) A) i ≡ on_rec g (on A i)
  on_map A i = ap (λ (d : Slot). get_or (map (on_rec g) A) i d) (sym (ap bare free)) ∙ get_or-map (on_rec g) A i no_slot

  map_rec : (A : List Slot) → map g (map rec_of A) ≡ map rec_of (map (on_rec g) A)
  map_rec [] = refl
  map_rec (a ∷ A) = ap (λ (l : List Rec). g a.r ∷ l) (map_rec A)

  pub map_slots : (slots : List Rec) (A : List Slot) → free_rec ∷ slots ≡ map rec_of A → free_rec ∷ map g slots ≡ map rec_of (map (on_rec g) A)
  map_slots slots A e = ap (λ (r : Rec). r ∷ map g slots) (sym free) ∙ ap (map g) e ∙ map_rec A

-- Where no live line is picked, closing changes nothing
pub tied_none : {K : Known} (L : Notebook) (t : Table) (w : Tied K L t) (q : Line → Bool) (F : Fate) → is_held F ≡ false → Miss L w.A q → Tied K (close_all F q L) t
unfolding close_all
tied_none L t w q F hF m =
    record {
      A = w.A;
      n = w.n;
      slots_are = w.slots_are;
      clock_is = w.clock_is;
      next_is = w.next_is;
      sim =
          sim_drop L w.A w.A w.n w.sim (λ i. false) q F hF refl (λ i z. refl) (λ i z. absurd (clash z refl)) (λ i l. m.all i l) (λ i l u z. refl)
          (λ i k l u e z. refl);
    }

-- A live record that nothing names leaves its slot: to none, or to a visit
module _ {K : Known} (L : Notebook) (t : Table) (w : Tied K L t) (k : ℕ) (lk : lives L.clock w.A k ≡ true) (ns : (on w.A k).r.kind ≢ 2) (ng : (on w.A k).r.kind ≢ 6) where
  pub some_slot : 1 ≤ k
  some_slot = live_some L t w k lk

  other_home : (a : Slot) → Under w.A a → eqb a.r.session k ≡ false
  other_home a u = ne_eqb a.r.session k (λ e. ns (rw e at u.home))

  other_parent : (a : Slot) (j : ℕ) → Under w.A a → up_of a.r ≡ suc j → eqb (suc j) k ≡ false
  other_parent a j u e = ne_eqb (suc j) k (λ x. ng (rw x at (up_grants w.A _ _ _ j u.line e).0))

  module _ (x : Rec) (dead : alive L.clock x ≡ false) where
    left : List Slot
    left = set w.A k (bare x)

    left_keep : (i : ℕ) → eqb i k ≡ false → on left i ≡ on w.A i
    unfolding left
    left_keep i z = get_or-set_other w.A k i (bare x) no_slot (eqb-false i k z)

    left_gone : (i : ℕ) → eqb i k ≡ true → lives L.clock left i ≡ false
    unfolding left
    left_gone i z = rw (eqb-true i k z, get_or-set_same w.A k (bare x) no_slot (live_inside L.clock w.A k lk)) dead

    pub tied_left : (q : Line → Bool) (F : Fate) → is_held F ≡ false → q (on w.A k).e ≡ true
        → ((j : ℕ) → lives L.clock w.A j ≡ true → j ≢ k → q (on w.A j).e ≡ false)
        → (v : Tied K (close_all F q L) (put k x t)) × (v.A ≡ set w.A k (bare x)) × (v.n ≡ w.n)
    unfolding close_all left
    tied_left q F hF picked others = (
      record {
        A = left;
        n = w.n;
        slots_are = put_slots t.slots w.A k (bare x) w.slots_are some_slot;
        clock_is = w.clock_is;
        next_is = w.next_is;
        sim =
            sim_drop L w.A left w.n w.sim (λ i. eqb i k) q F hF (length-set w.A k (bare x)) left_keep left_gone agree
            (λ i l u z. other_home (on w.A i) u) (λ i j l u e z. other_parent (on w.A i) j u e);
      },
      refl,
      refl,
    )
      where
        agree : (i : ℕ) → lives L.clock w.A i ≡ true → q (on w.A i).e ≡ eqb i k
        agree i l = go (ℕ_discrete i k)
          where
            go : Dec (i ≡ k) → q (on w.A i).e ≡ eqb i k
            go (yes e) = rw e picked ∙ sym (eq-eqb i k e)
            go (no ne) = others i l ne ∙ sym (ne_eqb i k ne)

    -- what was said of it still holds of its session and parents
    pub left_good : Good K (set w.A k (bare x)) w.n (on w.A k)
    left_good =
        let g = w.sim.good k lk in
        good_move w.A (set w.A k (bare x)) w.n w.n (on w.A k) (omega arith)
        (λ h. get_or-set_other w.A k (on w.A k).r.session (bare x) no_slot (eqb-false _ k (other_home (on w.A k) (under_of w.A (on w.A k) g.placed h))))
        (λ h j e. get_or-set_other w.A k (suc j) (bare x) no_slot (eqb-false (suc j) k (other_parent (on w.A k) j (under_of w.A (on w.A k) g.placed h) e)))
        g

  pub tied_remove : (q : Line → Bool) (F : Fate) → is_held F ≡ false → q (on w.A k).e ≡ true
      → ((j : ℕ) → lives L.clock w.A j ≡ true → j ≢ k → q (on w.A j).e ≡ false) → Tied K (close_all F q L) (remove k t)
  tied_remove q F hF picked others = (tied_left free_rec refl q F hF picked others).0

-- A record is added in the slot that is found free
pub serial_is : {K : Known} (L : Notebook) (t : Table) (w : Tied K L t) → 1 ≤ t.next → (t.next ≡ w.n) × (w.n < 4294967296)
serial_is L t w h =
    let e = w.next_is in
    let m = w.sim.top in
    (omega arith, omega arith)

pub tied_add : {K : Known} (L : Notebook) (t : Table) (w : Tied K L t) → Room t → (a : Slot) → alive L.clock a.r ≡ true → a.r.serial ≡ w.n → a.e.ref ≤ w.n
    → Good K w.A (suc w.n) a → Tied K (enter a.e L) (add a.r t)
unfolding add enter
tied_add L t w m a la sa ra ga =
    let s = serial_is L t w m.serial in
    record {
      A = set w.A (slot_for t) a;
      n = suc w.n;
      slots_are = put_slots t.slots w.A (slot_for t) a w.slots_are m.some;
      clock_is = w.clock_is;
      next_is = ap (λ (x : ℕ). (x + 1) % 4294967296) s.0 ∙ ap (λ (x : ℕ). x % 4294967296) (omega arith);
      sim =
          sim_put L w.A w.n w.sim (slot_for t) (omega (arith, size_is L t w, m.within)) (free_dead L.clock (on w.A (slot_for t)).r (rw (rec_on L t w (slot_for t)) at m.free))
          a la sa ra s.1 ga;
    }

-- The clock moves, and the dead are cleared

clear_free : (c : ℕ) → clear_rec c free_rec ≡ free_rec
clear_free c = if-same (ltb c 0) free_rec

close_none : (F : Fate) (l : List Line) → map (close_line F (λ (e : Line). false)) l ≡ l
close_none F [] = refl
close_none F (e ∷ es) = ap₂ ◌∷◌ (rw (and-false (is_held e.fate))) (close_none F es)

sim_clear : {K : Known} (L : Notebook) (A : List Slot) (n : ℕ) → Sim K L A n → Sim K L (map (on_rec (clear_rec L.clock)) A) n
unfolding close_all
sim_clear L A n S =
    let s =
    sim_drop L A (map (on_rec (clear_rec L.clock)) A) n S (λ i. not (ltb L.clock (on A i).r.expiry)) (λ (e : Line). false) expired refl (length-map A (on_rec (clear_rec L.clock))) keep gone
    (λ i l. sym (rw (fresh i l)))
    (λ i l u z. rw (fresh _ (home_lives L.clock A (on A i) u (alive_time L.clock (on A i).r l))))
    (λ i k l u e z. rw (fresh (suc k) (parent_lives L.clock A (on A i) k u (alive_time L.clock (on A i).r l) e))) in
    rw (close_none expired L.book) at s
  where
    fresh : (i : ℕ) → lives L.clock A i ≡ true → ltb L.clock (on A i).r.expiry ≡ true
    fresh i l = lt-ltb L.clock (on A i).r.expiry (alive_time L.clock (on A i).r l)

    keep : (i : ℕ) → not (ltb L.clock (on A i).r.expiry) ≡ false → on (map (on_rec (clear_rec L.clock)) A) i ≡ on A i
    keep i z = on_map (clear_rec L.clock) (clear_free L.clock) A i ∙ rw (not-false (ltb L.clock (on A i).r.expiry) z)

    gone : (i : ℕ) → not (ltb L.clock (on A i).r.expiry) ≡ true → lives L.clock (map (on_rec (clear_rec L.clock)) A) i ≡ false
    gone i z = rw (on_map (clear_rec L.clock) (clear_free L.clock) A i, not-true (ltb L.clock (on A i).r.expiry) z)

pub tied_pass : {K : Known} (L : Notebook) (t : Table) (time : ℕ) → Tied K L t → Tied K (pass time L) (tick time t)
unfolding pass close_all tick
tied_pass L t time w =
    record {
      A = w.A;
      n = w.n;
      slots_are = w.slots_are;
      clock_is = rw w.clock_is;
      next_is = w.next_is;
      sim = sim_time L w.A w.n w.sim (max L.clock time) (omega arith);
    }

pub tied_clear : {K : Known} (L : Notebook) (t : Table) → Tied K L t → Tied K L (clear t)
unfolding clear
tied_clear L t w =
    record {
      A = map (on_rec (clear_rec L.clock)) w.A;
      n = w.n;
      slots_are = rw w.clock_is (map_slots (clear_rec L.clock) (clear_free L.clock) t.slots w.A w.slots_are);
      clock_is = w.clock_is;
      next_is = w.next_is;
      sim = sim_clear L w.A w.n w.sim;
    }
