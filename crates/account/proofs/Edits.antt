-- The kinds of edit keep the link: records leave their slots, a record is put into a free slot, a waiting grant changes in place, the clock moves.
-- Assumes nothing.
use mathlib.Core.Path.{◌≡◌, refl, sym, ap, ◌∙◌}
use mathlib.Core.Logic.{◌⊎◌, inl, inr, ◌≢◌}
use mathlib.Core.Bool.{Bool, true, false, ◌&&◌}
use mathlib.Core.List.Memᴰ
use mathlib.Core.List.{List, ◌∷◌, Memᴰ}
use Prim.Native.Nat.{ℕ, zero, suc, ◌+◌, ◌≤◌, ◌<◌}
use native.Mathlib.Omega.{arith}
use native.Mathlib.Decide.{ℕ_discrete}
use borrow.Author.Tests.{eqb-true, lt-leb, ltb-true, lt-ltb, leb-true, leb-false, le-leb}
use lib.ListN.{length, set, length-set}
use lib.Seq.{get_or-set_same, get_or-set_other}
use lib.Dec.{eqb, leb, ltb}
use Rattle.protocol.specs.Bytes.{if, same, within}
use Rattle.protocol.specs.Tickets.{a_login, a_session}
use Rattle.protocol.specs.Records.{Rec, name_of}
use Rattle.protocol.proofs.Laws.{both, fork}
use Rattle.account.specs.History.{Text}
use Rattle.account.specs.Reading.{Credentials}
use Rattle.account.specs.Notebook.{sign_on, Fate, ended, expired, spent, is_ticket, Line, Notebook, close_line, close_all, raise_line, enter, is_line, of_session, Look, found, nothing, is_found, look, end_other}
use Rattle.account.specs.Truth.{Known}
use Rattle.account.proofs.Base.{Case, is, isnt, case, clash, if_keeps, sum_set, is_held, close, raise}
use Rattle.account.proofs.Sim.{Slot, no_slot, on, alive, lives, weight, weigh, heft, total, Up, up_of, Under, Placed, login, session, below, Good, Before, Sim, good_move, Turn, stays, goes, never, through, sim_through}

-- what lives is of a kind that has lines, and not expired, and the other way
pub alive_kind : (c : ℕ) (r : Rec) → alive c r ≡ true → (1 ≤ r.kind) × (r.kind ≤ 6)
alive_kind c r l =
    let k = both (leb 1 r.kind) (leb r.kind 6) (both (within 1 6 r.kind) (ltb c r.expiry) l).0 in
    (leb-true 1 r.kind k.0, leb-true r.kind 6 k.1)

pub alive_time : (c : ℕ) (r : Rec) → alive c r ≡ true → c < r.expiry
alive_time c r l = ltb-true c r.expiry (both (within 1 6 r.kind) (ltb c r.expiry) l).1

pub alive_is : (c : ℕ) (r : Rec) → (1 ≤ r.kind) × (r.kind ≤ 6) → c < r.expiry → alive c r ≡ true
alive_is c r k t = rw (le-leb 1 r.kind k.0, le-leb r.kind 6 k.1, lt-ltb c r.expiry t)

pub free_dead : (c : ℕ) (r : Rec) → r.kind ≡ 0 → alive c r ≡ false
free_dead c r k = rw k

-- a ticket's kind is 3 or 4
pub ticket_among : (k : ℕ) → is_ticket k ≡ true → (3 ≤ k) × (k ≤ 4)
ticket_among k z = go (case (eqb k 3))
  where
    go : Case (eqb k 3) → (3 ≤ k) × (k ≤ 4)
    go (is x) = let y = eqb-true k 3 x in (omega arith, omega arith)
    go (isnt x) = let y : k ≡ 4 = eqb-true k 4 (rw x at z) in (omega arith, omega arith)

-- what stands below a session
pub under_of : (A : List Slot) (a : Slot) → Placed A a → 3 ≤ a.r.kind → Under A a
under_of A a (login k s) h = absurd (omega arith)
under_of A a (session k s n u v t) h = absurd (omega arith)
under_of A a (below k u) h = u

-- its session lives, and its parent, so a free slot is neither
pub home_lives : (c : ℕ) (A : List Slot) (a : Slot) → Under A a → c < a.r.expiry → lives c A a.r.session ≡ true
home_lives c A a u t = alive_is c (on A a.r.session).r (omega (arith, u.home), omega (arith, u.home)) (omega (arith, u.within))

pub up_lives : (c : ℕ) (A : List Slot) (p s : ℕ) (chain : List Text) (k : ℕ) → Up A p s chain → c < (on A s).r.expiry → p ≡ suc k → lives c A (suc k) ≡ true
up_lives c A zero s chain k h l e = absurd (omega arith)
up_lives c A (suc p) s chain k h l e =
    let e' : p ≡ k = omega arith in
    rw e' at (alive_is c (on A (suc p)).r (omega (arith, h.grants), omega (arith, h.grants)) (omega (arith, h.even)))

pub parent_lives : (c : ℕ) (A : List Slot) (a : Slot) (k : ℕ) → Under A a → c < a.r.expiry → up_of a.r ≡ suc k → lives c A (suc k) ≡ true
parent_lives c A a k u t e = up_lives c A (up_of a.r) a.r.session a.o.chain k u.line (omega (arith, u.within)) e

-- and is a grant of the same session
pub up_grants : (A : List Slot) (p s : ℕ) (chain : List Text) (k : ℕ) → Up A p s chain → p ≡ suc k → ((on A (suc k)).r.kind ≡ 6) × ((on A (suc k)).r.session ≡ s)
up_grants A zero s chain k h e = absurd (omega arith)
up_grants A (suc p) s chain k h e =
    let e' : p ≡ k = omega arith in
    (rw e' at h.grants, rw e' at h.its_session)

-- closing changes no name and no number, nor does raising
pub close_name : (F : Fate) (q : Line → Bool) (e : Line) → (close_line F q e).name ≡ e.name
close_name F q e = if_keeps (λ (x : Line). x.name) (is_held e.fate && q e) (close F e) e refl

pub close_ref : (F : Fate) (q : Line → Bool) (e : Line) → (close_line F q e).ref ≡ e.ref
close_ref F q e = if_keeps (λ (x : Line). x.ref) (is_held e.fate && q e) (close F e) e refl

pub raise_name : (q : Line → Bool) (e : Line) → (raise_line q e).name ≡ e.name
raise_name q e = if_keeps (λ (x : Line). x.name) (is_held e.fate && q e) (raise e) e refl

pub raise_ref : (q : Line → Bool) (e : Line) → (raise_line q e).ref ≡ e.ref
raise_ref q e = if_keeps (λ (x : Line). x.ref) (is_held e.fate && q e) (raise e) e refl

-- a live slot's text
pub before : {K : Known} {A : List Slot} {n : ℕ} {a : Slot} (c : ℕ) → Good K A n a → alive c a.r ≡ true → Before n a.e.name
unfolding name_of
before {a = a} c g l =
    record {
      kind = a.r.kind;
      serial = a.r.serial;
      secret = a.r.secret;
      some = (alive_kind c a.r l).0;
      known = (alive_kind c a.r l).1;
      is_name = g.name_eq;
      below = g.young;
    }

-- Records leave their slots: those that p picks, whose lines q picks; what stays has its session and parent still
module _ {K : Known} (L : Notebook) (A B : List Slot) (n : ℕ) (S : Sim K L A n) (p : ℕ → Bool) (q : Line → Bool) (F : Fate) (hF : is_held F ≡ false) (len : length B ≡ length A)
    (keep : (i : ℕ) → p i ≡ false → on B i ≡ on A i) (gone : (i : ℕ) → p i ≡ true → lives L.clock B i ≡ false)
    (agree : (i : ℕ) → lives L.clock A i ≡ true → q (on A i).e ≡ p i)
    (homes : (i : ℕ) → lives L.clock A i ≡ true → Under A (on A i) → p i ≡ false → p (on A i).r.session ≡ false)
    (parents : (i k : ℕ) → lives L.clock A i ≡ true → Under A (on A i) → up_of (on A i).r ≡ suc k → p i ≡ false → p (suc k) ≡ false) where
  drop_turn : (i : ℕ) → Turn L.clock L.clock A B (close_line F q) i
  drop_turn i = go (case (lives L.clock A i)) (case (p i))
    where
      go : Case (lives L.clock A i) → Case (p i) → Turn L.clock L.clock A B (close_line F q) i
      go (is l) (is z) = goes l (gone i z) (rw ((S.good i l).fate_eq, agree i l, z) hF)
      go (is l) (isnt z) =
          stays l (rw (keep i z) l) (rw ((S.good i l).fate_eq, agree i l, z) (S.good i l).fate_eq) (rw (keep i z, (S.good i l).fate_eq, agree i l, z)) (rw (keep i z))
      go (isnt l) (is z) = never l (gone i z)
      go (isnt l) (isnt z) = never l (rw (keep i z) l)

  drop_good : (i : ℕ) → lives L.clock B i ≡ true → Good K B n (on B i)
  drop_good i b = go (case (p i))
    where
      go : Case (p i) → Good K B n (on B i)
      go (is z) = absurd (clash b (gone i z))
      go (isnt z) =
          let l : lives L.clock A i ≡ true = rw (keep i z) at b in
          let g = S.good i l in
          rw (keep i z)
          (good_move A B n n (on A i) (omega arith)
          (λ h. keep _ (homes i l (under_of A (on A i) g.placed h) z))
          (λ h k e. keep (suc k) (parents i k l (under_of A (on A i) g.placed h) e z))
          g)

  pub sim_drop : Sim K (close_all F q L) B n
  unfolding close_all
  sim_drop = sim_through L L.clock A B n S (close_line F q) (λ e z. rw (z, z)) (close_name F q) (close_ref F q) len drop_turn drop_good

-- A record is put into a slot where none lives
module _ {K : Known} (L : Notebook) (A : List Slot) (n : ℕ) (S : Sim K L A n) (i : ℕ) (lt : i < length A) (z : lives L.clock A i ≡ false)
    (a : Slot) (la : alive L.clock a.r ≡ true) (sa : a.r.serial ≡ n) (ra : a.e.ref ≤ n) (next : n < 4294967296) (ga : Good K A (suc n) a) where
  P : List Slot
  P = set A i a

  here : on P i ≡ a
  unfolding P
  here = get_or-set_same A i a no_slot lt

  there : (j : ℕ) → j ≢ i → on P j ≡ on A j
  unfolding P
  there j ne = get_or-set_other A i j a no_slot ne

  -- what lives is not in slot i
  apart : (j : ℕ) → lives L.clock A j ≡ true → j ≢ i
  apart j l e = clash (rw e at l) z

  put_sums : (f : Line → ℕ) → total f (a.e ∷ L.book) ≡ weigh L.clock f P
  unfolding P
  put_sums f =
      let s : weigh L.clock f (set A i a) + weight L.clock f (on A i) ≡ weigh L.clock f A + weight L.clock f a = sum_set no_slot (weight L.clock f) A i a lt in
      let w₀ : weight L.clock f (on A i) ≡ 0 = rw z in
      let w₁ : weight L.clock f a ≡ f a.e = rw la in
      let w₂ : heft f a.e ≡ f a.e = rw ga.fate_eq in
      omega (arith, S.sums f)

  put-known : (e : Line) → Memᴰ e (a.e ∷ L.book) → is_held e.fate ≡ true → (j : ℕ) × (lives L.clock P j ≡ true) × ((on P j).e ≡ e)
  put-known e m h = go (Memᴰ.cases_cons m)
    where
      go : (e ≡ a.e) ⊎ Memᴰ e L.book → (j : ℕ) × (lives L.clock P j ≡ true) × ((on P j).e ≡ e)
      go (inl q) = (i, rw here la, rw here (sym q))
      go (inr m) = let w = S.known e m h in (w.0, rw (there w.0 (apart w.0 w.1)) w.1, rw (there w.0 (apart w.0 w.1)) w.2)

  put_move : (m : ℕ) (b : Slot) → m ≤ suc n → L.clock < b.r.expiry → Good K A m b → Good K P (suc n) b
  put_move m b le t g =
      good_move A P m (suc n) b le
      (λ h. there _ (apart _ (home_lives L.clock A b (under_of A b g.placed h) t)))
      (λ h k e. there (suc k) (apart (suc k) (parent_lives L.clock A b k (under_of A b g.placed h) t e)))
      g

  put_back : (j : ℕ) → j ≢ i → lives L.clock P j ≡ true → lives L.clock A j ≡ true
  put_back j ne l = rw (there j ne) at l

  put_good : (j : ℕ) → lives L.clock P j ≡ true → Good K P (suc n) (on P j)
  put_good j l = go (ℕ_discrete j i)
    where
      go : Dec (j ≡ i) → Good K P (suc n) (on P j)
      go (yes e) = rw (e, here) (put_move (suc n) a (omega arith) (alive_time L.clock a.r la) ga)
      go (no ne) = rw (there j ne) (put_move n (on A j) (omega arith) (alive_time L.clock (on A j).r (put_back j ne l)) (S.good j (put_back j ne l)))

  put_serial : (j : ℕ) → j ≢ i → lives L.clock P j ≡ true → (on P j).r.serial < n
  put_serial j ne l = rw (there j ne) (S.good j (put_back j ne l)).young

  put_one : (j k : ℕ) → lives L.clock P j ≡ true → lives L.clock P k ≡ true → (on P j).r.serial ≡ (on P k).r.serial → j ≡ k
  put_one j k lj lk e = go (ℕ_discrete j i) (ℕ_discrete k i)
    where
      at_i : (j : ℕ) → j ≡ i → (on P j).r.serial ≡ n
      at_i j ej = rw (ej, here) sa

      go : Dec (j ≡ i) → Dec (k ≡ i) → j ≡ k
      go (yes ej) (yes ek) = ej ∙ sym ek
      go (yes ej) (no nk) = absurd (omega (arith, at_i j ej, put_serial k nk lk))
      go (no nj) (yes ek) = absurd (omega (arith, at_i k ek, put_serial j nj lj))
      go (no nj) (no nk) = S.one j k (put_back j nj lj) (put_back k nk lk) (rw (there j nj, there k nk) at e)

  put_old : (e : Line) → Memᴰ e (a.e ∷ L.book) → Before (suc n) e.name
  unfolding name_of
  put_old e m = go (Memᴰ.cases_cons m)
    where
      go : (e ≡ a.e) ⊎ Memᴰ e L.book → Before (suc n) e.name
      go (inl q) = let b = before L.clock ga la in record { kind = b.kind; serial = b.serial; secret = b.secret; some = b.some; known = b.known; is_name = ap (λ (x : Line). x.name) q ∙ b.is_name; below = b.below }
      go (inr m) =
          let b = S.old e m in
          record { kind = b.kind; serial = b.serial; secret = b.secret; some = b.some; known = b.known; is_name = b.is_name; below = omega (arith, b.below) }

  put_refs : (e : Line) → Memᴰ e (a.e ∷ L.book) → e.ref < suc n
  put_refs e m = go (Memᴰ.cases_cons m)
    where
      go : (e ≡ a.e) ⊎ Memᴰ e L.book → e.ref < suc n
      go (inl q) = rw q (omega arith)
      go (inr m) = omega (arith, S.refs e m)

  pub sim_put : Sim K (enter a.e L) (set A i a) (suc n)
  unfolding P enter
  sim_put = record { sums = put_sums; known = put-known; good = put_good; one = put_one; old = put_old; refs = put_refs; top = omega arith }

-- A waiting grant, which nothing names, changes in place
module _ {K : Known} (L : Notebook) (A : List Slot) (n : ℕ) (S : Sim K L A n) (i : ℕ) (lt : i < length A) (li : lives L.clock A i ≡ true) (z : (on A i).r.kind ≡ 5)
    (a : Slot) (la : alive L.clock a.r ≡ true) (sa : a.r.serial ≡ (on A i).r.serial)
    (g : Line → Line) (closed : (e : Line) → is_held e.fate ≡ false → is_held (g e).fate ≡ false)
    (new : g (on A i).e ≡ a.e) (others : (j : ℕ) → lives L.clock A j ≡ true → j ≢ i → g (on A j).e ≡ (on A j).e)
    (names : (e : Line) → (g e).name ≡ e.name) (numbers : (e : Line) → (g e).ref ≡ e.ref) (ga : Good K A n a) where
  C : List Slot
  C = set A i a

  this : on C i ≡ a
  unfolding C
  this = get_or-set_same A i a no_slot lt

  that : (j : ℕ) → j ≢ i → on C j ≡ on A j
  unfolding C
  that j ne = get_or-set_other A i j a no_slot ne

  change_turn : (j : ℕ) → Turn L.clock L.clock A C g j
  change_turn j = go (ℕ_discrete j i) (case (lives L.clock A j))
    where
      go : Dec (j ≡ i) → Case (lives L.clock A j) → Turn L.clock L.clock A C g j
      go (yes e) l = stays (rw e li) (rw (e, this) la) (rw (e, new) ga.fate_eq) (rw (e, this, new)) (rw (e, this) sa)
      go (no ne) (is l) = stays l (rw (that j ne) l) (rw (others j l ne) (S.good j l).fate_eq) (rw (that j ne, others j l ne)) (rw (that j ne))
      go (no ne) (isnt l) = never l (rw (that j ne) l)

  change_move : (b : Slot) → Good K A n b → Good K C n b
  change_move b g =
      good_move A C n n b (omega arith)
      (λ h. that _ (λ (e : b.r.session ≡ i). let w : (on A i).r.kind ≡ 2 = rw e at (under_of A b g.placed h).home in omega arith))
      (λ h k e. that (suc k) (λ (x : suc k ≡ i). let w : (on A i).r.kind ≡ 6 = rw x at (up_grants A _ _ _ k (under_of A b g.placed h).line e).0 in omega arith))
      g

  change_good : (j : ℕ) → lives L.clock C j ≡ true → Good K C n (on C j)
  change_good j l = go (ℕ_discrete j i)
    where
      go : Dec (j ≡ i) → Good K C n (on C j)
      go (yes e) = rw (e, this) (change_move a ga)
      go (no ne) = rw (that j ne) (change_move (on A j) (S.good j (rw (that j ne) at l)))

  pub sim_change : Sim K (through L.clock g L) (set A i a) n
  unfolding C
  sim_change = sim_through L L.clock A C n S g closed names numbers (length-set A i a) change_turn change_good

-- The clock moves: nothing in the slots changes, and what has expired is dead
module _ {K : Known} (L : Notebook) (A : List Slot) (n : ℕ) (S : Sim K L A n) (d : ℕ) (le : L.clock ≤ d) where
  lived : (i : ℕ) → lives d A i ≡ true → lives L.clock A i ≡ true
  lived i l = alive_is L.clock (on A i).r (alive_kind d (on A i).r l) (omega (arith, alive_time d (on A i).r l))

  time_turn : (i : ℕ) → Turn L.clock d A A (close_line expired (λ (e : Line). leb e.expiry d)) i
  time_turn i = go (case (lives L.clock A i)) (case (lives d A i))
    where
      go : Case (lives L.clock A i) → Case (lives d A i) → Turn L.clock d A A (close_line expired (λ (e : Line). leb e.expiry d)) i
      go (is l) (is m) =
          let g = S.good i l in
          let z : leb (on A i).r.expiry d ≡ false = lt-leb (on A i).r.expiry d (alive_time d (on A i).r m) in
          stays l m (rw (g.fate_eq, g.expiry_eq, z) g.fate_eq) (rw (g.fate_eq, g.expiry_eq, z)) refl
      go (is l) (isnt m) =
          let g = S.good i l in
          let z : leb (on A i).r.expiry d ≡ true = late (case (leb (on A i).r.expiry d)) in
          goes l m (rw (g.fate_eq, g.expiry_eq, z))
        where
          late : Case (leb (on A i).r.expiry d) → leb (on A i).r.expiry d ≡ true
          late (is z) = z
          late (isnt z) = absurd (clash (alive_is d (on A i).r (alive_kind L.clock (on A i).r l) (leb-false (on A i).r.expiry d z)) m)
      go (isnt l) (is m) = absurd (clash (lived i m) l)
      go (isnt l) (isnt m) = never l m

  pub sim_time : Sim K (through d (close_line expired (λ (e : Line). leb e.expiry d)) L) A n
  sim_time =
      sim_through L d A A n S (close_line expired (λ (e : Line). leb e.expiry d)) (λ e z. rw (z, z)) (close_name expired _) (close_ref expired _) refl time_turn
      (λ i l. S.good i (lived i l))

-- a sign-on spends its login ticket, and ends a session or not
change_keeps : (P : Notebook → Type 0) (z : Bool) (l : Look) (cookie user : Text) (b : Notebook) → P b → P (close_all ended (of_session cookie) b) → P (if z (end_other l cookie user b) b)
change_keeps P true (found s) cookie user b k e = fork P (same s.user user) (λ z. k) (λ z. e)
change_keeps P true nothing cookie user b k e = k
change_keeps P false l cookie user b k e = k

pub signed_keeps : (P : Notebook → Type 0) (cookie : Text) (c : Credentials) (b : Notebook)
    → P (close_all spent (is_line a_login c.lt) b) → P (close_all ended (of_session cookie) (close_all spent (is_line a_login c.lt) b)) → P (sign_on cookie c b)
signed_keeps P cookie c b k e =
    let s : Notebook = close_all spent (is_line a_login c.lt) b in
    change_keeps P (c.given && is_found (look (is_line a_login c.lt) b.book)) (look (is_line a_session cookie) s.book) cookie c.user s k e
