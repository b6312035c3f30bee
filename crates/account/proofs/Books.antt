-- The notebook's own books: tickets issued and accepted, and each ticket's one right to a success answer. No table here. Assumes nothing.
use mathlib.Core.Path.{◌≡◌, refl, sym, ap, ap₂, ◌∙◌}
use mathlib.Core.Logic.{◌⊎◌, inl, inr, ◌≢◌}
use mathlib.Core.Bool.{Bool, true, false, ◌&&◌}
use mathlib.Core.List.Memᴰ
use mathlib.Core.List.{List, [], ◌∷◌, map, Memᴰ}
use Prim.Native.Nat.{ℕ, ◌+◌, ◌≤◌}
use native.Mathlib.Omega.{arith}
use borrow.Author.Tests.{ne_eqb, eqb-true, eqb-false}
use lib.Dec.{eqb}
use Rattle.protocol.specs.Bytes.{if, same}
use Rattle.protocol.specs.Tickets.{a_waiting}
use Rattle.protocol.proofs.Laws.{both, and-false, same-eq, same_refl}
use Rattle.account.specs.History.{Text}
use Rattle.account.specs.Notebook.{Fate, held, accepted, burnt, ended, expired, spent, fate_number, came_to, Line, is_ticket, is_ticket_line, is_waiting_line, close_line, raise_line, tally}
use Rattle.account.specs.Truth.{Granting}
use Rattle.account.proofs.Base.{Case, is, isnt, case, untrue, when, is_held}
use Rattle.account.proofs.Sim.{heft, total}

-- a ticket's right to one success: held, or handed on to its waiting grant
abbrev pub claim : (ℕ → Granting) → Text → Line → ℕ
claim called k e = when (is_ticket e.kind && same e.name k) 1 + when (eqb e.kind a_waiting && same (called e.ref).ticket k) 1

-- each right, such as a claim, is held, owed just now (c) or used (wins), in all at most once; and there is none to a text that no line has
pub record Owing (right : Text → Line → ℕ) (book : List Line) (wins c : Text → ℕ) : Type 0 where
  pub most : (k : Text) → total (right k) book + wins k + c k ≤ 1
  pub far : (k : Text) → ((e : Line) → Memᴰ e book → e.name ≢ k) → total (right k) book + wins k + c k ≡ 0

abbrev pub nil : Text → ℕ
nil k = 0

abbrev pub just : Text → Text → ℕ
just m k = when (same m k) 1

total_less : (f : Line → ℕ) (g : Line → Line) → ((e : Line) → heft f (g e) ≤ heft f e) → (l : List Line) → total f (map g l) ≤ total f l
total_less f g h [] = omega arith
total_less f g h (e ∷ es) = omega (arith, h e, total_less f g h es)

total_pays : (f : Line → ℕ) (g : Line → Line) (c : ℕ) → ((e : Line) → heft f (g e) ≤ heft f e) → (x : Line) → heft f (g x) + c ≤ heft f x → (l : List Line) → Memᴰ x l
    → total f (map g l) + c ≤ total f l
total_pays f g c h x hx [] m = absurd (Memᴰ.not-nil m)
total_pays f g c h x hx (e ∷ es) m = go (Memᴰ.cases_cons m) (total_pays f g c h x hx es)
  where
    go : (x ≡ e) ⊎ Memᴰ x es → (Memᴰ x es → total f (map g es) + c ≤ total f es) → total f (map g (e ∷ es)) + c ≤ total f (e ∷ es)
    go (inl q) ih = omega (arith, rw q at hx, total_less f g h es)
    go (inr m) ih = omega (arith, h e, ih m)

-- the lines go through g; what x gives up is owed
pub pay : (right : Text → Line → ℕ) (book : List Line) (wins : Text → ℕ) (g : Line → Line) (c : Text → ℕ) → ((k : Text) (e : Line) → heft (right k) (g e) ≤ heft (right k) e) → ((e : Line) → (g e).name ≡ e.name)
    → (x : Line) → Memᴰ x book → ((k : Text) → heft (right k) (g x) + c k ≤ heft (right k) x) → Owing right book wins nil → Owing right (map g book) wins c
pay right book wins g c less names x m hx o =
    record {
      most = λ k. omega (arith, total_pays (right k) g (c k) (less k) x (hx k) book m, o.most k);
      far = λ k h.
          let z = o.far k (λ e me. rw (names e) at (h (g e) (Memᴰ.map g me))) in
          omega (arith, total_pays (right k) g (c k) (less k) x (hx k) book m);
    }

pub shrink : (right : Text → Line → ℕ) (book : List Line) (wins : Text → ℕ) (g : Line → Line) → ((k : Text) (e : Line) → heft (right k) (g e) ≤ heft (right k) e) → ((e : Line) → (g e).name ≡ e.name)
    → Owing right book wins nil → Owing right (map g book) wins nil
shrink right book wins g less names o =
    record {
      most = λ k. omega (arith, total_less (right k) g (less k) book, o.most k);
      far = λ k h.
          let z = o.far k (λ e me. rw (names e) at (h (g e) (Memᴰ.map g me))) in
          omega (arith, total_less (right k) g (less k) book);
    }

-- what is owed is paid by a success answer
pub pay_win : (right : Text → Line → ℕ) (book : List Line) (wins : Text → ℕ) (c : Text → ℕ) → Owing right book wins c → Owing right book (λ (k : Text). c k + wins k) nil
pay_win right book wins c o = record { most = λ k. omega (arith, o.most k); far = λ k h. let z = o.far k h in omega arith }

-- or handed on to a new line; and a new ticket's right is its own
pub pay_enter : (right : Text → Line → ℕ) (book : List Line) (wins c : Text → ℕ) (x : Line) → ((e : Line) → Memᴰ e book → e.name ≢ x.name) → ((k : Text) → heft (right k) x ≤ c k + just x.name k)
    → Owing right book wins c → Owing right (x ∷ book) wins nil
pay_enter right book wins c x new hx o = record { most = λ k. go k (case (same x.name k)); far = far }
  where
    go : (k : Text) → Case (same x.name k) → total (right k) (x ∷ book) + wins k + 0 ≤ 1
    go k (is e) =
        let z = o.far x.name new in
        let z' : total (right k) book + wins k + c k ≡ 0 = rw (same-eq x.name k e) at z in
        let w : just x.name k ≡ 1 = rw e in
        omega (arith, hx k)
    go k (isnt ne) =
        let w : just x.name k ≡ 0 = rw ne in
        omega (arith, hx k, o.most k)

    far : (k : Text) → ((e : Line) → Memᴰ e (x ∷ book) → e.name ≢ k) → total (right k) (x ∷ book) + wins k + 0 ≡ 0
    far k h =
        let z = o.far k (λ e m. h e (Memᴰ.tail m)) in
        let w : just x.name k ≡ 0 = rw (untrue (same x.name k) (λ t. h x (Memᴰ.head refl) (same-eq x.name k t))) in
        omega (arith, hx k)

-- the same rights under another count of answers
pub re_wins : (right : Text → Line → ℕ) (book : List Line) (wins wins' : Text → ℕ) → ((k : Text) → wins' k ≡ wins k) → Owing right book wins nil → Owing right book wins' nil
re_wins right book wins wins' same-wins o =
    record { most = λ k. omega (arith, same-wins k, o.most k); far = λ k h. let z = o.far k h in omega (arith, same-wins k) }

-- and under another right that weighs the lines the same
pub re_right : (right right' : Text → Line → ℕ) (book : List Line) (wins : Text → ℕ) → ((k : Text) (e : Line) → Memᴰ e book → right' k e ≡ right k e) → Owing right book wins nil → Owing right' book wins nil
re_right right right' book wins even o =
    record { most = λ k. omega (arith, weighs k book (even k), o.most k); far = λ k h. let z = o.far k h in omega (arith, weighs k book (even k)) }
  where
    weighs : (k : Text) (l : List Line) → ((e : Line) → Memᴰ e l → right' k e ≡ right k e) → total (right' k) l ≡ total (right k) l
    weighs k [] h = refl
    weighs k (e ∷ es) h = ap₂ ◌+◌ (ap (when (is_held e.fate)) (h e (Memᴰ.head refl))) (weighs k es (λ x m. h x (Memᴰ.tail m)))

-- What the edits do to a line's claim

pub close_less : (right : Text → Line → ℕ) (F : Fate) (q : Line → Bool) → is_held F ≡ false → (k : Text) (e : Line) → heft (right k) (close_line F q e) ≤ heft (right k) e
close_less right F q hF k e = go (case (is_held e.fate && q e))
  where
    go : Case (is_held e.fate && q e) → heft (right k) (close_line F q e) ≤ heft (right k) e
    go (is z) = rw (z, hF) (omega arith)
    go (isnt z) = rw z (omega arith)

pub close_pays : (called : ℕ → Granting) (F : Fate) (q : Line → Bool) → is_held F ≡ false → (x : Line) → is_held x.fate ≡ true → q x ≡ true → is_ticket x.kind ≡ true → (k : Text)
    → heft (claim called k) (close_line F q x) + just x.name k ≤ heft (claim called k) x
close_pays called F q hF x h z t k = rw (h, z, hF, t) (omega arith)

pub wait_pays : (called : ℕ → Granting) (F : Fate) (q : Line → Bool) → is_held F ≡ false → (x : Line) → is_held x.fate ≡ true → q x ≡ true → eqb x.kind a_waiting ≡ true → (k : Text)
    → heft (claim called k) (close_line F q x) + just (called x.ref).ticket k ≤ heft (claim called k) x
wait_pays called F q hF x h z t k = rw (h, z, hF, t) (omega arith)

pub raise_less : (called : ℕ → Granting) (q : Line → Bool) (k : Text) (e : Line) → heft (claim called k) (raise_line q e) ≤ heft (claim called k) e
raise_less called q k e = go (case (is_held e.fate && q e)) (case (is_held e.fate))
  where
    go : Case (is_held e.fate && q e) → Case (is_held e.fate) → heft (claim called k) (raise_line q e) ≤ heft (claim called k) e
    go (is z) (is h) = rw (z, h) (omega arith)
    go (is z) (isnt h) = rw (z, h) (omega arith)
    go (isnt z) c = rw z (omega arith)

pub raise_pays : (called : ℕ → Granting) (q : Line → Bool) (x : Line) → is_held x.fate ≡ true → q x ≡ true → eqb x.kind a_waiting ≡ true → (k : Text)
    → heft (claim called k) (raise_line q x) + just (called x.ref).ticket k ≤ heft (claim called k) x
raise_pays called q x h z w k = rw (h, z, w, h) (omega arith)

-- Counts, of the tickets whose text passes a test f

abbrev pub tick1 : (Text → Bool) → (Fate → Bool) → Line → ℕ
tick1 f p e = if (is_ticket e.kind && f e.name && p e.fate) 1 0

pub tally-same : (f : Text → Bool) (p : Fate → Bool) (g : Line → Line) → ((e : Line) → tick1 f p (g e) ≡ tick1 f p e) → (l : List Line) → tally f p (map g l) ≡ tally f p l
unfolding tally
tally-same f p g h [] = refl
tally-same f p g h (e ∷ es) = ap₂ ◌+◌ (h e) (tally-same f p g h es)

pub tally_plus : (f : Text → Bool) (p : Fate → Bool) (g : Line → Line) (k : Line → ℕ) → ((e : Line) → tick1 f p (g e) ≡ tick1 f p e + heft k e) → (l : List Line) → tally f p (map g l) ≡ tally f p l + total k l
unfolding tally
tally_plus f p g k h [] = refl
tally_plus f p g k h (e ∷ es) = omega (arith, h e, tally_plus f p g k h es)

-- no line has a text: none counts for it
pub tally_none : (x : Text) (p : Fate → Bool) (l : List Line) → ((e : Line) → Memᴰ e l → e.name ≢ x) → tally (λ (y : Text). same y x) p l ≡ 0
unfolding tally
tally_none x p [] new = refl
tally_none x p (e ∷ es) new =
    rw (untrue (same e.name x) (λ z. new e (Memᴰ.head refl) (same-eq e.name x z)), and-false (is_ticket e.kind)) (omega (arith, tally_none x p es (λ a m. new a (Memᴰ.tail m))))

abbrev pub any_fate : Fate → Bool
any_fate f = true

-- a line that is closed counts as before, but for the two fates
closed_as : (f : Text → Bool) (p : Fate → Bool) (F : Fate) (q : Line → Bool) → ((x : Fate) → is_held x ≡ true → p F ≡ p x) → (e : Line) → tick1 f p (close_line F q e) ≡ tick1 f p e
closed_as f p F q even e = go (case (is_held e.fate && q e))
  where
    go : Case (is_held e.fate && q e) → tick1 f p (close_line F q e) ≡ tick1 f p e
    go (is z) = rw (z, even e.fate (both (is_held e.fate) (q e) z).0)
    go (isnt z) = rw z

-- of a fate that it did not come to
unlike_held : (G : Fate) → is_held G ≡ false → (x : Fate) → is_held x ≡ true → came_to G x ≡ false
unlike_held G n x z = let k : fate_number x ≡ 0 = eqb-true (fate_number x) 0 z in rw k (ne_eqb 0 (fate_number G) (λ e. eqb-false (fate_number G) 0 n (sym e)))

pub close_all_lem : (f : Text → Bool) (F : Fate) (q : Line → Bool) (e : Line) → tick1 f any_fate (close_line F q e) ≡ tick1 f any_fate e
close_all_lem f F q e = closed_as f any_fate F q (λ x z. refl) e

pub close_not : (f : Text → Bool) (G F : Fate) (q : Line → Bool) → is_held G ≡ false → came_to G F ≡ false → (e : Line) → tick1 f (came_to G) (close_line F q e) ≡ tick1 f (came_to G) e
close_not f G F q h_g n_f e = closed_as f (came_to G) F q (λ x z. n_f ∙ sym (unlike_held G h_g x z)) e

-- a line that is no ticket
pub close_other : (f : Text → Bool) (F : Fate) (q : Line → Bool) → ((e : Line) → q e ≡ true → is_ticket e.kind ≡ false) → (p : Fate → Bool) (e : Line) → tick1 f p (close_line F q e) ≡ tick1 f p e
close_other f F q other p e = go (case (is_held e.fate && q e))
  where
    go : Case (is_held e.fate && q e) → tick1 f p (close_line F q e) ≡ tick1 f p e
    go (is z) = rw (z, other e (both (is_held e.fate) (q e) z).1)
    go (isnt z) = rw z

pub raise_kind : (f : Text → Bool) (serial : ℕ) (p : Fate → Bool) (e : Line) → tick1 f p (raise_line (is_waiting_line serial) e) ≡ tick1 f p e
raise_kind f serial p e = go (case (is_held e.fate && is_waiting_line serial e))
  where
    go : Case (is_held e.fate && is_waiting_line serial e) → tick1 f p (raise_line (is_waiting_line serial) e) ≡ tick1 f p e
    go (is z) =
        let w = (both (is_held e.fate) (is_waiting_line serial e) z).1 in
        let k : e.kind ≡ 5 = eqb-true e.kind 5 (both (eqb e.kind a_waiting) (eqb e.ref serial) w).0 in
        rw (z, k)
    go (isnt z) = rw z

pub close_accepted : (f : Text → Bool) (q : Line → Bool) (e : Line) → tick1 f (came_to accepted) (close_line accepted q e) ≡ tick1 f (came_to accepted) e + heft (λ e. when (is_ticket e.kind && f e.name && q e) 1) e
close_accepted f q e = go (case (is_held e.fate)) (case (q e))
  where
    fix : (b : Bool) → if (b && true) 1 0 ≡ if (b && false) 1 0 + when (b && true) 1
    fix true = refl
    fix false = refl

    same_still : (b c : Bool) → if (b && c) 1 0 ≡ if (b && c) 1 0 + when (b && false) 1
    same_still true c = omega arith
    same_still false c = refl

    go : Case (is_held e.fate) → Case (q e) → tick1 f (came_to accepted) (close_line accepted q e) ≡ tick1 f (came_to accepted) e + heft (λ e. when (is_ticket e.kind && f e.name && q e) 1) e
    go (is h) (is z) = rw (h, z, unlike_held accepted refl e.fate h) (fix (is_ticket e.kind && f e.name))
    go (is h) (isnt z) = rw (h, z) (same_still (is_ticket e.kind && f e.name) (came_to accepted e.fate))
    go (isnt h) c = rw h (omega arith)

total_mono : (f k : Line → ℕ) → ((e : Line) → heft f e ≤ heft k e) → (l : List Line) → total f l ≤ total k l
total_mono f k h [] = omega arith
total_mono f k h (e ∷ es) = omega (arith, h e, total_mono f k h es)

total_at : (f : Line → ℕ) (x : Line) (l : List Line) → Memᴰ x l → heft f x ≤ total f l
total_at f x [] m = absurd (Memᴰ.not-nil m)
total_at f x (e ∷ es) m = go (Memᴰ.cases_cons m) (total_at f x es)
  where
    go : (x ≡ e) ⊎ Memᴰ x es → (Memᴰ x es → heft f x ≤ total f es) → heft f x ≤ total f (e ∷ es)
    go (inl q) ih = rw q (omega arith)
    go (inr m) ih = omega (arith, ih m)

-- exactly one held ticket has the text of a held ticket, and it counts where that text does
pub just_one : (called : ℕ → Granting) (book : List Line) (wins : Text → ℕ) → Owing (claim called) book wins nil → (ticket : Text) (x : Line) → Memᴰ x book → is_held x.fate ≡ true → is_ticket_line ticket x ≡ true
    → (f : Text → Bool) → total (λ e. when (is_ticket e.kind && f e.name && is_ticket_line ticket e) 1) book ≡ if (f ticket) 1 0
just_one called book wins o ticket x m h t f =
    let k = (both (is_ticket x.kind) (same x.name ticket) t).0 in
    let n = (both (is_ticket x.kind) (same x.name ticket) t).1 in
    let a = total_mono (λ e. when (is_ticket e.kind && f e.name && is_ticket_line ticket e) 1) (λ e. if (f ticket) (claim called ticket e) 0) less book in
    let b = total_at (λ e. when (is_ticket e.kind && f e.name && is_ticket_line ticket e) 1) x book m in
    let c : heft (λ e. when (is_ticket e.kind && f e.name && is_ticket_line ticket e) 1) x ≡ if (f ticket) 1 0 = rw (h, k, same-eq x.name ticket n, same_refl ticket) (when_if (f ticket)) in
    within (f ticket) _ (total (claim called ticket) book) (omega (arith, either (f ticket) book)) (omega (arith, o.most ticket)) (omega arith)
  where
    within : (b : Bool) (n c : ℕ) → n ≤ if b c 0 → c ≤ 1 → if b 1 0 ≤ n → n ≡ if b 1 0
    within true n c x y z = omega arith
    within false n c x y z = omega arith

    when_if : (b : Bool) → when (b && true) 1 ≡ if b 1 0
    when_if true = refl
    when_if false = refl

    either : (b : Bool) (l : List Line) → total (λ e. if b (claim called ticket e) 0) l ≤ if b (total (claim called ticket) l) 0
    either b [] = none b
      where
        none : (b : Bool) → 0 ≤ if b 0 0
        none true = omega arith
        none false = omega arith
    either true (e ∷ es) = omega (arith, either true es)
    either false (e ∷ es) = omega (arith, either false es, zero (is_held e.fate))
      where
        zero : (h : Bool) → when h 0 ≡ 0
        zero true = refl
        zero false = refl

    less : (e : Line) → heft (λ e. when (is_ticket e.kind && f e.name && is_ticket_line ticket e) 1) e ≤ heft (λ e. if (f ticket) (claim called ticket e) 0) e
    less e = go (case (is_ticket_line ticket e))
      where
        le : (b : Bool) (h : Bool) (n : ℕ) → when h (when (b && true) 1) ≤ when h (if b (1 + n) 0)
        le true true n = omega arith
        le false true n = omega arith
        le b false n = omega arith

        none : (b h : Bool) (n : ℕ) → when h (when (b && false) 1) ≤ when h n
        none true true n = omega arith
        none false true n = omega arith
        none b false n = omega arith

        go : Case (is_ticket_line ticket e) → heft (λ e. when (is_ticket e.kind && f e.name && is_ticket_line ticket e) 1) e ≤ heft (λ e. if (f ticket) (claim called ticket e) 0) e
        go (is z) =
            let w = both (is_ticket e.kind) (same e.name ticket) z in
            rw (w.0, same-eq e.name ticket w.1, same_refl ticket) (le (f ticket) (is_held e.fate) _)
        go (isnt z) = rw z (none (is_ticket e.kind && f e.name) (is_held e.fate) _)

-- the fates of all tickets
one_fate : (b : Bool) (f : Fate)
    → if (b && true) 1 0 ≡ if (b && came_to accepted f) 1 0 + if (b && came_to burnt f) 1 0 + if (b && came_to ended f) 1 0 + if (b && came_to expired f) 1 0 + if (b && is_held f) 1 0 + if (b && came_to spent f) 1 0
one_fate false f = refl
one_fate true held = refl
one_fate true accepted = refl
one_fate true burnt = refl
one_fate true ended = refl
one_fate true expired = refl
one_fate true spent = refl

pub fates : (f : Text → Bool) (l : List Line) → tally f any_fate l ≡ tally f (came_to accepted) l + tally f (came_to burnt) l + tally f (came_to ended) l + tally f (came_to expired) l + tally f is_held l + tally f (came_to spent) l
unfolding tally
fates f [] = refl
fates f (e ∷ es) = omega (arith, one_fate (is_ticket e.kind && f e.name) e.fate, fates f es)

pub held_total : (f : Text → Bool) (l : List Line) → tally f is_held l ≡ total (λ e. when (is_ticket e.kind && f e.name) 1) l
unfolding tally
held_total f [] = refl
held_total f (e ∷ es) = ap₂ ◌+◌ (swap (is_ticket e.kind && f e.name) (is_held e.fate)) (held_total f es)
  where
    swap : (a b : Bool) → if (a && b) 1 0 ≡ when b (when a 1)
    swap true true = refl
    swap true false = refl
    swap false true = refl
    swap false false = refl
