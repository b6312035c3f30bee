-- The tickets issued, accepted and successful beside the notebook's lines: each edit of the notebook keeps the balance. No table here. Assumes nothing.
use mathlib.Core.Path.{◌≡◌, refl, sym, ap, ◌∙◌}
use mathlib.Core.Logic.{◌≢◌}
use mathlib.Core.Bool.{Bool, true, false, ◌&&◌}
use mathlib.Core.List.Memᴰ
use mathlib.Core.List.{List, [], ◌∷◌, map, Memᴰ}
use Prim.Native.Nat.{ℕ, ◌+◌, ◌≤◌}
use native.Mathlib.Omega.{arith}
use borrow.Author.Tests.{eqb-true, ne_eqb, eq-eqb}
use lib.Dec.{eqb}
use Rattle.protocol.specs.Bytes.{if, same}
use Rattle.protocol.specs.Tickets.{a_login, a_waiting}
use Rattle.protocol.proofs.Laws.{both, and-false, same-eq}
use Rattle.account.specs.History.{Text}
use Rattle.account.specs.Notebook.{Fate, held, accepted, spent, came_to, Line, is_line, is_ticket, is_ticket_line, is_waiting_line, close_line, raise_line, tally}
use Rattle.account.specs.Truth.{Granting, count}
use Rattle.account.proofs.Base.{Case, is, isnt, case, and_yes, when, is_held}
use Rattle.account.proofs.Sim.{heft}
use Rattle.account.proofs.Edits.{raise_name, close_name}
use Rattle.account.proofs.Books.{claim, Owing, nil, just, pay, shrink, pay_win, pay_enter, re_wins, re_right, close_less, close_pays, wait_pays, raise_less, raise_pays, tick1, tally-same, tally_plus, tally_none, any_fate, close_all_lem, close_not, close_accepted, raise_kind, just_one, close_other}

abbrev times : Text → List Text → ℕ
times x l = count (λ (y : Text). same y x) l

pub record Books (called : ℕ → Granting) (issues accepts wins : List Text) (book : List Line) : Type 0 where
  pub owing : Owing (claim called) book (λ (k : Text). times k wins) nil
  pub single : (x : Text) → times x issues ≤ 1
  pub all : (f : Text → Bool) → count f issues ≡ tally f any_fate book
  pub acc : (f : Text → Bool) → count f accepts ≡ tally f (came_to accepted) book
  pub unspent : (f : Text → Bool) → tally f (came_to spent) book ≡ 0

pub no_books : (called : ℕ → Granting) → Books called [] [] [] []
unfolding tally count
no_books called = record { owing = record { most = λ k. omega arith; far = λ k f. refl }; single = λ x. omega arith; all = λ f. refl; acc = λ f. refl; unspent = λ f. refl }

-- no line has this text
abbrev pub Unnamed : List Line → Text → Type 0
Unnamed book x = (e : Line) → Memᴰ e book → e.name ≢ x

-- a success counts where it is owed
ones : (z : Bool) (n : ℕ) → if z 1 0 + n ≡ when z 1 + n
ones true n = refl
ones false n = refl

module _ {called : ℕ → Granting} {issues accepts wins : List Text} {book : List Line} (b : Books called issues accepts wins book) where
  -- lines that are closed, and count as before
  closed : (F : Fate) (q : Line → Bool) → is_held F ≡ false
      → ((f : Text → Bool) (e : Line) → tick1 f (came_to accepted) (close_line F q e) ≡ tick1 f (came_to accepted) e)
      → ((f : Text → Bool) (e : Line) → tick1 f (came_to spent) (close_line F q e) ≡ tick1 f (came_to spent) e)
      → Books called issues accepts wins (map (close_line F q) book)
  closed F q hF na ns =
      record {
        owing = shrink (claim called) book _ (close_line F q) (close_less (claim called) F q hF) (close_name F q) b.owing;
        single = b.single;
        all = λ f. b.all f ∙ sym (tally-same f any_fate (close_line F q) (close_all_lem f F q) book);
        acc = λ f. b.acc f ∙ sym (tally-same f (came_to accepted) (close_line F q) (na f) book);
        unspent = λ f. tally-same f (came_to spent) (close_line F q) (ns f) book ∙ b.unspent f;
      }

  -- by another fate than accepted or spent
  pub close_books : (F : Fate) (q : Line → Bool) → is_held F ≡ false → came_to accepted F ≡ false → came_to spent F ≡ false → Books called issues accepts wins (map (close_line F q) book)
  close_books F q hF n_f s_f = closed F q hF (λ f. close_not f accepted F q refl n_f) (λ f. close_not f spent F q refl s_f)

  -- lines of another kind than tickets
  other_books : (F : Fate) (q : Line → Bool) → is_held F ≡ false → ((e : Line) → q e ≡ true → is_ticket e.kind ≡ false) → Books called issues accepts wins (map (close_line F q) book)
  other_books F q hF other = closed F q hF (λ f. close_other f F q other (came_to accepted)) (λ f. close_other f F q other (came_to spent))

  pub login_books : (lt : Text) → Books called issues accepts wins (map (close_line spent (is_line a_login lt)) book)
  login_books lt = other_books spent (is_line a_login lt) refl other
    where
      other : (e : Line) → is_line a_login lt e ≡ true → is_ticket e.kind ≡ false
      other e z = let k : e.kind ≡ 1 = eqb-true e.kind 1 (both (eqb e.kind a_login) (same e.name lt) z).0 in rw k

  -- a new line that is no ticket and no waiting grant
  pub enter_books : (x : Line) → Unnamed book x.name → is_ticket x.kind ≡ false → eqb x.kind a_waiting ≡ false → Books called issues accepts wins (x ∷ book)
  unfolding tally
  enter_books x new t w =
      record {
        owing = pay_enter (claim called) book _ nil x new (λ k. rw (t, w) (none (is_held x.fate) k)) b.owing;
        single = b.single;
        all = λ f. rw t (omega (arith, b.all f));
        acc = λ f. rw t (omega (arith, b.acc f));
        unspent = λ f. rw t (omega (arith, b.unspent f));
      }
    where
      none : (b : Bool) (k : Text) → when b (0 + 0) ≤ nil k + just x.name k
      none true k = omega arith
      none false k = omega arith

  -- a new ticket
  pub ticket_books : (x : Line) → Unnamed book x.name → is_ticket x.kind ≡ true → eqb x.kind a_waiting ≡ false → x.fate ≡ held → Books called (x.name ∷ issues) accepts wins (x ∷ book)
  unfolding tally count
  ticket_books x new t w f =
      record {
        owing = pay_enter (claim called) book _ nil x new (λ k. rw (t, w, f) (omega arith)) b.owing;
        single = λ y. go y (case (same x.name y));
        all = λ p. rw t (counted p);
        acc = λ p. rw (t, f, and-false (p x.name)) (omega (arith, b.acc p));
        unspent = λ p. rw (t, f, and-false (p x.name)) (omega (arith, b.unspent p));
      }
    where
      counted : (p : Text → Bool) → if (p x.name) 1 0 + count p issues ≡ if (p x.name && true) 1 0 + tally p any_fate book
      counted p = rw (and_yes (p x.name)) (omega (arith, b.all p))

      go : (y : Text) → Case (same x.name y) → if (same x.name y) 1 0 + times y issues ≤ 1
      go y (is z) = let n : times y issues ≡ 0 = b.all (λ (a : Text). same a y) ∙ tally_none y any_fate book (rw (same-eq x.name y z) at new) in rw z (omega arith)
      go y (isnt z) = rw z (omega (arith, b.single y))

  -- a callback has a serial that no line has
  recalled : (serial : ℕ) (g : Granting) → ((e : Line) → Memᴰ e book → e.ref ≢ serial) → Books (λ (n : ℕ). if (eqb serial n) g (called n)) issues accepts wins book
  recalled serial g new =
      record {
        owing = re_right (claim called) (claim (λ (n : ℕ). if (eqb serial n) g (called n))) book _ (λ k e m. rw (ne_eqb serial e.ref (λ z. new e m (sym z)))) b.owing;
        single = b.single;
        all = b.all;
        acc = b.acc;
        unspent = b.unspent;
      }

  -- a ticket is accepted: its right is owed
  module _ (ticket : Text) (x : Line) (m : Memᴰ x book) (h : is_held x.fate ≡ true) (t : is_ticket_line ticket x ≡ true) where
    abbrev after : List Line
    after = map (close_line accepted (is_ticket_line ticket)) book

    is_ticket_lem : is_ticket x.kind ≡ true
    is_ticket_lem = (both (is_ticket x.kind) (same x.name ticket) t).0

    its_name : x.name ≡ ticket
    its_name = same-eq x.name ticket (both (is_ticket x.kind) (same x.name ticket) t).1

    -- what it gives up is by its text
    by_text : (k : Text) (a b : ℕ) → a + just x.name k ≤ b → a + just ticket k ≤ b
    by_text k a b z = let y : just x.name k ≡ just ticket k = ap (λ (y : Text). just y k) its_name in omega arith

    accept_owing : Owing (claim called) after (λ (k : Text). times k wins) (just ticket)
    accept_owing =
        pay (claim called) book _ (close_line accepted (is_ticket_line ticket)) (just ticket) (close_less (claim called) accepted (is_ticket_line ticket) refl) (close_name accepted (is_ticket_line ticket)) x m
        (λ k. by_text k _ _ (close_pays called accepted (is_ticket_line ticket) refl x h t is_ticket_lem k))
        b.owing

    accept_all : (f : Text → Bool) → count f issues ≡ tally f any_fate after
    accept_all f = b.all f ∙ sym (tally-same f any_fate (close_line accepted (is_ticket_line ticket)) (close_all_lem f accepted (is_ticket_line ticket)) book)

    accept_acc : (f : Text → Bool) → if (f ticket) 1 0 + count f accepts ≡ tally f (came_to accepted) after
    accept_acc f =
        omega (
          arith,
          b.acc f,
          tally_plus f (came_to accepted) (close_line accepted (is_ticket_line ticket)) (λ e. when (is_ticket e.kind && f e.name && is_ticket_line ticket e) 1) (close_accepted f (is_ticket_line ticket)) book,
          just_one called book _ b.owing ticket x m h t f,
        )

    accept_unspent : (f : Text → Bool) → tally f (came_to spent) after ≡ 0
    accept_unspent f = tally-same f (came_to spent) (close_line accepted (is_ticket_line ticket)) (close_not f spent accepted (is_ticket_line ticket) refl refl) book ∙ b.unspent f

    -- with a success answer
    pub welcome_books : Books called issues (ticket ∷ accepts) (ticket ∷ wins) after
    unfolding count
    welcome_books =
        record {
          owing = re_wins (claim called) _ _ _ (λ k. ones (same ticket k) (times k wins)) (pay_win (claim called) _ _ (just ticket) accept_owing);
          single = b.single;
          all = accept_all;
          acc = accept_acc;
          unspent = accept_unspent;
        }

    -- or with a waiting grant, to which it hands its right on
    waiting_books : (w : Line) → Unnamed book w.name → eqb w.kind a_waiting ≡ true → is_ticket w.kind ≡ false → w.fate ≡ held → (called w.ref).ticket ≡ ticket → Books called issues (ticket ∷ accepts) wins (w ∷ after)
    unfolding count tally
    waiting_books w new wk nt f mine =
        record {
          owing = pay_enter (claim called) _ _ (just ticket) w new_after (λ k. rw (nt, wk, f, mine) (omega arith)) accept_owing;
          single = b.single;
          all = λ f. rw nt (omega (arith, accept_all f));
          acc = λ f. rw nt (omega (arith, accept_acc f));
          unspent = λ f. rw nt (omega (arith, accept_unspent f));
        }
      where
        new_after : Unnamed after w.name
        new_after e m = go (Memᴰ.of_map (close_line accepted (is_ticket_line ticket)) book m)
          where
            go : (a : Line) × Memᴰ a book × (close_line accepted (is_ticket_line ticket) a ≡ e) → e.name ≢ w.name
            go (a, ma, ea) = rw (← ea, close_name accepted (is_ticket_line ticket) a) (new a ma)

  -- a callback is settled: its waiting grant's right is used
  module _ (serial : ℕ) (x : Line) (m : Memᴰ x book) (h : is_held x.fate ≡ true) (t : is_waiting_line serial x ≡ true) where
    abbrev mine : Text
    mine = (called serial).ticket

    waits : eqb x.kind a_waiting ≡ true
    waits = (both (eqb x.kind a_waiting) (eqb x.ref serial) t).0

    its_ref : x.ref ≡ serial
    its_ref = eqb-true x.ref serial (both (eqb x.kind a_waiting) (eqb x.ref serial) t).1

    used : (g : Line → Line) → ((k : Text) (e : Line) → heft (claim called k) (g e) ≤ heft (claim called k) e) → ((e : Line) → (g e).name ≡ e.name)
        → ((k : Text) → heft (claim called k) (g x) + just (called x.ref).ticket k ≤ heft (claim called k) x) → Owing (claim called) (map g book) (λ (k : Text). times k (mine ∷ wins)) nil
    unfolding count
    used g less names pays =
        re_wins (claim called) _ _ _ (λ k. ones (same mine k) (times k wins))
        (pay_win (claim called) _ _ (just mine)
        (pay (claim called) book _ g (just mine) less names x m (λ k. let y : just (called x.ref).ticket k ≡ just mine k = ap (λ (n : ℕ). just (called n).ticket k) its_ref in omega (arith, pays k)) b.owing))

    pub raise_books : Books called issues accepts (mine ∷ wins) (map (raise_line (is_waiting_line serial)) book)
    raise_books =
        let q : Line → Bool = is_waiting_line serial in
        record {
          owing = used (raise_line q) (raise_less called q) (raise_name q) (raise_pays called q x h t waits);
          single = b.single;
          all = λ f. b.all f ∙ sym (tally-same f any_fate (raise_line q) (raise_kind f serial any_fate) book);
          acc = λ f. b.acc f ∙ sym (tally-same f (came_to accepted) (raise_line q) (raise_kind f serial (came_to accepted)) book);
          unspent = λ f. tally-same f (came_to spent) (raise_line q) (raise_kind f serial (came_to spent)) book ∙ b.unspent f;
        }

    pub refuse_books : Books called issues accepts (mine ∷ wins) (map (close_line spent (is_waiting_line serial)) book)
    refuse_books =
        let q : Line → Bool = is_waiting_line serial in
        let k = other_books spent q refl other in
        record {
          owing = used (close_line spent q) (close_less (claim called) spent q refl) (close_name spent q) (wait_pays called spent q refl x h t waits);
          single = b.single;
          all = k.all;
          acc = k.acc;
          unspent = k.unspent;
        }
      where
        other : (e : Line) → is_waiting_line serial e ≡ true → is_ticket e.kind ≡ false
        other e z = let k : e.kind ≡ 5 = eqb-true e.kind 5 (both (eqb e.kind a_waiting) (eqb e.ref serial) z).0 in rw k

-- a ticket is accepted with a callback
pub callback_books : {called : ℕ → Granting} {issues accepts wins : List Text} {book : List Line} → Books called issues accepts wins book → (ticket : Text) (x : Line) → Memᴰ x book → is_held x.fate ≡ true → is_ticket_line ticket x ≡ true
    → (g : Granting) → g.ticket ≡ ticket → (w : Line) → ((e : Line) → Memᴰ e book → e.ref ≢ w.ref) → Unnamed book w.name → eqb w.kind a_waiting ≡ true → is_ticket w.kind ≡ false → w.fate ≡ held
    → Books (λ (n : ℕ). if (eqb w.ref n) g (called n)) issues (ticket ∷ accepts) wins (w ∷ map (close_line accepted (is_ticket_line ticket)) book)
callback_books b ticket x m h t g mine w refs new wk nt f = waiting_books (recalled b w.ref g refs) ticket x m h t w new wk nt f (rw (eq-eqb w.ref w.ref refl) mine)
