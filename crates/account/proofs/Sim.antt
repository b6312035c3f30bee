-- The link between the notebook and the table: the table's slots, slot 0 first, with the notebook's line beside each, and what is known of it;
-- a free slot and a visit have none. Assumes nothing.
use mathlib.Core.Path.{◌≡◌, refl, sym, ap, ap₂, ◌∙◌}
use mathlib.Core.Bool.{Bool, true, false, ◌&&◌}
use mathlib.Core.List.Memᴰ
use mathlib.Core.List.{List, [], ◌∷◌, map, Memᴰ}
use Prim.Native.Nat.{ℕ, zero, suc, ◌+◌, ◌≤◌, ◌<◌}
use native.Mathlib.Omega.{arith}
use lib.ListN.{length, get_or}
use lib.Dec.{ltb, eqb}
use Rattle.protocol.specs.Bytes.{if, within}
use Rattle.protocol.specs.Tickets.{a_login, a_proxy, a_grant, ticket_text, iou_text}
use Rattle.protocol.specs.Records.{Rec, free_rec, name_of}
use Rattle.account.specs.History.{Text}
use Rattle.account.specs.Notebook.{held, is_ticket, line, Line, Notebook}
use Rattle.account.specs.Truth.{Origin, Granting, Known}
use Rattle.account.specs.Account.{one}
use Rattle.account.proofs.Base.{Case, is, isnt, case, clash, when, sum, is_held}

-- what the proofs want to know of a slot besides its line: the session's sign-on; service, or pgtUrl of a grant; the chain and whether credentials
-- came, of a grant those of the ticket accepted in the call that made it
pub record Story : Type 0 where
  pub since : ℕ
  pub text : Text
  pub chain : List Text
  pub mark : Bool

pub record Slot : Type 0 where
  pub r : Rec
  pub e : Line
  pub o : Story

abbrev pub plain : ℕ → Text → Story
plain since text = record { since = since; text = text; chain = []; mark = false }

abbrev pub no_line : Line
no_line = line 0 [] 0 [] [] 0 0 held

-- a record without a line: a free one, or a visit
abbrev pub bare : Rec → Slot
bare r = record { r = r; e = no_line; o = plain 0 [] }

abbrev pub no_slot : Slot
no_slot = bare free_rec

abbrev pub on : List Slot → ℕ → Slot
on A i = get_or A i no_slot

-- a record that has a held line: not free, no visit, and not expired
abbrev pub alive : ℕ → Rec → Bool
alive c r = within a_login a_grant r.kind && ltb c r.expiry

abbrev pub lives : ℕ → List Slot → ℕ → Bool
lives c A i = alive c (on A i).r

-- the line that stands for a slot, weighed by f
abbrev pub weight : ℕ → (Line → ℕ) → Slot → ℕ
weight c f a = when (alive c a.r) (f a.e)

abbrev pub weigh : ℕ → (Line → ℕ) → List Slot → ℕ
weigh c f A = sum (map (weight c f) A)

abbrev pub heft : (Line → ℕ) → Line → ℕ
heft f e = when (is_held e.fate) (f e)

abbrev pub total : (Line → ℕ) → List Line → ℕ
total f l = sum (map (heft f) l)

-- the parent's line: no parent, no chain; else the parent is a grant of the same session and the chain goes on from it
pub record Above (A : List Slot) (p s : ℕ) (chain : List Text) : Type 0 where
  pub grants : (on A p).r.kind ≡ 6
  pub its_session : (on A p).r.session ≡ s
  pub even : (on A p).r.expiry ≡ (on A s).r.expiry
  pub linked : chain ≡ (on A p).r.text ∷ (on A p).o.chain

abbrev pub Up : List Slot → ℕ → ℕ → List Text → Type 0
Up A zero s chain = chain ≡ []
Up A (suc p) s chain = Above A (suc p) s chain

-- a service ticket's parent is its session, which is no grant
abbrev pub up_of : Rec → ℕ
up_of r = if (eqb r.kind 3) 0 r.parent

abbrev pub deep : List Slot → ℕ → ℕ
deep A zero = 0
deep A (suc p) = (on A (suc p)).r.depth

-- a ticket or grant below its session
pub record Under (A : List Slot) (a : Slot) : Type 0 where
  pub home : (on A a.r.session).r.kind ≡ 2
  pub sess_eq : a.e.session ≡ name_of (on A a.r.session).r
  pub user_eq : a.e.user ≡ (on A a.r.session).r.text
  pub since_eq : a.o.since ≡ (on A a.r.session).r.since
  pub until_eq : a.e.until ≡ (on A a.r.session).r.expiry
  pub within : a.r.expiry ≤ (on A a.r.session).r.expiry
  pub lasts : a.r.kind ≡ 6 → a.r.expiry ≡ (on A a.r.session).r.expiry
  pub line : Up A (up_of a.r) a.r.session a.o.chain
  pub falls : 5 ≤ a.r.kind → a.r.depth ≡ suc (deep A (up_of a.r))

pub data Placed (A : List Slot) (a : Slot) : Type 0 where
  login : a.r.kind ≡ 1 → a.r.session ≡ 0 → Placed A a
  session : a.r.kind ≡ 2 → a.r.session ≡ 0 → a.e.session ≡ name_of a.r → a.e.user ≡ a.r.text → a.o.since ≡ a.r.since → a.e.until ≡ a.r.expiry → Placed A a
  below : 3 ≤ a.r.kind → Under A a → Placed A a

-- what is known from the history of a slot: a login ticket, a session, a ticket, a grant
abbrev pub origin_of : Slot → Origin
origin_of a = record { issued = true; service = a.o.text; user = a.e.user; since = a.o.since; chain = a.o.chain; proxied = eqb a.r.kind a_proxy; credentials = a.o.mark }

pub record Granted (g : Granting) (user : Text) (o : Story) : Type 0 where
  pub made : g.from.issued ≡ true
  pub url_eq : g.url ≡ o.text
  pub user_eq : g.from.user ≡ user
  pub since_eq : g.from.since ≡ o.since
  pub chain_eq : g.from.chain ≡ o.chain
  pub mark_eq : g.from.credentials ≡ o.mark

pub record Told (K : Known) (a : Slot) : Type 0 where
  pub login : a.r.kind ≡ 1 → K.login a.e.name ≡ a.e.expiry
  pub opener : a.r.kind ≡ 2 → K.opener a.e.name ≡ record { user = a.e.user; since = a.o.since }
  pub ticket : is_ticket a.r.kind ≡ true → K.origin a.e.name ≡ origin_of a
  pub grant : 5 ≤ a.r.kind → Granted (K.grant a.e.name) a.e.user a.o
  pub called : a.r.kind ≡ 5 → Granted (K.called a.e.ref) a.e.user a.o × ((K.called a.e.ref).iou ≡ iou_text a.r.iou)

pub record Good (K : Known) (A : List Slot) (n : ℕ) (a : Slot) : Type 0 where
  pub kind_eq : a.e.kind ≡ a.r.kind
  pub name_eq : a.e.name ≡ name_of a.r
  pub ref_eq : a.r.kind ≡ 5 → a.e.ref ≡ a.r.serial
  pub expiry_eq : a.e.expiry ≡ a.r.expiry
  pub text_eq : a.o.text ≡ a.r.text
  -- a grant's record has lost its ticket's mark
  pub mark_eq : a.r.kind ≤ 5 → a.r.mark ≡ one a.o.mark
  pub fate_eq : is_held a.e.fate ≡ true
  pub young : a.r.serial < n
  pub placed : Placed A a
  pub told : Told K a

-- the text of a serial below n
pub record Before (n : ℕ) (x : Text) : Type 0 where
  pub kind : ℕ
  pub serial : ℕ
  pub secret : Text
  pub some : 1 ≤ kind
  pub known : kind ≤ 6
  pub is_name : x ≡ ticket_text kind serial secret
  pub below : serial < n

pub record Sim (K : Known) (L : Notebook) (A : List Slot) (n : ℕ) : Type 0 where
  pub sums : (f : Line → ℕ) → total f L.book ≡ weigh L.clock f A
  pub known : (e : Line) → Memᴰ e L.book → is_held e.fate ≡ true → (i : ℕ) × (lives L.clock A i ≡ true) × ((on A i).e ≡ e)
  pub good : (i : ℕ) → lives L.clock A i ≡ true → Good K A n (on A i)
  pub one : (i j : ℕ) → lives L.clock A i ≡ true → lives L.clock A j ≡ true → (on A i).r.serial ≡ (on A j).r.serial → i ≡ j
  pub old : (e : Line) → Memᴰ e L.book → Before n e.name
  pub refs : (e : Line) → Memᴰ e L.book → e.ref < n
  pub top : n ≤ 4294967296

-- a slot's facts move to another list that has the same at its session and at its parent

pub up_move : (A B : List Slot) (p s : ℕ) (chain : List Text) → on B s ≡ on A s → ((k : ℕ) → p ≡ suc k → on B (suc k) ≡ on A (suc k)) → Up A p s chain → Up B p s chain
up_move A B zero s chain es ek h = h
up_move A B (suc k) s chain es ek h =
    record { grants = rw (ek k refl) h.grants; its_session = rw (ek k refl) h.its_session; even = rw (es, ek k refl) h.even; linked = rw (ek k refl) h.linked }

pub deep_move : (A B : List Slot) (p : ℕ) → ((k : ℕ) → p ≡ suc k → on B (suc k) ≡ on A (suc k)) → deep B p ≡ deep A p
deep_move A B zero ek = refl
deep_move A B (suc k) ek = ap (λ (a : Slot). a.r.depth) (ek k refl)

pub under_move : (A B : List Slot) (a : Slot) → on B a.r.session ≡ on A a.r.session
    → ((k : ℕ) → up_of a.r ≡ suc k → on B (suc k) ≡ on A (suc k)) → Under A a → Under B a
under_move A B a es ek u =
    record {
      home = rw es u.home;
      sess_eq = rw es u.sess_eq;
      user_eq = rw es u.user_eq;
      since_eq = rw es u.since_eq;
      until_eq = rw es u.until_eq;
      within = rw es u.within;
      lasts = rw es u.lasts;
      line = up_move A B _ _ _ es ek u.line;
      falls = λ (h : 5 ≤ a.r.kind). u.falls h ∙ ap suc (sym (deep_move A B _ ek));
    }

pub placed_move : (A B : List Slot) (a : Slot) → (3 ≤ a.r.kind → on B a.r.session ≡ on A a.r.session)
    → (3 ≤ a.r.kind → (k : ℕ) → up_of a.r ≡ suc k → on B (suc k) ≡ on A (suc k)) → Placed A a → Placed B a
placed_move A B a es ek (login k s) = login k s
placed_move A B a es ek (session k s n u v t) = session k s n u v t
placed_move A B a es ek (below k u) = below k (under_move A B a (es k) (ek k) u)

good_with : {K K' : Known} {A B : List Slot} {n m : ℕ} {a : Slot} → Good K A n a → n ≤ m → Placed B a → Told K' a → Good K' B m a
good_with g le placed told =
    record {
      kind_eq = g.kind_eq;
      name_eq = g.name_eq;
      ref_eq = g.ref_eq;
      expiry_eq = g.expiry_eq;
      text_eq = g.text_eq;
      mark_eq = g.mark_eq;
      fate_eq = g.fate_eq;
      young = omega (arith, g.young);
      placed = placed;
      told = told;
    }

pub good_move : {K : Known} (A B : List Slot) (n m : ℕ) (a : Slot) → n ≤ m → (3 ≤ a.r.kind → on B a.r.session ≡ on A a.r.session)
    → (3 ≤ a.r.kind → (k : ℕ) → up_of a.r ≡ suc k → on B (suc k) ≡ on A (suc k)) → Good K A n a → Good K B m a
good_move A B n m a le es ek g = good_with g le (placed_move A B a es ek g.placed) g.told

-- the pointwise lemma: the notebook's lines go through g, the slots from A to B

pub total_map : (f : Line → ℕ) (g : Line → Line) → ((e : Line) → is_held e.fate ≡ false → is_held (g e).fate ≡ false) → (l : List Line)
    → total f (map g l) ≡ total (λ e. heft f (g e)) l
total_map f g closed [] = refl
total_map f g closed (e ∷ es) = ap₂ ◌+◌ (go (case (is_held e.fate))) (total_map f g closed es)
  where
    go : Case (is_held e.fate) → heft f (g e) ≡ heft (λ e. heft f (g e)) e
    go (is h) = rw h
    go (isnt h) = rw (h, closed e h)

pub weigh_ext : (c d : ℕ) (f k : Line → ℕ) (A B : List Slot) → length B ≡ length A → ((i : ℕ) → weight d f (on B i) ≡ weight c k (on A i)) → weigh d f B ≡ weigh c k A
weigh_ext c d f k [] [] l q = refl
weigh_ext c d f k [] (b ∷ B) l q = absurd (omega arith)
weigh_ext c d f k (a ∷ A) [] l q = absurd (omega arith)
weigh_ext c d f k (a ∷ A) (b ∷ B) l q = ap₂ ◌+◌ (q 0) (weigh_ext c d f k A B (omega arith) (λ i. q (suc i)))

-- what becomes of slot i
pub data Turn (c d : ℕ) (A B : List Slot) (g : Line → Line) (i : ℕ) : Type 0 where
  stays : lives c A i ≡ true → lives d B i ≡ true → is_held (g (on A i).e).fate ≡ true → (on B i).e ≡ g (on A i).e → (on B i).r.serial ≡ (on A i).r.serial → Turn c d A B g i
  goes : lives c A i ≡ true → lives d B i ≡ false → is_held (g (on A i).e).fate ≡ false → Turn c d A B g i
  never : lives c A i ≡ false → lives d B i ≡ false → Turn c d A B g i

abbrev pub through : ℕ → (Line → Line) → Notebook → Notebook
through d g L = record { clock = d; book = map g L.book }

module _ {K : Known} (L : Notebook) (d : ℕ) (A B : List Slot) (n : ℕ) (S : Sim K L A n) (g : Line → Line)
    (closed : (e : Line) → is_held e.fate ≡ false → is_held (g e).fate ≡ false)
    (names : (e : Line) → (g e).name ≡ e.name) (numbers : (e : Line) → (g e).ref ≡ e.ref)
    (len : length B ≡ length A) (turn : (i : ℕ) → Turn L.clock d A B g i) where
  turn_weight : (f : Line → ℕ) (i : ℕ) → weight d f (on B i) ≡ weight L.clock (λ e. heft f (g e)) (on A i)
  turn_weight f i = go (turn i)
    where
      go : Turn L.clock d A B g i → weight d f (on B i) ≡ weight L.clock (λ e. heft f (g e)) (on A i)
      go (stays a b h e s) = rw (a, b, h, e)
      go (goes a b h) = rw (a, b, h)
      go (never a b) = rw (a, b)

  turn_known : (e : Line) → Memᴰ e (map g L.book) → is_held e.fate ≡ true → (i : ℕ) × (lives d B i ≡ true) × ((on B i).e ≡ e)
  turn_known e m h = go (Memᴰ.of_map g L.book m)
    where
      go : (a : Line) × Memᴰ a L.book × (g a ≡ e) → (i : ℕ) × (lives d B i ≡ true) × ((on B i).e ≡ e)
      go (a, ma, ga) = go₁ (case (is_held a.fate))
        where
          go₂ : (i : ℕ) → lives L.clock A i ≡ true → (on A i).e ≡ a → Turn L.clock d A B g i → (i : ℕ) × (lives d B i ≡ true) × ((on B i).e ≡ e)
          go₂ i l ea (stays _ b _ eb _) = (i, b, eb ∙ ap g ea ∙ ga)
          go₂ i l ea (goes _ _ z) = absurd (clash h (rw (← ga, ← ea) z))
          go₂ i l ea (never z _) = absurd (clash l z)

          go₁ : Case (is_held a.fate) → (i : ℕ) × (lives d B i ≡ true) × ((on B i).e ≡ e)
          go₁ (is x) = let w = S.known a ma x in go₂ w.0 w.1 w.2 (turn w.0)
          go₁ (isnt x) = absurd (clash h (rw (← ga) (closed a x)))

  turn_old : (e : Line) → Memᴰ e (map g L.book) → Before n e.name
  turn_old e m = go (Memᴰ.of_map g L.book m)
    where
      go : (a : Line) × Memᴰ a L.book × (g a ≡ e) → Before n e.name
      go (a, ma, ga) = rw (← ga, names a) (S.old a ma)

  turn_refs : (e : Line) → Memᴰ e (map g L.book) → e.ref < n
  turn_refs e m = go (Memᴰ.of_map g L.book m)
    where
      go : (a : Line) × Memᴰ a L.book × (g a ≡ e) → e.ref < n
      go (a, ma, ga) = rw (← ga, numbers a) (S.refs a ma)

  back : (i : ℕ) → lives d B i ≡ true → (lives L.clock A i ≡ true) × ((on B i).r.serial ≡ (on A i).r.serial)
  back i b = go (turn i)
    where
      go : Turn L.clock d A B g i → (lives L.clock A i ≡ true) × ((on B i).r.serial ≡ (on A i).r.serial)
      go (stays a _ _ _ s) = (a, s)
      go (goes _ z _) = absurd (clash b z)
      go (never _ z) = absurd (clash b z)

  pub sim_through : ((i : ℕ) → lives d B i ≡ true → Good K B n (on B i)) → Sim K (through d g L) B n
  sim_through good_b =
      record {
        sums = λ (f : Line → ℕ). total_map f g closed L.book ∙ S.sums (λ e. heft f (g e)) ∙ sym (weigh_ext L.clock d f (λ e. heft f (g e)) A B len (turn_weight f));
        known = turn_known;
        good = good_b;
        one = λ i j li lj e. S.one i j (back i li).0 (back j lj).0 (sym (back i li).1 ∙ e ∙ (back j lj).1);
        old = turn_old;
        refs = turn_refs;
        top = S.top;
      }

-- more is known of the live slots
pub sim_aged : {K K' : Known} {L : Notebook} {A : List Slot} {n : ℕ} → Sim K L A n → ((i : ℕ) → lives L.clock A i ≡ true → Told K (on A i) → Told K' (on A i)) → Sim K' L A n
sim_aged {A = A} S more =
    record {
      sums = S.sums;
      known = S.known;
      good = λ i l. let g = S.good i l in good_with g (omega arith) g.placed (more i l g.told);
      one = S.one;
      old = S.old;
      refs = S.refs;
      top = S.top;
    }
