-- Tests, choices, sums over lists, and what a ticket's text tells. Assumes nothing.
use mathlib.Core.Path.{◌≡◌, refl, sym, ap, ◌∙◌}
use mathlib.Core.Bool.{Bool, true, false, ◌&&◌, ◌||◌}
use mathlib.Core.List.{List, [], ◌∷◌, ◌++◌, map}
use Prim.Native.Nat.{ℕ, zero, suc, ◌+◌, ◌^◌, ◌≤◌, ◌<◌}
use native.Mathlib.Omega.{arith}
use native.Mathlib.Nat.{not-suc-le-zero, le_of_suc-le-suc}
use borrow.Author.Tests.{ne_eqb}
use lib.Dec.{eqb, lit<}
use lib.ListN.{length, get_or, set, take}
use Rattle.protocol.specs.Bytes.{if, up_to, past, decimal, hex}
use Rattle.protocol.specs.Tickets.{ticket_text, secret_length, a_grant}
use Rattle.protocol.proofs.Names.{read_decimal, digits_read, digits-within, up_to-digits}
use Rattle.account.specs.Notebook.{Fate, held, came_to, Line, line}

abbrev pub is_held : Fate → Bool
is_held f = came_to held f

-- a line that comes to an end, and a waiting grant's that becomes a grant's
abbrev pub close : Fate → Line → Line
close f e = line e.kind e.name e.ref e.session e.user e.until e.expiry f

abbrev pub raise : Line → Line
raise e = line a_grant e.name e.ref e.session e.user e.until e.until e.fate

-- the two cases of a test, with the equation
pub data Case (b : Bool) : Type 0 where
  is : b ≡ true → Case b
  isnt : b ≡ false → Case b

pub case : (b : Bool) → Case b
case true = is refl
case false = isnt refl

pub clash : {b : Bool} → b ≡ true → b ≡ false → ⊥
clash {b} t f = go b t f
  where
    go : (b : Bool) → b ≡ true → b ≡ false → ⊥
    go true t f = let z : ◌≡◌ {A = ℕ} 0 1 = cc in omega arith
    go false t f = let z : ◌≡◌ {A = ℕ} 0 1 = cc in omega arith

-- a slot that was found
pub some_slot : (k : ℕ) → 1 ≤ k → eqb k 0 ≡ false
some_slot k h = ne_eqb k 0 (λ e. omega arith)

pub if-same : {A : Type 0} (b : Bool) (x : A) → if b x x ≡ x
if-same true x = refl
if-same false x = refl

-- a choice keeps what both ends have
pub if_keeps : {A B : Type 0} (f : A → B) (b : Bool) (x y : A) → f x ≡ f y → f (if b x y) ≡ f y
if_keeps f true x y e = e
if_keeps f false x y e = refl

pub untrue : (b : Bool) → (b ≡ true → ⊥) → b ≡ false
untrue true f = absurd (f refl)
untrue false f = refl

pub and_yes : (b : Bool) → (b && true) ≡ b
and_yes true = refl
and_yes false = refl

pub or_no : (b : Bool) → (b || false) ≡ b
or_no true = refl
or_no false = refl

pub or_left : (a b : Bool) → a ≡ true → (a || b) ≡ true
or_left true b e = refl
or_left false b e = absurd (clash {b = false} e refl)

pub or_right : (a b : Bool) → b ≡ true → (a || b) ≡ true
or_right true b e = refl
or_right false b e = e

-- a number that counts where a test holds, and sums
abbrev pub when : Bool → ℕ → ℕ
when true n = n
when false n = 0

abbrev pub sum : List ℕ → ℕ
sum [] = 0
sum (x ∷ xs) = x + sum xs

pub sum_set {ℓ} : {A : Type ℓ} (d : A) (f : A → ℕ) (l : List A) (i : ℕ) (a : A) → i < length l → sum (map f (set l i a)) + f (get_or l i d) ≡ sum (map f l) + f a
sum_set d f [] i a h = absurd (not-suc-le-zero h)
sum_set d f (x ∷ xs) zero a h = omega arith
sum_set d f (x ∷ xs) (suc i) a h = omega (arith, sum_set d f xs i a (le_of_suc-le-suc h))

-- the serial that a ticket's text tells, whatever its kind: the digits between the first two `-`
unfoldable pub serial_told : List ℕ → ℕ
serial_told text = read_decimal 0 (up_to 45 (past 45 text))

past-prefix : (k s : ℕ) (x : List ℕ) → 1 ≤ k → k ≤ 6 → past 45 (ticket_text k s x) ≡ decimal s ++ (45 ∷ hex (take (secret_length k) x))
unfolding ticket_text past
past-prefix zero s x l h = absurd (omega arith)
past-prefix (suc zero) s x l h = refl
past-prefix (suc (suc zero)) s x l h = refl
past-prefix (suc (suc (suc zero))) s x l h = refl
past-prefix (suc (suc (suc (suc zero)))) s x l h = refl
past-prefix (suc (suc (suc (suc (suc zero))))) s x l h = refl
past-prefix (suc (suc (suc (suc (suc (suc zero)))))) s x l h = refl
past-prefix (suc (suc (suc (suc (suc (suc (suc k))))))) s x l h = absurd (omega arith)

pub serial_told_lem : (k s : ℕ) (x : List ℕ) → 1 ≤ k → k ≤ 6 → s < 4294967296 → serial_told (ticket_text k s x) ≡ s
unfolding serial_told
serial_told_lem k s x l h b =
    let m : 4294967296 < 10 ^ 20 = lit< tt in
    rw (past-prefix k s x l h, up_to-digits (decimal s) (hex (take (secret_length k) x)) (digits-within 20 s)) (digits_read 20 s (omega arith))

pub name_serial : (k k' s s' : ℕ) (x x' : List ℕ) → 1 ≤ k → k ≤ 6 → 1 ≤ k' → k' ≤ 6 → s < 4294967296 → s' < 4294967296 → ticket_text k s x ≡ ticket_text k' s' x' → s ≡ s'
name_serial k k' s s' x x' l h l' h' b b' e = sym (serial_told_lem k s x l h b) ∙ ap serial_told e ∙ serial_told_lem k' s' x' l' h' b'
