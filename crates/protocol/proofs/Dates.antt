-- Laws of dates: the ranges of year, month, day and time of day, and a date's text, which has at most 21 bytes and nothing to
-- escape. Assumes nothing.
use mathlib.Core.Path.{◌≡◌, refl, sym, ap}
use mathlib.Core.Bool.{Bool, true, false, ◌||◌}
use mathlib.Core.List.{List, [], ◌∷◌, ◌++◌, append_assoc}
use Prim.Native.Nat.{ℕ, zero, suc, ◌+◌, ◌-◌, ◌*◌, ◌/◌, ◌%◌, ◌≤◌, ◌<◌}
use native.Mathlib.Omega.{arith}
use borrow.Author.Tests.{ltb-true, ltb-false, lt-ltb, le-ltb, leb-true, le-leb, ne_eqb}
use lib.Dec.{eqb, ltb, leb}
use lib.ListN.{length, replicate, length-append}
use Rattle.protocol.specs.Bytes.{if, ascii, digits, decimal, within, all_within}
use Rattle.protocol.specs.Answers.{escaped_byte, escaped}
use Rattle.protocol.specs.Table.{last_time}
use Rattle.protocol.specs.Calendar.{is_leap, year_length, month_length, year_from, year_of, month_from, month_of, date_of, padded, day_text, clock_text, date_text}
use Rattle.protocol.specs.declared.YearDay.{YearDay}
use Rattle.protocol.specs.declared.Date.{Date}
use Rattle.protocol.proofs.Laws.{both}
use Rattle.protocol.proofs.Names.{within-append, digits-within}

-- what bounds both values bounds the one that a test picks
pick_range : (z : Bool) (a b lo hi : ℕ) → (lo ≤ a) × (a ≤ hi) → (lo ≤ b) × (b ≤ hi) → (lo ≤ if z a b) × (if z a b ≤ hi)
pick_range true a b lo hi p q = p
pick_range false a b lo hi p q = q

pub year_length_lem : (y : ℕ) → (365 ≤ year_length y) × (year_length y ≤ 366)
unfolding year_length
year_length_lem y = pick_range (is_leap y) 366 365 365 366 (omega arith, omega arith) (omega arith, omega arith)

pub month_length_lem : (y m : ℕ) → (28 ≤ month_length y m) × (month_length y m ≤ 31)
unfolding month_length
month_length_lem y m =
    pick_range (eqb m 2) _ _ 28 31
    (pick_range (is_leap y) 29 28 28 31 (omega arith, omega arith) (omega arith, omega arith))
    (pick_range (eqb m 4 || eqb m 6 || eqb m 9 || eqb m 11) 30 31 28 31 (omega arith, omega arith) (omega arith, omega arith))

-- the year and its day, where enough years may pass
pub record InYear (first years : ℕ) (d : YearDay) : Type 0 where
  pub least : first ≤ d.year
  pub most : d.year ≤ first + years
  pub day : d.day < 366

year_range : (n y d : ℕ) → d < 365 * n → InYear y n (year_from n y d)
unfolding year_from
year_range zero y d h = absurd (omega arith)
year_range (suc n) y d h = go (ltb d (year_length y)) refl λ g. year_range n (y + 1) (d - year_length y) (omega (arith, year_length_lem y))
  where
    go : (z : Bool) → ltb d (year_length y) ≡ z → (year_length y ≤ d → InYear (y + 1) n (year_from n (y + 1) (d - year_length y)))
        → InYear y (suc n) (if z (record { year = y; day = d }) (year_from n (y + 1) (d - year_length y)))
    go true e next = record { least = omega arith; most = omega arith; day = omega (arith, ltb-true d (year_length y) e, year_length_lem y) }
    go false e next =
        let r = next (ltb-false d (year_length y) e) in
        record { least = omega (arith, r.least); most = omega (arith, r.most); day = r.day }

-- the month and its day, where each month before took 28 days or more
pub record InMonth (y last : ℕ) (d : Date) : Type 0 where
  pub year : d.year ≡ y
  pub month : d.month ≤ last
  pub day : d.day < 100

month_range : (n y m d : ℕ) → d < 99 + 28 * n → InMonth y (m + n) (month_from n y m d)
unfolding month_from
month_range zero y m d h = record { year = refl; month = omega arith; day = omega arith }
month_range (suc n) y m d h = go (ltb d (month_length y m)) refl λ g. month_range n y (m + 1) (d - month_length y m) (omega (arith, month_length_lem y m))
  where
    go : (z : Bool) → ltb d (month_length y m) ≡ z → (month_length y m ≤ d → InMonth y (m + 1 + n) (month_from n y (m + 1) (d - month_length y m)))
        → InMonth y (m + suc n) (if z (record { year = y; month = m; day = d + 1 }) (month_from n y (m + 1) (d - month_length y m)))
    go true e next = record { year = refl; month = omega arith; day = omega (arith, ltb-true d (month_length y m) e, month_length_lem y m) }
    go false e next =
        let r = next (ltb-false d (month_length y m) e) in
        record { year = r.year; month = omega (arith, r.month); day = r.day }

-- a day to the last time: a year of four or five digits, months and days of two
pub record InRange (d : Date) : Type 0 where
  pub year_least : 1970 ≤ d.year
  pub year_most : d.year < 100000
  pub month : d.month < 100
  pub day : d.day < 100

pub year_in : (days : ℕ) → InYear 1970 (suc (days / 365)) (year_of days)
unfolding year_of
year_in days = year_range (suc (days / 365)) 1970 days (omega arith)

pub date_in : (days : ℕ) → days ≤ 12725829 → InRange (date_of days)
unfolding date_of month_of
date_in days h =
    let y = year_in days in
    let m = month_range 11 (year_of days).year 1 (year_of days).day (omega (arith, y.day)) in
    record { year_least = omega (arith, m.year, y.least); year_most = omega (arith, m.year, y.most); month = omega (arith, m.month); day = m.day }

-- a number below 100 is two digits, and one from 1,000 on needs no leading zero
pub padded_two : (v : ℕ) → v < 100 → padded 2 v ≡ (48 + v / 10) ∷ (48 + v % 10) ∷ []
unfolding padded digits
padded_two v h = go (ltb v 10) refl
  where
    two : (z y : Bool) → List ℕ
    two z y = if z ((48 + v) ∷ []) (if y ((48 + v / 10) ∷ []) (digits 18 (v / 10 / 10) ++ ((48 + v / 10 % 10) ∷ [])) ++ ((48 + v % 10) ∷ []))

    go : (z : Bool) → ltb v 10 ≡ z → replicate (2 - length (two z (ltb (v / 10) 10))) 48 ++ two z (ltb (v / 10) 10) ≡ (48 + v / 10) ∷ (48 + v % 10) ∷ []
    go true e =
        let l = ltb-true v 10 e in
        let a : v / 10 ≡ 0 = omega arith in
        let b : v % 10 ≡ v = omega arith in
        rw (a, b)
    go false e =
        let l : v / 10 < 10 = omega arith in
        rw (lt-ltb (v / 10) 10 l)

digits_more : (n v : ℕ) → 10 ≤ v → length (digits (suc n) v) ≡ suc (length (digits n (v / 10)))
unfolding digits
digits_more n v h = rw (le-ltb v 10 h, length-append (digits n (v / 10)) ((48 + v % 10) ∷ [])) (omega arith)

digits-one : (n v : ℕ) → v < 10 → length (digits (suc n) v) ≡ 1
unfolding digits
digits-one n v h = rw (lt-ltb v 10 h)

-- one digit or two
digits_two : (n v : ℕ) → v < 100 → (1 ≤ length (digits (suc (suc n)) v)) × (length (digits (suc (suc n)) v) ≤ 2)
digits_two n v h = go (ltb v 10) refl
  where
    go : (z : Bool) → ltb v 10 ≡ z → (1 ≤ length (digits (suc (suc n)) v)) × (length (digits (suc (suc n)) v) ≤ 2)
    go true e = let k = digits-one (suc n) v (ltb-true v 10 e) in (omega arith, omega arith)
    go false e =
        let k = digits_more (suc n) v (ltb-false v 10 e) in
        let l = digits-one n (v / 10) (omega arith) in
        (omega arith, omega arith)

-- four digits or five
year_digits : (v : ℕ) → 1000 ≤ v → v < 100000 → (4 ≤ length (decimal v)) × (length (decimal v) ≤ 5)
year_digits v h g =
    let a = digits_more 19 v (omega arith) in
    let b = digits_more 18 (v / 10) (omega arith) in
    let c = digits_more 17 (v / 10 / 10) (omega arith) in
    let d = digits_two 15 (v / 10 / 10 / 10) (omega arith) in
    (omega arith, omega arith)

pub padded_year : (v : ℕ) → 1000 ≤ v → v < 100000 → padded 4 v ≡ decimal v
unfolding padded
padded_year v h g = let e : 4 - length (decimal v) ≡ 0 = omega (arith, year_digits v h g) in rw e

length_two : (v : ℕ) → v < 100 → length (padded 2 v) ≡ 2
length_two v h = ap length (padded_two v h)

day_most : (d : Date) → InRange d → length (day_text d) ≤ 11
unfolding day_text
day_most d r =
    simp length-append
    (omega (arith, ap length (padded_year d.year (omega (arith, r.year_least)) r.year_most), year_digits d.year (omega (arith, r.year_least)) r.year_most, length_two d.month r.month, length_two d.day r.day))

clock_most : (s : ℕ) → s < 86400 → length (clock_text s) ≤ 10
unfolding clock_text
clock_most s h = simp length-append (omega (arith, length_two (s / 3600) (omega arith), length_two (s / 60 % 60) (omega arith), length_two (s % 60) (omega arith)))

pub date_most : (time : ℕ) → time ≤ last_time → length (date_text time) ≤ 21
unfolding date_text
date_most time h =
    rw (length-append (day_text (date_of (time / 86400))) (clock_text (time % 86400)))
    (omega (arith, day_most (date_of (time / 86400)) (date_in (time / 86400) (omega arith)), clock_most (time % 86400) (omega arith)))

-- a text of bytes from 32 to 126 that is its own escape
pub record Plain (s : List ℕ) : Type 0 where
  pub right : all_within 32 126 s ≡ true
  pub bare : escaped s ≡ s

escaped-append : (a b : List ℕ) → escaped (a ++ b) ≡ escaped a ++ escaped b
unfolding escaped
escaped-append [] b = refl
escaped-append (x ∷ a) b = rw (escaped-append a b) (sym (append_assoc (escaped_byte x) (escaped a) (escaped b)))

plain-append : {a b : List ℕ} → Plain a → Plain b → Plain (a ++ b)
plain-append {a} {b} p q =
    record { right = within-append 32 126 a b p.right q.right; bare = rw (escaped-append a b, p.bare, q.bare) }

plain-digits : (s : List ℕ) → all_within 48 57 s ≡ true → Plain s
unfolding all_within escaped escaped_byte
plain-digits [] h = record { right = refl; bare = refl }
plain-digits (b ∷ s) h =
    let p = both (within 48 57 b) (all_within 48 57 s) h in
    let q = both (leb 48 b) (leb b 57) p.0 in
    let l : 48 ≤ b = leb-true 48 b q.0 in
    let m : b ≤ 57 = leb-true b 57 q.1 in
    let r = plain-digits s p.1 in
    record {
      right = rw (le-leb 32 b (omega arith), le-leb b 126 (omega arith)) r.right;
      bare = rw (ne_eqb b 38 (omega arith), ne_eqb b 60 (omega arith), ne_eqb b 62 (omega arith), ne_eqb b 34 (omega arith), ne_eqb b 39 (omega arith)) (ap (λ (t : List ℕ). b ∷ t) r.bare);
    }

zeros_within : (n : ℕ) → all_within 48 57 (replicate n 48) ≡ true
unfolding all_within
zeros_within zero = refl
zeros_within (suc n) = zeros_within n

plain-padded : (w v : ℕ) → Plain (padded w v)
unfolding padded
plain-padded w v = plain-append (plain-digits (replicate (w - length (decimal v)) 48) (zeros_within (w - length (decimal v)))) (plain-digits (decimal v) (digits-within 20 v))

-- the marks between the numbers
record Marks : Type 0 where
  dash : Plain (ascii "-")
  colon : Plain (ascii ":")
  begins : Plain (ascii "T")
  ends : Plain (ascii "Z")

marks : Marks
unfolding all_within escaped escaped_byte
marks =
    record {
      dash = record { right = refl; bare = refl };
      colon = record { right = refl; bare = refl };
      begins = record { right = refl; bare = refl };
      ends = record { right = refl; bare = refl };
    }

pub date_plain : (time : ℕ) → Plain (date_text time)
unfolding date_text day_text clock_text
date_plain time =
    plain-append
    (plain-append (plain-padded 4 _) (plain-append marks.dash (plain-append (plain-padded 2 _) (plain-append marks.dash (plain-padded 2 _)))))
    (plain-append marks.begins (plain-append (plain-padded 2 _) (plain-append marks.colon (plain-append (plain-padded 2 _) (plain-append marks.colon (plain-append (plain-padded 2 _) marks.ends))))))
