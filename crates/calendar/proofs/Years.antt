-- Years by division are years counted one by one: the days of k years grow by the length of each year, the year of a day is the
-- one between whose ends it lies, and the division by the mean year names it or the one before. Assumes nothing.
use mathlib.Core.Path.{◌≡◌, refl, sym}
use mathlib.Core.Bool.{Bool, true, false, not, ◌&&◌, ◌||◌}
use Prim.Native.Nat.{ℕ, zero, suc, ◌+◌, ◌-◌, ◌*◌, ◌/◌, ◌%◌, ◌≤◌, ◌<◌}
use native.Mathlib.Omega.{arith}
use native.Mathlib.Nat.{add-zero}
use lib.Dec.{eqb, leb}
use borrow.Author.Tests.{eqb-true, eqb-false, lt-ltb, le-ltb, leb-true, leb-false}
use Rattle.protocol.specs.Bytes.{if}
use Rattle.protocol.specs.Calendar.{is_leap, year_length, year_from, year_of}
use Rattle.protocol.specs.declared.YearDay.{YearDay}
use Rattle.protocol.proofs.Dates.{year_length_lem}
use Rattle.calendar.specs.Years.{days_in}

-- a count of multiples grows where the next number is one
four : (n : ℕ) (z : Bool) → eqb ((n + 1) % 4) 0 ≡ z → (n + 1) / 4 ≡ n / 4 + if z 1 0
four n true e = omega (arith, eqb-true ((n + 1) % 4) 0 e)
four n false e = omega (arith, eqb-false ((n + 1) % 4) 0 e)

hundred : (n : ℕ) (z : Bool) → eqb ((n + 1) % 100) 0 ≡ z → (n + 1) / 100 ≡ n / 100 + if z 1 0
hundred n true e = omega (arith, eqb-true ((n + 1) % 100) 0 e)
hundred n false e = omega (arith, eqb-false ((n + 1) % 100) 0 e)

four_hundred : (n : ℕ) (z : Bool) → eqb ((n + 1) % 400) 0 ≡ z → (n + 1) / 400 ≡ n / 400 + if z 1 0
four_hundred n true e = omega (arith, eqb-true ((n + 1) % 400) 0 e)
four_hundred n false e = omega (arith, eqb-false ((n + 1) % 400) 0 e)

-- the days of one year more
pub days_step : (n : ℕ) → days_in (n + 1) ≡ days_in n + year_length (n + 1)
unfolding days_in year_length is_leap
days_step n = go (eqb ((n + 1) % 4) 0) (eqb ((n + 1) % 100) 0) (eqb ((n + 1) % 400) 0) refl refl refl
  where
    sum : (f q h x y z l : ℕ) → h ≤ n → y ≤ 1 → l + y ≡ 365 + x + z → 365 * (n + 1) + (f + x) + (q + z) - (h + y) ≡ 365 * n + f + q - h + l
    sum f q h x y z l b c e = omega arith

    few : n / 100 ≤ n
    few = omega arith

    go : (x y z : Bool) → eqb ((n + 1) % 4) 0 ≡ x → eqb ((n + 1) % 100) 0 ≡ y → eqb ((n + 1) % 400) 0 ≡ z
        → 365 * (n + 1) + (n + 1) / 4 + (n + 1) / 400 - (n + 1) / 100 ≡ 365 * n + n / 4 + n / 400 - n / 100 + if (x && (not y || z)) 366 365
    go true true true a b c = rw (four n true a, hundred n true b, four_hundred n true c) (sum _ _ _ 1 1 1 366 few (omega arith) refl)
    go true true false a b c = rw (four n true a, hundred n true b, four_hundred n false c) (sum _ _ _ 1 1 0 365 few (omega arith) refl)
    go true false true a b c = absurd (eqb-false ((n + 1) % 100) 0 b (omega (arith, eqb-true ((n + 1) % 400) 0 c)))
    go true false false a b c = rw (four n true a, hundred n false b, four_hundred n false c) (sum _ _ _ 1 0 0 366 few (omega arith) refl)
    go false true z a b c = absurd (eqb-false ((n + 1) % 4) 0 a (omega (arith, eqb-true ((n + 1) % 100) 0 b)))
    go false false true a b c = absurd (eqb-false ((n + 1) % 4) 0 a (omega (arith, eqb-true ((n + 1) % 400) 0 c)))
    go false false false a b c = rw (four n false a, hundred n false b, four_hundred n false c) (sum _ _ _ 0 0 0 365 few (omega arith) refl)

-- no year is shorter than 365 days
days_grow : (m j : ℕ) → days_in m + 365 * j ≤ days_in (m + j)
days_grow m zero = rw (add-zero m) (omega arith)
days_grow m (suc j) =
    let e : m + suc j ≡ m + j + 1 = omega arith in
    rw e (omega (arith, days_grow m j, days_step (m + j), year_length_lem (m + j + 1)))

-- the count reaches the year between whose ends the day lies
year_walk : (j m n f : ℕ) → days_in (m + j) ≤ n → n < days_in (m + j + 1) → j < f → year_from f (m + 1) (n - days_in m) ≡ record { year = m + j + 1; day = n - days_in (m + j) }
unfolding year_from
year_walk j m n zero a b h = absurd (omega arith)
year_walk zero m n (suc f) a b h =
    let e : m + 0 ≡ m = add-zero m in
    let b₁ : n < days_in (m + 1) = rw e at b in
    let l : n - days_in m < year_length (m + 1) = omega (arith, rw e at a, b₁, days_step m) in
    rw (lt-ltb (n - days_in m) (year_length (m + 1)) l, e)
year_walk (suc j) m n (suc f) a b h =
    let e : m + suc j ≡ m + 1 + j = omega arith in
    let a₁ : days_in (m + 1 + j) ≤ n = rw e at a in
    let g : days_in m + year_length (m + 1) ≤ n = omega (arith, a₁, days_grow (m + 1) j, days_step m) in
    let l : year_length (m + 1) ≤ n - days_in m = omega arith in
    let k : n - days_in m - year_length (m + 1) ≡ n - days_in (m + 1) = omega (arith, days_step m) in
    rw (le-ltb (n - days_in m) (year_length (m + 1)) l, k, e) (year_walk j (m + 1) n f a₁ (rw e at b) (omega arith))

-- 719,162 days lie before 1970
days_before : days_in 1969 ≡ 719162
unfolding days_in
days_before = refl

-- a day that lies before the end of year k + 1 and after 1969: so does the year
late : (k n : ℕ) → 719162 ≤ n → n < days_in (k + 1) → 1969 ≤ k
late k n h g = go (leb 1969 k) refl
  where
    go : (z : Bool) → leb 1969 k ≡ z → 1969 ≤ k
    go true e = leb-true 1969 k e
    go false e =
        let l : k < 1969 = leb-false 1969 k e in
        let s : k + 1 + (1968 - k) ≡ 1969 = omega arith in
        let m : days_in (k + 1) + 365 * (1968 - k) ≤ days_in 1969 = rw s at (days_grow (k + 1) (1968 - k)) in
        absurd (omega (arith, m, days_before))

pub year_found : (days k : ℕ) → days_in k ≤ days + 719162 → days + 719162 < days_in (k + 1) → ◌≡◌ {A = YearDay} (record { year = k + 1; day = days + 719162 - days_in k }) (year_of days)
unfolding year_of
year_found days k a b =
    let h : 1969 ≤ k = late k (days + 719162) (omega arith) b in
    let e : 1969 + (k - 1969) ≡ k = omega arith in
    let d : days + 719162 - days_in 1969 ≡ days = omega (arith, days_before) in
    let g = rw e at (days_grow 1969 (k - 1969)) in
    let l : k - 1969 < suc (days / 365) = omega (arith, g, a, days_before) in
    let w = year_walk (k - 1969) 1969 (days + 719162) (suc (days / 365)) (rw e a) (rw e b) l in
    sym (rw (e, d) at w)

-- 400 years have 146,097 days: the division by the mean year is never too much, and at most one too few
guess_under : (n : ℕ) → days_in (400 * n / 146097) ≤ n
unfolding days_in
guess_under n = under (400 * n / 146097) (omega arith)
  where
    under : (k : ℕ) → 146097 * k ≤ 400 * n → 365 * k + k / 4 + k / 400 - k / 100 ≤ n
    under k h = omega arith

guess_over : (n : ℕ) → n < days_in (400 * n / 146097 + 1 + 1)
unfolding days_in
guess_over n = over (400 * n / 146097 + 1 + 1) (omega arith)
  where
    over : (k : ℕ) → 400 * n + 146097 < 146097 * k → n < 365 * k + k / 4 + k / 400 - k / 100
    over k h = omega arith

-- what `year_of` answers: the year that the division gives, or the next
module _ (days a : ℕ) (e : a ≡ days_in (400 * (days + 719162) / 146097 + 1)) where
  pub this_before : (b : ℕ) → b ≡ days_in (400 * (days + 719162) / 146097) → b ≤ days + 719162
  this_before b q = omega (arith, q, guess_under (days + 719162))

  pub this_year : (b : ℕ) → b ≡ days_in (400 * (days + 719162) / 146097) → days + 719162 < a
      → ◌≡◌ {A = YearDay} (record { year = 400 * (days + 719162) / 146097 + 1; day = days + 719162 - b }) (year_of days)
  this_year b q h = rw q (year_found days (400 * (days + 719162) / 146097) (guess_under (days + 719162)) (rw e at h))

  pub next_year : a ≤ days + 719162 → ◌≡◌ {A = YearDay} (record { year = 400 * (days + 719162) / 146097 + 2; day = days + 719162 - a }) (year_of days)
  next_year h =
      let k : 400 * (days + 719162) / 146097 + 2 ≡ 400 * (days + 719162) / 146097 + 1 + 1 = omega arith in
      rw (e, k) (year_found days (400 * (days + 719162) / 146097 + 1) (rw e at h) (guess_over (days + 719162)))
