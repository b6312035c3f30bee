-- Months counted one by one: what is left to count is the whole. Assumes nothing.
use mathlib.Core.Path.{◌≡◌, refl, sym}
use mathlib.Core.Bool.{Bool, true, false}
use mathlib.Core.Logic.{◌⊎◌, inl, inr}
use Prim.Native.Nat.{ℕ, suc, ◌+◌, ◌-◌, ◌≤◌, ◌<◌}
use native.Mathlib.Omega.{arith}
use borrow.Author.Tests.{lt-ltb, le-ltb, eq-eqb, ne_eqb}
use Rattle.protocol.specs.Calendar.{is_leap, month_length, month_from, month_of, year_of, date_of}
use Rattle.protocol.specs.declared.YearDay.{YearDay}
use Rattle.protocol.specs.declared.Date.{Date}
use Rattle.protocol.proofs.Dates.{year_in}

-- a month's length
pub long_february : (y m : ℕ) {l : Bool} → m ≡ 2 → l ≡ is_leap y → l ≡ true → 29 ≡ month_length y m
unfolding month_length
long_february y m h e t = rw (eq-eqb m 2 h, sym e, t)

pub short_february : (y m : ℕ) {l : Bool} → m ≡ 2 → l ≡ is_leap y → l ≡ false → 28 ≡ month_length y m
unfolding month_length
short_february y m h e t = rw (eq-eqb m 2 h, sym e, t)

pub short_month : (y m : ℕ) → (m ≡ 4) ⊎ (m ≡ 6) ⊎ (m ≡ 9) ⊎ (m ≡ 11) → 30 ≡ month_length y m
unfolding month_length
short_month y m (inl e) = rw e
short_month y m (inr (inl e)) = rw e
short_month y m (inr (inr (inl e))) = rw e
short_month y m (inr (inr (inr e))) = rw e

pub long_month : (y m : ℕ) → (m ≡ 2 → ⊥) → (m ≡ 4 → ⊥) → (m ≡ 6 → ⊥) → (m ≡ 9 → ⊥) → (m ≡ 11 → ⊥) → 31 ≡ month_length y m
unfolding month_length
long_month y m n₁ n₂ n₃ n₄ n₅ = rw (ne_eqb m 2 n₁, ne_eqb m 4 n₂, ne_eqb m 6 n₃, ne_eqb m 9 n₄, ne_eqb m 11 n₅)

-- `left` days after the first of a month is the day sought
pub record Counting (year day month left : ℕ) : Type 0 where
  pub counts : month_from (12 - month) year month left ≡ month_of year day
  pub last : month ≤ 12
  pub less : left ≤ day

pub count_start : (year day : ℕ) → Counting year day 1 day
unfolding month_of
count_start year day = record { counts = refl; last = omega arith; less = omega arith }

module _ (year day month left : ℕ) (c : Counting year day month left) where
  module _ (length : ℕ) (e : length ≡ month_length year month) (h : month < 12) where
    some_left : 12 - month ≡ suc (11 - month)
    some_left = omega arith

    pub count_found : left < length → ◌≡◌ {A = Date} (record { year = year; month = month; day = left + 1 }) (month_of year day)
    unfolding month_from
    count_found k = rw (some_left, lt-ltb left (month_length year month) (rw e at k)) at c.counts

    pub count_on : length ≤ left → Counting year day (month + 1) (left - length)
    unfolding month_from
    count_on k =
        let g : 12 - (month + 1) ≡ 11 - month = omega arith in
        record { counts = rw (e, g) (rw (some_left, le-ltb left (month_length year month) (rw e at k)) at c.counts); last = omega arith; less = omega (arith, c.less) }

pub count_december : (year day month left : ℕ) → Counting year day month left → 12 ≤ month → ◌≡◌ {A = Date} (record { year = year; month = 12; day = left + 1 }) (month_of year day)
unfolding month_from
count_december year day month left c h =
    let f : 12 - month ≡ 0 = omega arith in
    let m : month ≡ 12 = omega (arith, c.last) in
    rw (f, m) at c.counts

-- a date from its year and the day in it
pub day_fits : (days : ℕ) (y : YearDay) → y ≡ year_of days → y.day < 366
day_fits days y e = rw e (year_in days).day

pub date_is : (days : ℕ) (y : YearDay) (d : Date) → y ≡ year_of days → d ≡ month_of y.year y.day → d ≡ date_of days
unfolding date_of
date_is days y d e q = rw e at q
