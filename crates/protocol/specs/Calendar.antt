-- The calendar: the date of a second, counted from the start of 1970 in days of 86,400 seconds, and its text,
-- `2024-02-29T06:00:00Z`. Years and months are counted off one by one.
use Rattle.std.specs.Prelude.{Bool, ◌&&◌, ◌||◌, not, List, ◌++◌, ℕ, zero, suc, ◌+◌, ◌-◌, ◌/◌, ◌%◌, eqb, ltb, length, replicate}
use Rattle.protocol.specs.Bytes.{if, ascii, decimal}
use Rattle.protocol.specs.declared.YearDay.{YearDay}
use Rattle.protocol.specs.declared.Date.{Date}

-- every fourth year is a leap year, but of the hundreds only every fourth
unfoldable pub is_leap : ℕ → Bool
is_leap year = eqb (year % 4) 0 && (not (eqb (year % 100) 0) || eqb (year % 400) 0)

unfoldable pub year_length : ℕ → ℕ
year_length year = if (is_leap year) 366 365

-- February has 28 or 29 days, April, June, September and November have 30, the others 31
unfoldable pub month_length : ℕ → ℕ → ℕ
month_length year month =
    if (eqb month 2) (if (is_leap year) 29 28)
    (if (eqb month 4 || eqb month 6 || eqb month 9 || eqb month 11) 30 31)

-- the year of the day that comes `days` days after the first of a year, at most `most` years on, and its place in that year, from 0
unfoldable pub year_from : ℕ → ℕ → ℕ → YearDay
year_from zero year days = record { year = year; day = days }
year_from (suc most) year days =
    if (ltb days (year_length year)) (record { year = year; day = days })
    (year_from most (year + 1) (days - year_length year))

-- for a day after 1 January 1970; no year is shorter than 365 days
unfoldable pub year_of : ℕ → YearDay
year_of days = year_from (suc (days / 365)) 1970 days

-- the date that comes `days` days after the first of a month, at most `most` months on
unfoldable pub month_from : ℕ → ℕ → ℕ → ℕ → Date
month_from zero year month days = record { year = year; month = month; day = days + 1 }
month_from (suc most) year month days =
    if (ltb days (month_length year month)) (record { year = year; month = month; day = days + 1 })
    (month_from most year (month + 1) (days - month_length year month))

-- for a day of a year: December is 11 months after January
unfoldable pub month_of : ℕ → ℕ → Date
month_of year day = month_from 11 year 1 day

-- the date that comes `days` days after 1 January 1970
unfoldable pub date_of : ℕ → Date
date_of days = month_of (year_of days).year (year_of days).day

-- a number in decimal, with leading zeros up to a width; a longer one is written whole
unfoldable pub padded : ℕ → ℕ → List ℕ
padded width v = replicate (width - length (decimal v)) 48 ++ decimal v

-- `2024-02-29`
unfoldable pub day_text : Date → List ℕ
day_text d = padded 4 d.year ++ (ascii "-" ++ (padded 2 d.month ++ (ascii "-" ++ padded 2 d.day)))

-- `T06:00:00Z`, of a second of the day
unfoldable pub clock_text : ℕ → List ℕ
clock_text s = ascii "T" ++ (padded 2 (s / 3600) ++ (ascii ":" ++ (padded 2 (s / 60 % 60) ++ (ascii ":" ++ (padded 2 (s % 60) ++ ascii "Z")))))

unfoldable pub date_text : ℕ → List ℕ
date_text time = day_text (date_of (time / 86400)) ++ clock_text (time % 86400)
