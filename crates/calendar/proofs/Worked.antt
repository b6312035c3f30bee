-- Worked dates: the start of 1970, both sides of 29 February 2000, a morning of 29 February 2024, both sides of the end of February 2100 and of
-- the end of the year 9999, and the last time. Assumes nothing.
use mathlib.Core.Path.{◌≡◌, refl}
use Rattle.protocol.specs.Bytes.{ascii, digits}
use Rattle.protocol.specs.Table.{last_time}
use Rattle.protocol.specs.Calendar.{is_leap, year_length, month_length, year_from, year_of, month_from, month_of, date_of, padded, day_text, clock_text, date_text}

pub record Worked : Type 0 where
  pub first : date_text 0 ≡ ascii "1970-01-01T00:00:00Z"
  pub before_leap_day : date_text 951782399 ≡ ascii "2000-02-28T23:59:59Z"
  pub leap-day : date_text 951782400 ≡ ascii "2000-02-29T00:00:00Z"
  pub leap_morning : date_text 1709186400 ≡ ascii "2024-02-29T06:00:00Z"
  pub short_february : date_text 4107542399 ≡ ascii "2100-02-28T23:59:59Z"
  pub march : date_text 4107542400 ≡ ascii "2100-03-01T00:00:00Z"
  pub four_digits : date_text 253402300799 ≡ ascii "9999-12-31T23:59:59Z"
  pub five_digits : date_text 253402300800 ≡ ascii "10000-01-01T00:00:00Z"
  pub last : date_text last_time ≡ ascii "36812-02-20T00:36:16Z"

pub worked : Worked
unfolding is_leap year_length month_length year_from year_of month_from month_of date_of padded digits day_text clock_text date_text
worked =
    record {
      first = refl;
      before_leap_day = refl;
      leap-day = refl;
      leap_morning = refl;
      short_february = refl;
      march = refl;
      four_digits = refl;
      five_digits = refl;
      last = refl;
    }
