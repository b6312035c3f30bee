-- The days of years, by division.
use Rattle.std.specs.Prelude.{ℕ, ◌+◌, ◌-◌, ◌*◌, ◌/◌}

-- the days of the first so many years, counted from year 1: of four years one is a leap year, but of the hundreds only each fourth
unfoldable pub days_in : ℕ → ℕ
days_in years = 365 * years + years / 4 + years / 400 - years / 100
