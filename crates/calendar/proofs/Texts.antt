-- A date's text in its parts: there is room for each, and written one after the other they are the whole. Assumes nothing.
use mathlib.Core.Path.{◌≡◌, sym, ap}
use mathlib.Core.List.{List, [], ◌∷◌, ◌++◌}
use Prim.Native.Nat.{ℕ, ◌+◌, ◌/◌, ◌%◌, ◌≤◌, ◌<◌}
use native.Mathlib.Omega.{arith}
use Rattle.protocol.specs.Bytes.{ascii, decimal}
use Rattle.protocol.specs.Calendar.{date_of, padded, day_text, clock_text, date_text}
use Rattle.protocol.specs.declared.Date.{Date}
use Rattle.protocol.specs.Written.{Room, Wrote}
use Rattle.protocol.proofs.Dates.{InRange, date_in, padded_two, padded_year}
use Rattle.text.proofs.Splice.{then, room_first, room_next, room_as, wrote_as}

-- a mark and two digits
module _ (d : List ℕ) (at mark v : ℕ) (h : v < 100) where
  two : mark ∷ padded 2 v ≡ mark ∷ (48 + v / 10) ∷ (48 + v % 10) ∷ []
  two = ap (λ (s : List ℕ). mark ∷ s) (padded_two v h)

  pub room_two : Room d at (mark ∷ padded 2 v) → Room d at (mark ∷ (48 + v / 10) ∷ (48 + v % 10) ∷ [])
  room_two r = room_as two r

  pub wrote_two : (e : List ℕ) (to : ℕ) → Wrote d at e to (mark ∷ (48 + v / 10) ∷ (48 + v % 10) ∷ []) → Wrote d at e to (mark ∷ padded 2 v)
  wrote_two e to w = wrote_as (sym two) w

-- a day: year, month, day
module _ (d : List ℕ) (at days : ℕ) (h : days ≤ 12725829) (day : Date) (q : day ≡ date_of days) where
  in_range : InRange day
  in_range = rw q (date_in days h)

  pub month_two : day.month < 100
  month_two = in_range.month

  pub day_two : day.day < 100
  day_two = in_range.day

  whole : day_text (date_of days) ≡ decimal day.year ++ ((45 ∷ padded 2 day.month) ++ (45 ∷ padded 2 day.day))
  unfolding day_text
  whole = rw (sym q) (ap (λ (y : List ℕ). y ++ ((45 ∷ padded 2 day.month) ++ (45 ∷ padded 2 day.day))) (padded_year day.year (omega (arith, in_range.year_least)) in_range.year_most))

  module _ (r : Room d at (day_text (date_of days))) where
    pub room_year : Room d at (decimal day.year)
    room_year = room_first d at _ _ (room_as whole r)

    module _ (e : List ℕ) (to : ℕ) (w : Wrote d at e to (decimal day.year)) where
      after_year : Room e to ((45 ∷ padded 2 day.month) ++ (45 ∷ padded 2 day.day))
      after_year = room_next d e at to _ _ (room_as whole r) w

      pub room_month : Room e to (45 ∷ padded 2 day.month)
      room_month = room_first e to _ _ after_year

      module _ (f : List ℕ) (on : ℕ) (v : Wrote e to f on (45 ∷ padded 2 day.month)) where
        pub room_day : Room f on (45 ∷ padded 2 day.day)
        room_day = room_next e f to on _ _ after_year v

        pub day_wrote : (g : List ℕ) (end : ℕ) → Wrote f on g end (45 ∷ padded 2 day.day) → Wrote d at g end (day_text (date_of days))
        day_wrote g end u = wrote_as (sym whole) (then w (then v u))

-- a time of day: hour, minute, second
module _ (d : List ℕ) (at s : ℕ) (r : Room d at (clock_text s)) where
  abbrev minutes : List ℕ
  minutes = 58 ∷ padded 2 (s / 60 % 60)

  abbrev seconds : List ℕ
  seconds = 58 ∷ padded 2 (s % 60)

  pub room_hour : Room d at (84 ∷ padded 2 (s / 3600))
  unfolding clock_text
  room_hour = room_first d at (84 ∷ padded 2 (s / 3600)) (minutes ++ (seconds ++ ascii "Z")) r

  module _ (e : List ℕ) (to : ℕ) (w : Wrote d at e to (84 ∷ padded 2 (s / 3600))) where
    after_hour : Room e to (minutes ++ (seconds ++ ascii "Z"))
    unfolding clock_text
    after_hour = room_next d e at to (84 ∷ padded 2 (s / 3600)) (minutes ++ (seconds ++ ascii "Z")) r w

    pub room_minute : Room e to minutes
    room_minute = room_first e to minutes (seconds ++ ascii "Z") after_hour

    module _ (f : List ℕ) (on : ℕ) (v : Wrote e to f on minutes) where
      after_minute : Room f on (seconds ++ ascii "Z")
      after_minute = room_next e f to on minutes (seconds ++ ascii "Z") after_hour v

      pub room_second : Room f on seconds
      room_second = room_first f on seconds (ascii "Z") after_minute

      module _ (g : List ℕ) (next : ℕ) (u : Wrote f on g next seconds) where
        pub room_end : Room g next (ascii "Z")
        room_end = room_next f g on next seconds (ascii "Z") after_minute u

        pub clock_wrote : (k : List ℕ) (end : ℕ) → Wrote g next k end (ascii "Z") → Wrote d at k end (clock_text s)
        unfolding clock_text
        clock_wrote k end z = then w (then v (then u z))

-- a date: day, time
module _ (d : List ℕ) (at time : ℕ) (r : Room d at (date_text time)) where
  pub date_room_day : Room d at (day_text (date_of (time / 86400)))
  unfolding date_text
  date_room_day = room_first d at (day_text (date_of (time / 86400))) (clock_text (time % 86400)) r

  module _ (e : List ℕ) (to : ℕ) (w : Wrote d at e to (day_text (date_of (time / 86400)))) where
    pub date_room_clock : Room e to (clock_text (time % 86400))
    unfolding date_text
    date_room_clock = room_next d e at to (day_text (date_of (time / 86400))) (clock_text (time % 86400)) r w

    pub date_wrote : (f : List ℕ) (end : ℕ) → Wrote e to f end (clock_text (time % 86400)) → Wrote d at f end (date_text time)
    unfolding date_text
    date_wrote f end v = then w v
