-- What a walk over the pieces notes of a name.
use Rattle.std.specs.Prelude.{◌≡◌, Bool, List, ℕ, ◌+◌, ◌-◌, ◌≤◌, eqb, length}
use Rattle.protocol.specs.Bytes.{if, part}
use Rattle.protocol.specs.Request.{occurrences, raw_value}
use Rattle.query.specs.declared.Place.{Place}
use Rattle.query.specs.declared.Places.{Places}

-- a part of a text
pub record Inside (q : List ℕ) (from to : ℕ) : Type 0 where
  pub ordered : from ≤ to
  pub ends : to ≤ length q

-- one more piece of the name, or not: the first one's place is kept
unfoldable pub noted_by : Bool → ℕ → ℕ → Place → Place
noted_by here from to p =
    if here
    (if (eqb p.count 0) (record { count = p.count + 1; from = from; to = to }) (record { count = p.count + 1; from = p.from; to = p.to }))
    p

-- the raw value that was noted
abbrev pub raw_in : List ℕ → Place → List ℕ
raw_in q p = part p.from (p.to - p.from) q

-- what is noted of a name says how often it stands in the whole, what the first one's raw value is, and that it lies there
pub record Noted (q name : List ℕ) (p : Place) : Type 0 where
  pub count : p.count ≡ occurrences name q
  pub raw : raw_in q p ≡ raw_value name q
  pub inside : Inside q p.from p.to

pub record Walked (q a b c d : List ℕ) (r : Places) : Type 0 where
  pub first : Noted q a r.a
  pub second : Noted q b r.b
  pub third : Noted q c r.c
  pub fourth : Noted q d r.d
