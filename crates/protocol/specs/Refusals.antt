-- The refusals by their numbers, and the number of a call that is refused or not.
use Rattle.std.specs.Prelude.{ℕ, Result, Ok, Err}
use Rattle.protocol.specs.declared.Refusal.{Refusal}
use Rattle.protocol.specs.declared.Refusal.TheVariants as refusal

abbrev pub refusal_number : Refusal → ℕ
refusal_number refusal.TableShape = 1
refusal_number refusal.Table = 2
refusal_number refusal.Register = 3
refusal_number refusal.Sizes = 4
refusal_number refusal.TooLong = 5
refusal_number refusal.Time = 6
refusal_number refusal.Malformed = 7
refusal_number refusal.Incomplete = 8
refusal_number refusal.NoVisit = 9

-- 0 where a call is not refused
abbrev pub number_of_result : {A : Type 0} → Result A Refusal → ℕ
number_of_result (Ok done) = 0
number_of_result (Err r) = refusal_number r
