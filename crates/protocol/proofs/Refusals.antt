-- No refusal has number 0, and what a `?` hands on is refused by the same number. Assumes nothing.
use mathlib.Core.Path.{◌≡◌, ap}
use native.Mathlib.Omega.{arith}
use Rattle.std.specs.Prelude.{Result, Ok, Err}
use Rattle.std.specs.Result.{IsErrAnd}
use Rattle.protocol.specs.Refusals.{refusal_number, number_of_result}
use Rattle.protocol.specs.declared.Refusal.{Refusal}
use Rattle.protocol.specs.declared.Refusal.TheVariants as refusal

-- no refusal has number 0
pub refused_some : (e : Refusal) → refusal_number e ≡ 0 → ⊥
refused_some refusal.TableShape z = absurd (omega arith)
refused_some refusal.Table z = absurd (omega arith)
refused_some refusal.Register z = absurd (omega arith)
refused_some refusal.Sizes z = absurd (omega arith)
refused_some refusal.TooLong z = absurd (omega arith)
refused_some refusal.Time z = absurd (omega arith)
refused_some refusal.Malformed z = absurd (omega arith)
refused_some refusal.Incomplete z = absurd (omega arith)
refused_some refusal.NoVisit z = absurd (omega arith)

-- what a `?` hands on keeps its number
pub handed : (r : Result Unit Refusal) (e : Refusal) → IsErrAnd r (λ y. y ≡ e) → number_of_result r ≡ refusal_number e
handed (Ok x) e is = absurd is
handed (Err y) e is = ap refusal_number is
