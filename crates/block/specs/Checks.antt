-- A block's check, by the bytes that may be other than zero.
use Rattle.std.specs.Prelude.{Bool, List, ◌++◌, ℕ, ◌-◌, eqb, take}
use Rattle.protocol.specs.Bytes.{num, zeros}
use Rattle.protocol.specs.Blocks.{house_check}

-- a block's check is that of its first bytes, so many, with zeros behind them up to 508
unfoldable pub check_right_to : ℕ → List ℕ → Bool
check_right_to used b = eqb (house_check (take used b ++ zeros (508 - used))) (num 508 4 b)
