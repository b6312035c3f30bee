-- Two digits a byte: 256 bytes fill the digits.
use Rattle.std.proofs.Common.{◌≡◌, ℕ, ◌≤◌, List, length, arith, rules}
use Rattle.protocol.specs.Bytes.{hex}
use Rattle.protocol.specs.Written.{Room}
use Rattle.protocol.proofs.Sizes.{length-hex}
use Rattle.replay.proofs.line.write_digits.Goals as goal

digits_fit : (digits bytes : List ℕ) → 512 ≡ length digits → length bytes ≤ 256 → Room digits 0 (hex bytes)
digits_fit digits bytes n h = record { fits = omega (arith, length-hex bytes) }

pub put_hex-n-requires : goal.put_hex-n-requires
put_hex-n-requires g c = search (rules, digits_fit)
