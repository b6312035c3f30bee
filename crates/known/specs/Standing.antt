-- Where a service stands in a register.
use Rattle.std.specs.Prelude.{List, ℕ, Option, Some, None}
use Rattle.protocol.specs.Bytes.{if}
use Rattle.protocol.specs.Register.{Entry, registered}
use Rattle.register.specs.Blockwise.{place_of}

-- the place of the first entry with a service, if any has it
unfoldable pub standing : List ℕ → List Entry → Option ℕ
standing s es = if (registered s es) (Some (place_of s es)) None
