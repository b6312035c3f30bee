-- Where the way of a query leads.
use Rattle.std.specs.Prelude.{List, ℕ}
use Rattle.protocol.specs.Held.{In}
use Rattle.protocol.specs.declared.Way.{Way}
use Rattle.protocol.specs.declared.Way.TheVariants.{Unknown, SignedOn, Away, Form}

-- the session that it is signed on by is in the table
abbrev pub GoesIn : Way → List ℕ → Type 0
GoesIn Unknown b = Unit
GoesIn (SignedOn s) b = In s b
GoesIn Away b = Unit
GoesIn Form b = Unit
