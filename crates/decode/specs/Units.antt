-- What is left of a raw value, read a unit at a time.
use Rattle.std.specs.Prelude.{List, ℕ}
use Rattle.protocol.specs.Request.{decoded}
use Rattle.decode.specs.declared.Units.{Units}

abbrev pub left : Units → List ℕ
left u = decoded u.in_body u.rest.now
