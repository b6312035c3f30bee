-- What a program says when a frame ends it.
use Rattle.std.specs.Prelude.{List, ℕ}
use Rattle.protocol.specs.Bytes.{ascii}
use Rattle.lent.specs.declared.bad.Bad.{Bad}
use Rattle.lent.specs.declared.bad.Bad.TheVariants as bad

abbrev pub reason_of : Bad → List ℕ
reason_of bad.Cut = ascii "the frame is cut or too large"
reason_of bad.Unknown = ascii "the frame is unknown"
