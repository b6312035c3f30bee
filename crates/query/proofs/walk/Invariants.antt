-- Invariant: what was noted of each name, and the pieces that are left, say what the whole query says. Assumes nothing.
use mathlib.Core.Path.{◌≡◌}
use Rattle.query.proofs.Laws.{Walking}
use Rattle.query.proofs.walk.Given as goal

abbrev pub invariant-loop-piece : goal.invariant-loop-piece
invariant-loop-piece l = (l.piece-iterator.query.now ≡ l.q) × Walking l.q l.a l.b l.c l.d l.piece-iterator.place.end l.at
