-- A reader's step: the piece after a piece. It runs to the next `&` or to the end, its name to its first `=` or to its end, and its value
-- is what follows. Where no piece is left, that is an empty one.
use Rattle.std.specs.Prelude.{◌≡◌, List, [], ◌∷◌, ℕ, suc, ◌+◌, ◌-◌, eqb, length, drop, Option, MatchOption}
use Rattle.protocol.specs.Bytes.{if, up_to}
use Rattle.protocol.specs.Request.{name_in, value_in}
use Rattle.query.specs.declared.Piece.{Piece}
use Rattle.query.specs.declared.Reader.{Reader}

-- how many `&` lead a text: the empty pieces, which are skipped
unfoldable pub leading : List ℕ → ℕ
leading [] = 0
leading (b ∷ s) = if (eqb b 38) (suc (leading s)) 0

-- the piece that starts at a place
abbrev pub piece_at : List ℕ → ℕ → List ℕ
piece_at q start = up_to 38 (drop start q)

-- and where its name and its value lie
unfoldable pub piece_from : List ℕ → ℕ → Piece
piece_from q start =
    record {
      start = start;
      mid = start + length (name_in (piece_at q start));
      value = start + length (piece_at q start) - length (value_in (piece_at q start));
      end = start + length (piece_at q start);
    }

unfoldable pub piece_after : List ℕ → Piece → Piece
piece_after q p = piece_from q (p.end + leading (drop p.end q))

-- what a reader gives: its next piece, on which it then stands, or nothing where none is left
abbrev pub gives_piece : Reader → Option Piece → Reader → Type 0
gives_piece r o s =
    (s.query ≡ r.query) × (s.place ≡ piece_after r.query.now r.place)
    × MatchOption o (s.place.start ≡ s.place.end) (λ p. (p ≡ s.place) × (s.place.start ≡ s.place.end → ⊥))
