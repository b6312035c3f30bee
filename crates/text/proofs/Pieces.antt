-- A text put piece by piece: where there is room for the whole there is room for each piece behind those before it, and the pieces put
-- one after the other are the whole; a line that may be absent; and the room that an answer finds. The premises stand in the order of the
-- calls, in which `search` finds them within its bounds. Assumes nothing.
use mathlib.Core.Path.{◌≡◌, refl, sym}
use mathlib.Core.List.{List, [], ◌∷◌, append-nil}
use Prim.Native.Nat.{ℕ, ◌≤◌}
use native.Mathlib.Omega.{arith}
use lib.ListN.{length}
use Rattle.protocol.specs.Answers.{Reply, escaped, line_if, reply_text}
use Rattle.protocol.specs.Bytes.{joined}
use Rattle.protocol.specs.Written.{Room, Wrote}
use Rattle.protocol.proofs.Sizes.{Small, small_fits}
use Rattle.text.proofs.Splice.{room_first, room_next, then, wrote_as, wrote_none}

-- there is room for each piece
pub piece_1 : (d p : List ℕ) (ps : List (List ℕ)) (at : ℕ) → Room d at (joined (p ∷ ps)) → Room d at p
unfolding joined
piece_1 d p ps at r = room_first d at p (joined ps) r

behind : (d e p : List ℕ) (ps : List (List ℕ)) (at to : ℕ) → Room d at (joined (p ∷ ps)) → Wrote d at e to p → Room e to (joined ps)
unfolding joined
behind d e p ps at to r w = room_next d e at to p (joined ps) r w

pub piece_2 : (d p q : List ℕ) (ps : List (List ℕ)) (at : ℕ) → Room d at (joined (p ∷ q ∷ ps)) → (e : List ℕ) (to : ℕ) → Wrote d at e to p → Room e to q
piece_2 d p q ps at r e to w = piece_1 e q ps to (behind d e p (q ∷ ps) at to r w)

pub piece_3 : (d p q s : List ℕ) (ps : List (List ℕ)) (at : ℕ) → Room d at (joined (p ∷ q ∷ s ∷ ps))
    → (e : List ℕ) (to : ℕ) → Wrote d at e to p → (f : List ℕ) (n : ℕ) → Wrote e to f n q → Room f n s
piece_3 d p q s ps at r e to w = piece_2 e q s ps to (behind d e p (q ∷ s ∷ ps) at to r w)

pub piece_4 : (d p q s t : List ℕ) (ps : List (List ℕ)) (at : ℕ) → Room d at (joined (p ∷ q ∷ s ∷ t ∷ ps))
    → (e : List ℕ) (to : ℕ) → Wrote d at e to p → (f : List ℕ) (n : ℕ) → Wrote e to f n q → (g : List ℕ) (m : ℕ) → Wrote f n g m s → Room g m t
piece_4 d p q s t ps at r e to w = piece_3 e q s t ps to (behind d e p (q ∷ s ∷ t ∷ ps) at to r w)

pub piece_5 : (d p q s t u : List ℕ) (ps : List (List ℕ)) (at : ℕ) → Room d at (joined (p ∷ q ∷ s ∷ t ∷ u ∷ ps))
    → (e : List ℕ) (to : ℕ) → Wrote d at e to p → (f : List ℕ) (n : ℕ) → Wrote e to f n q → (g : List ℕ) (m : ℕ) → Wrote f n g m s
    → (h : List ℕ) (k : ℕ) → Wrote g m h k t → Room h k u
piece_5 d p q s t u ps at r e to w = piece_4 e q s t u ps to (behind d e p (q ∷ s ∷ t ∷ u ∷ ps) at to r w)

-- together they are the whole
pub last_piece : (d e p : List ℕ) (at to : ℕ) → Wrote d at e to p → Wrote d at e to (joined (p ∷ []))
unfolding joined
last_piece d e p at to w = wrote_as (sym (append-nil p)) w

pub more_pieces : (d e f p : List ℕ) (ps : List (List ℕ)) (at to n : ℕ) → Wrote d at e to p → Wrote e to f n (joined ps) → Wrote d at f n (joined (p ∷ ps))
unfolding joined
more_pieces d e f p ps at to n w v = then w v

pub four_pieces : (d p q s t : List ℕ) (at : ℕ) (e : List ℕ) (to : ℕ) → Wrote d at e to p → (f : List ℕ) (n : ℕ) → Wrote e to f n q → (g : List ℕ) (m : ℕ) → Wrote f n g m s
    → (h : List ℕ) (k : ℕ) → Wrote g m h k t → Wrote d at h k (joined (p ∷ q ∷ s ∷ t ∷ []))
four_pieces d p q s t at e to w f n v g m x h k y =
    more_pieces d e h p _ at to k w (more_pieces e f h q _ to n k v (more_pieces f g h s _ n m k x (last_piece g h t m k y)))

pub five_pieces : (d p q s t u : List ℕ) (at : ℕ) (e : List ℕ) (to : ℕ) → Wrote d at e to p → (f : List ℕ) (n : ℕ) → Wrote e to f n q → (g : List ℕ) (m : ℕ) → Wrote f n g m s
    → (h : List ℕ) (k : ℕ) → Wrote g m h k t → (i : List ℕ) (j : ℕ) → Wrote h k i j u → Wrote d at i j (joined (p ∷ q ∷ s ∷ t ∷ u ∷ []))
five_pieces d p q s t u at e to w f n v g m x h k y i j z = more_pieces d e i p _ at to j w (four_pieces e q s t u to f n v g m x h k y i j z)

-- a line, or nothing where its text is absent
line_none : (a s b : List ℕ) → length s ≡ 0 → line_if a s b ≡ []
line_none a [] b z = refl
line_none a (x ∷ s) b z = absurd (omega arith)

pub line-pieces : (a s b : List ℕ) → (length s ≡ 0 → ⊥) → line_if a s b ≡ joined (a ∷ escaped s ∷ b ∷ [])
unfolding joined
line-pieces a [] b z = absurd (z refl)
line-pieces a (x ∷ s) b z = rw (append-nil b)

pub no_line : (d a s b : List ℕ) (at : ℕ) → length s ≡ 0 → at ≤ length d → Wrote d at d at (line_if a s b)
no_line d a s b at z h = wrote_as (sym (line_none a s b z)) (wrote_none d at h)

-- the output has room for every answer that is small
pub fits : (d : List ℕ) {r : Reply} → 8192 ≤ length d → Small r → Room d 0 (reply_text r)
fits d h s = record { fits = omega (arith, small_fits s) }
