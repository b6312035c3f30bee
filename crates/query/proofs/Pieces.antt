-- A reader's steps meet the pieces of the query, in their order. Assumes nothing.
use mathlib.Core.Path.{◌≡◌, refl, sym, ap, ◌∙◌}
use mathlib.Core.Bool.{Bool, true, false}
use mathlib.Core.List.{List, [], ◌∷◌}
use Prim.Native.Nat.{ℕ, zero, suc, ◌+◌, ◌-◌, ◌≤◌, ◌<◌}
use native.Mathlib.Nat.{add-zero, sub-zero, zero-sub, suc-sub-suc}
use native.Mathlib.Omega.{arith}
use borrow.Author.Tests.{eq-eqb, ne_eqb, eqb-true, ltb-true, ltb-false}
use lib.Dec.{eqb, ltb}
use lib.ListN.{length, take, drop, get_or, length-drop, drop_of_length-le}
use lib.Seq.{take-nil, drop-drop, take-take}
use Rattle.protocol.specs.Bytes.{if, up_to, past, cut_at, part}
use Rattle.protocol.specs.Request.{kept, pieces, name_in, value_in}
use Rattle.protocol.proofs.Pieces.{pieces_step, pieces_none, take-up_to, past-drop}
use Rattle.text.specs.First.{FirstAt}
use Rattle.text.proofs.Laws.{tail_part}
use Rattle.query.specs.Piece.{leading, piece_at, piece_from, piece_after}
use Rattle.query.specs.declared.Piece.{Piece}

pub drop_end : (s : List ℕ) (i : ℕ) → length s ≤ i → drop i s ≡ []
drop_end s i h = drop_of_length-le s h

up_to_most : (x : ℕ) (s : List ℕ) → length (up_to x s) ≤ length s
unfolding up_to
up_to_most x [] = omega arith
up_to_most x (b ∷ s) = elim (eqb b x) as (λ t. length (cut_at t b (up_to x s)) ≤ suc (length s)) [ true ↦ omega arith | false ↦ omega (arith, up_to_most x s) ]

-- what stands after the first x has what the whole has beyond it
past-length : (x : ℕ) (s : List ℕ) → length (past x s) ≡ length s - suc (length (up_to x s))
past-length x s = ap length (past-drop x s) ∙ length-drop (suc (length (up_to x s))) s

-- and ends the whole
past_last : (x : ℕ) (s : List ℕ) → drop (length s - length (past x s)) s ≡ past x s
past_last x s = go (ltb (length (up_to x s)) (length s)) refl
  where
    go : (t : Bool) → ltb (length (up_to x s)) (length s) ≡ t → drop (length s - length (past x s)) s ≡ past x s
    go true e =
        let l : length (up_to x s) < length s = ltb-true _ (length s) e in
        let k : length s - length (past x s) ≡ suc (length (up_to x s)) = omega (arith, past-length x s) in
        rw k (sym (past-drop x s))
    go false e =
        let l : length s ≤ length (up_to x s) = ltb-false _ (length s) e in
        drop_end s (length s - length (past x s)) (omega (arith, past-length x s)) ∙ sym (past-drop x s ∙ drop_end s (suc (length (up_to x s))) (omega arith))

-- `skip_empty`: the `&` that lead are those before the first other byte
leading_is : (s : List ℕ) (r : ℕ) → r ≤ length s → (r < length s → get_or s r 0 ≡ 38 → ⊥) → ((k : ℕ) → k < r → get_or s k 0 ≡ 38) → leading s ≡ r
unfolding leading
leading_is [] r h stop on = omega arith
leading_is (b ∷ s) zero h stop on = rw (ne_eqb b 38 (stop (omega arith)))
leading_is (b ∷ s) (suc r) h stop on = rw (eq-eqb b 38 (on 0 (omega arith))) (ap suc (leading_is s r (omega arith) (λ l e. stop (omega arith) e) (λ k l. on (suc k) (omega arith))))

module _ (q : List ℕ) (at : ℕ) where
  pub skip_none : length q ≤ at → at ≡ at + leading (drop at q)
  unfolding leading
  skip_none h = rw (drop_end q at h) (omega arith)

  abbrev rest : List ℕ
  rest = take (length q - at) (drop at q)

  pub skip_some_place : (r : ℕ) → r ≤ length rest → (r < length rest → get_or rest r 0 ≡ 38 → ⊥) → ((k : ℕ) → k < r → get_or rest k 0 ≡ 38) → at + r ≡ at + leading (drop at q)
  skip_some_place r h stop on = ap (λ (n : ℕ). at + n) (sym (leading_is rest r h stop on) ∙ ap leading (tail_part q at))

-- `next_piece`
abbrev pub placed : ℕ → ℕ → ℕ → ℕ → Piece
placed start mid value end = record { start = start; mid = mid; value = value; end = end }

module _ (q : List ℕ) (p : Piece) (start : ℕ) (s : start ≡ p.end + leading (drop p.end q)) where
  module _ (n m : ℕ) (h : start < length q) (f : FirstAt 38 (take (length q - start) (drop start q)) n) (g : FirstAt 61 (take (start + n - start) (drop start q)) m) where
    piece_is : n ≡ length (piece_at q start)
    piece_is = f.is ∙ ap (λ (l : List ℕ). length (up_to 38 l)) (tail_part q start)

    name_is : m ≡ length (name_in (piece_at q start))
    name_is =
        let k : start + n - start ≡ length (piece_at q start) = omega (arith, piece_is) in
        let e : take (start + n - start) (drop start q) ≡ piece_at q start = rw k (take-up_to 38 (drop start q)) in
        g.is ∙ ap (λ (l : List ℕ). length (up_to 61 l)) e

    by_value : (v : ℕ) → v ≡ start + n - length (value_in (piece_at q start)) → placed start (start + m) v (start + n) ≡ piece_after q p
    unfolding piece_after piece_from
    by_value v e = rw (← s, ← piece_is, ← name_is, ← e)

    pub step_piece : start + m < start + n → placed start (start + m) (start + m + 1) (start + n) ≡ piece_after q p
    step_piece l = by_value (start + m + 1) (omega (arith, past-length 61 (piece_at q start), piece_is, name_is))

    pub step_bare : start + n ≤ start + m → placed start (start + m) (start + n) (start + n) ≡ piece_after q p
    step_bare l = by_value (start + n) (omega (arith, past-length 61 (piece_at q start), piece_is, name_is))

  pub step_end : length q ≤ start → placed start start start start ≡ piece_after q p
  unfolding piece_after piece_from up_to past
  step_end h = rw (← s, drop_end q start h, sub-zero, add-zero)

-- What the steps say of the pieces

unfolded : (b : ℕ) (s : List ℕ) → b ≡ 38 → pieces (b ∷ s) ≡ pieces s
unfolding up_to past
unfolded b s e = pieces_step (b ∷ s) ∙ rw (eq-eqb b 38 e)

-- leading `&` hold no piece
skip_pieces : (s : List ℕ) → pieces s ≡ pieces (drop (leading s) s)
unfolding leading
skip_pieces [] = refl
skip_pieces (b ∷ s) = go (eqb b 38) refl (skip_pieces s)
  where
    go : (t : Bool) → eqb b 38 ≡ t → pieces s ≡ pieces (drop (leading s) s) → pieces (b ∷ s) ≡ pieces (drop (if t (suc (leading s)) 0) (b ∷ s))
    go true e later = unfolded b s (eqb-true b 38 e) ∙ later
    go false e later = refl

-- after them stands a piece, or nothing
skip_some : (s : List ℕ) → leading s < length s → 0 < length (up_to 38 (drop (leading s) s))
unfolding leading up_to
skip_some [] h = absurd (omega arith)
skip_some (b ∷ s) h = go (eqb b 38) refl (skip_some s) h
  where
    go : (t : Bool) → eqb b 38 ≡ t → (leading s < length s → 0 < length (up_to 38 (drop (leading s) s))) → if t (suc (leading s)) 0 < suc (length s)
        → 0 < length (up_to 38 (drop (if t (suc (leading s)) 0) (b ∷ s)))
    go true e later k = later (omega arith)
    go false e later k = rw e (omega arith)

-- a reader may go on at the piece's end: the `&` there leads what is left
from_end : (s : List ℕ) → pieces (past 38 s) ≡ pieces (drop (length (up_to 38 s)) s)
unfolding up_to past
from_end [] = refl
from_end (b ∷ s) = go (eqb b 38) refl (from_end s)
  where
    go : (t : Bool) → eqb b 38 ≡ t → pieces (past 38 s) ≡ pieces (drop (length (up_to 38 s)) s)
        → pieces (if t s (past 38 s)) ≡ pieces (drop (length (cut_at t b (up_to 38 s))) (b ∷ s))
    go true e later = sym (unfolded b s (eqb-true b 38 e))
    go false e later = later

kept_some : (p : List ℕ) (ps : List (List ℕ)) → 0 < length p → kept p ps ≡ p ∷ ps
kept_some [] ps h = absurd (omega arith)
kept_some (x ∷ p) ps h = refl

drop-take : (n m : ℕ) (l : List ℕ) → drop n (take m l) ≡ take (m - n) (drop n l)
drop-take zero m l = rw (sub-zero m)
drop-take (suc n) zero l = rw (zero-sub (suc n))
drop-take (suc n) (suc m) [] = sym (take-nil (suc m - suc n))
drop-take (suc n) (suc m) (x ∷ l) = rw (suc-sub-suc m n) (drop-take n m l)

-- the piece that a step found after a place: its places, and its name and value as parts of the query
pub record Found (q : List ℕ) (at : ℕ) (r : Piece) : Type 0 where
  pub first : pieces (drop at q) ≡ piece_at q r.start ∷ pieces (drop r.end q)
  pub name : part r.start (r.mid - r.start) q ≡ name_in (piece_at q r.start)
  pub value : part r.value (r.end - r.value) q ≡ value_in (piece_at q r.start)
  pub on : at ≤ r.start
  pub starts : r.start ≤ r.mid
  pub within : r.mid ≤ r.value
  pub later : r.start < r.value
  pub ends : r.value ≤ r.end
  pub inside : r.end ≤ length q

module _ (q : List ℕ) (at : ℕ) where
  abbrev start : ℕ
  start = at + leading (drop at q)

  abbrev piece : List ℕ
  piece = piece_at q start

  from_start : pieces (drop at q) ≡ pieces (drop start q)
  from_start = skip_pieces (drop at q) ∙ ap pieces (drop-drop (leading (drop at q)) at q)

  module _ (some : 0 < length piece) where
    within_query : start + length piece ≤ length q
    within_query = omega (arith, up_to_most 38 (drop start q), length-drop start q)

    name_most : length (name_in piece) ≤ length piece
    name_most = up_to_most 61 piece

    name_part : part start (start + length (name_in piece) - start) q ≡ name_in piece
    name_part =
        let e : start + length (name_in piece) - start ≡ length (name_in piece) = omega arith in
        rw e
        (sym (take-take (length (name_in piece)) (length piece) (drop start q) name_most)
        ∙ ap (take (length (name_in piece))) (take-up_to 38 (drop start q)) ∙ take-up_to 61 piece)

    value_part : part (start + length piece - length (value_in piece)) (start + length piece - (start + length piece - length (value_in piece))) q ≡ value_in piece
    value_part =
        let n : ℕ = length piece - length (value_in piece) in
        let l = past-length 61 piece in
        let a : start + length piece - length (value_in piece) ≡ start + n = omega arith in
        let b : start + length piece - (start + n) ≡ length piece - n = omega arith in
        rw (a, b)
        (ap (take (length piece - n)) (sym (drop-drop n start q)) ∙ sym (drop-take n (length piece) (drop start q))
        ∙ ap (drop n) (take-up_to 38 (drop start q)) ∙ past_last 61 piece)

    found : Found q at (piece_from q start)
    unfolding piece_from
    found =
        record {
          first =
              from_start ∙ pieces_step (drop start q) ∙ kept_some piece _ some
              ∙ ap (λ (ps : List (List ℕ)). piece ∷ ps) (from_end (drop start q) ∙ ap pieces (drop-drop (length piece) start q));
          name = name_part;
          value = value_part;
          on = omega arith;
          starts = omega arith;
          within = omega (arith, name_most, past-length 61 piece);
          later = omega (arith, name_most, past-length 61 piece);
          ends = omega arith;
          inside = within_query;
        }

module _ (q : List ℕ) (p r : Piece) (e : r ≡ piece_after q p) where
  abbrev at : ℕ
  at = p.end

  ends_at : r.end ≡ r.start + length (piece q at)
  unfolding piece_after piece_from
  ends_at = rw e

  -- no piece is left
  pub told_end : r.start ≡ r.end → pieces (drop p.end q) ≡ []
  told_end k = go (ltb (leading (drop at q)) (length (drop at q))) refl
    where
      go : (t : Bool) → ltb (leading (drop at q)) (length (drop at q)) ≡ t → pieces (drop at q) ≡ []
      go true h =
          let some = skip_some (drop at q) (ltb-true (leading (drop at q)) (length (drop at q)) h) in
          absurd (omega (arith, ends_at, rw (drop-drop (leading (drop at q)) at q) at some))
      go false h = skip_pieces (drop at q) ∙ ap pieces (drop_end (drop at q) (leading (drop at q)) (ltb-false (leading (drop at q)) (length (drop at q)) h)) ∙ pieces_none

  -- or this one was found
  pub told_piece : (r.start ≡ r.end → ⊥) → Found q p.end r
  unfolding piece_after
  told_piece n = rw e (found q at (go (length (piece q at)) refl))
    where
      go : (m : ℕ) → length (piece q at) ≡ m → 0 < length (piece q at)
      go zero z = absurd (n (omega (arith, ends_at)))
      go (suc m) z = omega arith
