-- Looking up: which rung of the paths' ladder holds, where a query starts, and what a walk has noted of a name at each of its steps. Assumes nothing.
use mathlib.Core.Path.{◌≡◌, refl, sym, ap, ◌∙◌}
use mathlib.Core.Bool.{Bool, true, false}
use mathlib.Core.List.{List, []}
use Prim.Native.Nat.{ℕ, suc, ◌+◌, ◌-◌, ◌≤◌, ◌<◌}
use native.Mathlib.Numerals.{add-one}
use native.Mathlib.Omega.{arith}
use borrow.Author.Tests.{eqb-true, ne_eqb}
use lib.Dec.{eqb}
use lib.ListN.{length, take, drop}
use Rattle.std.specs.Prelude.{Some, None}
use Rattle.protocol.specs.Bytes.{if, same, up_to, part}
use Rattle.protocol.specs.Request.{pieces, name_in, value_in, count_named, first_named, occurrences, raw_value, path_named, path_part, query_part}
use Rattle.protocol.specs.declared.Path.{Path}
use Rattle.protocol.proofs.Pieces.{take-up_to, past-drop}
use Rattle.text.specs.First.{FirstAt}
use Rattle.text.proofs.Laws.{tail_part}
use Rattle.query.specs.Piece.{piece_at, piece_after, gives_piece}
use Rattle.query.specs.Place.{Inside, noted_by, raw_in, Noted, Walked}
use Rattle.query.specs.declared.Piece.{Piece}
use Rattle.query.specs.declared.Reader.{Reader}
use Rattle.query.specs.declared.Place.{Place}
use Rattle.query.specs.declared.Places.{Places}
use Rattle.query.proofs.Pieces.{Found, told_end, told_piece, drop_end}

-- a path is told apart by a ladder of comparisons
pub rung_yes : (p l : List ℕ) (x rest : Path) (r : Bool) → r ≡ same p l → r ≡ true → x ≡ if (same p l) x rest
rung_yes p l x rest r e f = rw (← e, f)

pub rung_no : (p l : List ℕ) (x y rest : Path) (r : Bool) → r ≡ same p l → r ≡ false → y ≡ rest → y ≡ if (same p l) x rest
rung_no p l x y rest r e f h = rw (← e, f) h

-- the path ends, and the query starts, at the first `?`
pub path_cut : (t : List ℕ) (n : ℕ) (r : Path) → FirstAt 63 t n → r ≡ path_named (take n t) → r ≡ path_named (path_part t)
path_cut t n r f e = e ∙ ap path_named (rw f.is (take-up_to 63 t))

pub query_some : (t : List ℕ) (n : ℕ) → FirstAt 63 t n → take (length t - (n + 1)) (drop (n + 1) t) ≡ query_part t
query_some t n f = tail_part t (n + 1) ∙ sym (past-drop 63 t ∙ ap (λ (k : ℕ). drop k t) (ap suc (sym f.is) ∙ sym (add-one n)))

pub query_none : (t : List ℕ) (n : ℕ) → FirstAt 63 t n → length t ≤ n → take 0 t ≡ query_part t
query_none t n f h = sym (past-drop 63 t ∙ drop_end t (suc (length (up_to 63 t))) (omega (arith, f.is)))

-- a name noted in the pieces up to a place: what was noted and the pieces that are left say what the whole query says
pub record Noting (q name : List ℕ) (at : ℕ) (p : Place) : Type 0 where
  pub count : occurrences name q ≡ p.count + count_named name (pieces (drop at q))
  pub raw : raw_value name q ≡ if (eqb p.count 0) (first_named name (pieces (drop at q))) (raw_in q p)
  pub none : eqb p.count 0 ≡ true → raw_in q p ≡ []
  pub most : p.count ≤ at
  pub inside : Inside q p.from p.to

noting_start : (q name : List ℕ) (p : Place) → p.count ≡ 0 → p.from ≡ 0 → p.to ≡ 0 → Noting q name 0 p
unfolding occurrences raw_value
noting_start q name p z f e =
    record { count = omega (arith, z); raw = rw z; none = λ i. rw (f, e); most = omega arith; inside = record { ordered = omega arith; ends = omega arith } }

-- and four names
pub record Walking (q a b c d : List ℕ) (at : ℕ) (w : Places) : Type 0 where
  pub first : Noting q a at w.a
  pub second : Noting q b at w.b
  pub third : Noting q c at w.c
  pub fourth : Noting q d at w.d

-- at first nothing is noted of any
abbrev Nothing : Place → Type 0
Nothing p = (p.count ≡ 0) × (p.from ≡ 0) × (p.to ≡ 0)

pub walking_start : (q a b c d : List ℕ) (at : ℕ) (w : Places) → at ≡ 0 → Nothing w.a × Nothing w.b × Nothing w.c × Nothing w.d → Walking q a b c d at w
walking_start q a b c d at w z n =
    rw z
    (record {
      first = noting_start q a w.a n.0.0 n.0.1 n.0.2;
      second = noting_start q b w.b n.1.0 n.1.1 n.1.2;
      third = noting_start q c w.c n.2.0 n.2.1 n.2.2;
      fourth = noting_start q d w.d n.3.0 n.3.1 n.3.2;
    })

module _ (q : List ℕ) (p r : Piece) (e : r ≡ piece_after q p) where
  -- no piece is left: what was noted is what the query says
  module _ (k : r.start ≡ r.end) where
    done : (name : List ℕ) (w : Place) → Noting q name p.end w → Noted q name w
    unfolding count_named first_named
    done name w n =
        let z : pieces (drop p.end q) ≡ [] = told_end q p r e k in
        record { count = omega (arith, n.count, ap (count_named name) z); raw = go (eqb w.count 0) refl (n.raw ∙ rw z); inside = n.inside }
      where
        go : (t : Bool) → eqb w.count 0 ≡ t → raw_value name q ≡ if t [] (raw_in q w) → raw_in q w ≡ raw_value name q
        go true f g = n.none f ∙ sym g
        go false f g = sym g

    pub walked : (a b c d : List ℕ) (w : Places) → Walking q a b c d p.end w → Walked q a b c d w
    walked a b c d w h = record { first = done a w.a h.first; second = done b w.b h.second; third = done c w.c h.third; fourth = done d w.d h.fourth }

  -- a piece was found
  module _ (k : r.start ≡ r.end → ⊥) where
    piece : Found q p.end r
    piece = told_piece q p r e k

    pub name_starts : r.start ≤ r.mid
    name_starts = piece.starts

    pub name_ends : r.mid ≤ length q
    name_ends = omega (arith, piece)

    value_inside : Inside q r.value r.end
    value_inside = record { ordered = piece.ends; ends = piece.inside }

    -- what is left to read falls
    pub goes_on : length q - r.end < length q - p.end
    goes_on = omega (arith, piece)

    module _ (name : List ℕ) (w : Place) (n : Noting q name p.end w) where
      abbrev left : List (List ℕ)
      left = pieces (drop r.end q)

      abbrev value : List ℕ
      value = value_in (piece_at q r.start)

      more : eqb (w.count + 1) 0 ≡ false
      more = ne_eqb (w.count + 1) 0 (λ z. omega arith)

      turned : (h z : Bool) → eqb w.count 0 ≡ z → occurrences name q ≡ w.count + (if h 1 0 + count_named name left)
          → raw_value name q ≡ if z (if h value (first_named name left)) (raw_in q w)
          → Noting q name r.end (if h (if z (record { count = w.count + 1; from = r.value; to = r.end }) (record { count = w.count + 1; from = w.from; to = w.to })) w)
      turned true true f c g =
          record {
            count = omega arith;
            raw = rw more (g ∙ sym piece.value);
            none = λ i. absurd (omega (arith, eqb-true (w.count + 1) 0 i));
            most = omega (arith, piece, n.most);
            inside = value_inside;
          }
      turned true false f c g =
          record {
            count = omega arith;
            raw = rw more g;
            none = λ i. absurd (omega (arith, eqb-true (w.count + 1) 0 i));
            most = omega (arith, piece, n.most);
            inside = n.inside;
          }
      turned false z f c g = record { count = omega arith; raw = rw f g; none = n.none; most = omega (arith, piece, n.most); inside = n.inside }

      -- it is noted
      pub noting_turn : (v : Place) → v ≡ noted_by (same (part r.start (r.mid - r.start) q) name) r.value r.end w → Noting q name r.end v
      unfolding noted_by count_named first_named
      noting_turn v u =
          let here : Bool = same (part r.start (r.mid - r.start) q) name in
          let h : same (name_in (piece_at q r.start)) name ≡ here = sym (ap (λ (l : List ℕ). same l name) piece.name) in
          rw u
          (turned here (eqb w.count 0) refl
          (n.count ∙ ap (λ (ps : List (List ℕ)). w.count + count_named name ps) piece.first ∙ ap (λ (b : Bool). w.count + (if b 1 0 + count_named name left)) h)
          (n.raw ∙ ap (λ (ps : List (List ℕ)). if (eqb w.count 0) (first_named name ps) (raw_in q w)) piece.first
          ∙ ap (λ (b : Bool). if (eqb w.count 0) (if b value (first_named name left)) (raw_in q w)) h))

-- what a reader of the query gives
module _ (q : List ℕ) (r s : Reader) (h : r.query.now ≡ q) where
  stands_at : s.place ≡ piece_after r.query.now r.place → s.place ≡ piece_after q r.place
  stands_at e = e ∙ ap (λ (l : List ℕ). piece_after l r.place) h

  pub given_none : gives_piece r None s → (a b c d : List ℕ) (w : Places) → Walking q a b c d r.place.end w → Walked q a b c d w
  given_none g = walked q r.place s.place (stands_at g.1) g.2

  module _ (p : Piece) (g : gives_piece r (Some p) s) where
    pub given_next : p ≡ piece_after q r.place
    given_next = g.2.0 ∙ stands_at g.1

    pub given_some : p.start ≡ p.end → ⊥
    given_some = rw (g.2.0) (g.2.1)

    pub given_starts : p.start ≤ p.mid
    given_starts = name_starts q r.place p given_next given_some

    pub given_ends : p.mid ≤ length q
    given_ends = name_ends q r.place p given_next given_some
