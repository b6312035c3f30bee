-- Laws of writing into a lent buffer, for any writer; what `Room` and `Wrote` mean is in protocol's Written.
--     then        two writes in a row are one write of both texts; room_first, room_next: there is room for each
--     Left        of what is to be written, `rest` is left, and what stands there is right so far
--     left_start  nothing is written yet        left_room   there is room for the next part
--     left_put    a part was written            left_byte   a byte was stored
--     left_done   nothing is left: all was written
--     Due         the same for a text in parts: due_start, due_room, due_put, due_done
-- Assumes nothing.
use mathlib.Core.Path.{◌≡◌, refl, sym, ap, ◌∙◌}
use mathlib.Core.List.{List, [], ◌∷◌, ◌++◌, append_assoc}
use Prim.Native.Nat.{ℕ, ◌+◌, ◌≤◌, ◌<◌}
use native.Mathlib.Nat.{add-zero}
use native.Mathlib.Numerals.{add-one}
use native.Mathlib.Omega.{arith}
use lib.ListN.{length, take, drop, set, length-append, length-set, take-append-drop}
use lib.Seq.{take_at, drop-append-add, drop-drop, length-take-le, set_split}
use Rattle.protocol.specs.Bytes.{spliced, joined}
use Rattle.protocol.specs.Written.{Room, Wrote}

pub splice_nil : (d : List ℕ) (at : ℕ) → spliced d at [] ≡ d
unfolding spliced
splice_nil d at = rw add-zero (take-append-drop at d)

head_length : (d t : List ℕ) (at : ℕ) → at ≤ length d → length (take at d ++ t) ≡ at + length t
head_length d t at h = length-append (take at d) t ∙ ap (λ (k : ℕ). k + length t) (length-take-le at d h)

-- what is written in two parts
pub splice_append : (d a b : List ℕ) (at : ℕ) → at + length a ≤ length d → spliced (spliced d at a) (at + length a) b ≡ spliced d at (a ++ b)
unfolding spliced
splice_append d a b at h =
    let h₁ : at ≤ length d = omega arith in
    let p : List ℕ = take at d ++ a in
    let r : List ℕ = drop (at + length a) d in
    let lp : length p ≡ at + length a = head_length d a at h₁ in
    let e : take at d ++ (a ++ r) ≡ p ++ r = sym (append_assoc (take at d) a r) in
    let t : take (at + length a) (p ++ r) ≡ p = take_at p r (at + length a) lp in
    let k : at + length a + length b ≡ length p + length b = ap (λ (n : ℕ). n + length b) (sym lp) in
    let s : drop (at + length a + length b) (p ++ r) ≡ drop (length b) r = ap (λ (n : ℕ). drop n (p ++ r)) k ∙ drop-append-add p r (length b) in
    let u : drop (length b) r ≡ drop (at + length a + length b) d = drop-drop (length b) (at + length a) d in
    let v : at + length a + length b ≡ at + length (a ++ b) = omega (arith, length-append a b) in
    ap (λ (l : List ℕ). take (at + length a) l ++ (b ++ drop (at + length a + length b) l)) e
    ∙ ap (λ (l : List ℕ). l ++ (b ++ drop (at + length a + length b) (p ++ r))) t
    ∙ ap (λ (l : List ℕ). p ++ (b ++ l)) (s ∙ u ∙ ap (λ (n : ℕ). drop n d) v)
    ∙ append_assoc (take at d) a (b ++ drop (at + length (a ++ b)) d)
    ∙ ap (λ (l : List ℕ). take at d ++ l) (sym (append_assoc a b (drop (at + length (a ++ b)) d)))

pub splice_byte : (d : List ℕ) (at b : ℕ) → at < length d → set d at b ≡ spliced d at (b ∷ [])
unfolding spliced
splice_byte d at b h = set_split d at b h ∙ ap (λ (k : ℕ). take at d ++ b ∷ drop k d) (sym (add-one at))

-- of `whole`, which is to stand at `at` of d, `rest` is left to write, at `to` of e
pub record Left (d : List ℕ) (at : ℕ) (whole e : List ℕ) (to : ℕ) (rest : List ℕ) : Type 0 where
  pub aim : spliced e to rest ≡ spliced d at whole
  pub ends : to + length rest ≡ at + length whole
  pub room : at + length whole ≤ length d
  pub same : length e ≡ length d

pub left_start : (d : List ℕ) (at : ℕ) (whole : List ℕ) → at + length whole ≤ length d → Left d at whole d at whole
left_start d at whole h = record { aim = refl; ends = refl; room = h; same = refl }

pub left_done : {d whole e : List ℕ} {at to : ℕ} → Left d at whole e to [] → Wrote d at e to whole
left_done {d} {whole} {e} {at} {to} l =
    record { holds = sym (splice_nil e to) ∙ l.aim; moves = sym (add-zero to) ∙ l.ends; room = omega (arith, l.ends, l.room); same = l.same }

pub left_room : {d whole e all : List ℕ} {at to : ℕ} (a rest : List ℕ) → Left d at whole e to all → all ≡ a ++ rest → to + length a ≤ length e
left_room a rest l e = omega (arith, l.ends, l.room, l.same, ap length e, length-append a rest)

pub left_put : {d whole e f a all : List ℕ} {at to next : ℕ} (rest : List ℕ) → Left d at whole e to all → all ≡ a ++ rest → Wrote e to f next a → Left d at whole f next rest
left_put {d} {whole} {e} {f} {a} {all} {at} {to} {next} rest l q w =
    record {
      aim =
          ap (λ (x : List ℕ). spliced x next rest) w.holds ∙ ap (λ (n : ℕ). spliced (spliced e to a) n rest) w.moves ∙ splice_append e a rest to (left_room a rest l q)
          ∙ ap (spliced e to) (sym q) ∙ l.aim;
      ends = omega (arith, l.ends, w.moves, ap length q, length-append a rest);
      room = l.room;
      same = w.same ∙ l.same;
    }

-- nothing written
pub wrote_none : (d : List ℕ) (at : ℕ) → at ≤ length d → Wrote d at d at []
wrote_none d at h = record { holds = sym (splice_nil d at); moves = sym (add-zero at); room = h; same = refl }

-- a byte stored
pub wrote_byte : (d : List ℕ) (at b : ℕ) → at < length d → Wrote d at (set d at b) (at + 1) (b ∷ [])
wrote_byte d at b h = record { holds = splice_byte d at b h; moves = refl; room = omega arith; same = length-set d at b }

-- two writes in a row are one write of both texts
pub then : {d e f a b : List ℕ} {at to next : ℕ} → Wrote d at e to a → Wrote e to f next b → Wrote d at f next (a ++ b)
then {d} {e} {f} {a} {b} {at} {to} {next} v w =
    record {
      holds =
          w.holds ∙ ap (λ (x : List ℕ). spliced x to b) v.holds ∙ ap (λ (n : ℕ). spliced (spliced d at a) n b) v.moves
          ∙ splice_append d a b at (omega (arith, v.moves, v.room));
      moves = omega (arith, v.moves, w.moves, length-append a b);
      room = omega (arith, v.same, w.room);
      same = w.same ∙ v.same;
    }

-- where there is room for both, there is for the first, and then for the second
pub room_first : (d : List ℕ) (at : ℕ) (a b : List ℕ) → Room d at (a ++ b) → Room d at a
room_first d at a b r = record { fits = omega (arith, r.fits, length-append a b) }

pub room_next : (d e : List ℕ) (at to : ℕ) (a b : List ℕ) → Room d at (a ++ b) → Wrote d at e to a → Room e to b
room_next d e at to a b r w = record { fits = omega (arith, r.fits, w.moves, w.same, length-append a b) }

-- what was written at the start of the buffer is read there
pub read_back : (d e t : List ℕ) (n : ℕ) → Wrote d 0 e n t → take n e ≡ t
unfolding spliced
read_back d e t n w =
    let k : length t ≡ n = omega (arith, w.moves) in
    ap (take n) w.holds ∙ take_at t (drop (0 + length t) d) n k

-- a text that is another's equal was written as well, and has room where the other has
pub wrote_as : {d e s t : List ℕ} {at to : ℕ} → s ≡ t → Wrote d at e to s → Wrote d at e to t
wrote_as q w = rw q at w

pub room_as : {d s t : List ℕ} {at : ℕ} → s ≡ t → Room d at s → Room d at t
room_as q r = rw q at r

pub left_byte : {d whole e all : List ℕ} {at to b : ℕ} (rest : List ℕ) → Left d at whole e to all → all ≡ b ∷ rest → Left d at whole (set e to b) (to + 1) rest
left_byte {d} {whole} {e} {all} {at} {to} {b} rest l q = left_put {a = b ∷ []} rest l q (wrote_byte e to b (omega (arith, l.ends, l.room, l.same, ap length q)))

pub left_lt : {d whole e all : List ℕ} {at to : ℕ} → Left d at whole e to all → 0 < length all → to < length e
left_lt l h = omega (arith, l.ends, l.room, l.same)

-- a text in parts: what is due at `to` of e is the parts ps
pub record Due (d : List ℕ) (at : ℕ) (whole e : List ℕ) (to : ℕ) (ps : List (List ℕ)) : Type 0 where
  pub left : Left d at whole e to (joined ps)

pub due_start : (d : List ℕ) (at : ℕ) (ps : List (List ℕ)) → Room d at (joined ps) → Due d at (joined ps) d at ps
due_start d at ps h = record { left = left_start d at (joined ps) h.fits }

pub due_room : {d whole e : List ℕ} {at to : ℕ} {p : List ℕ} {ps : List (List ℕ)} → Due d at whole e to (p ∷ ps) → Room e to p
unfolding joined
due_room {p = p} {ps = ps} u = record { fits = left_room p (joined ps) u.left refl }

pub due_put : {d whole e f : List ℕ} {at to next : ℕ} {p : List ℕ} {ps : List (List ℕ)} → Due d at whole e to (p ∷ ps) → Wrote e to f next p → Due d at whole f next ps
unfolding joined
due_put {ps = ps} u w = record { left = left_put (joined ps) u.left refl w }

pub due_done : {d whole e : List ℕ} {at to : ℕ} → Due d at whole e to [] → Wrote d at e to whole
unfolding joined
due_done u = left_done u.left
