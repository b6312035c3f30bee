-- A byte and a number of four bytes that were put into a frame, and pieces that were put one behind the other. Assumes nothing.
use mathlib.Core.Path.{◌≡◌, ap, ◌∙◌}
use mathlib.Core.List.{List, [], ◌∷◌}
use Prim.Native.Nat.{ℕ, ◌+◌, ◌%◌, ◌≤◌}
use native.Mathlib.Omega.{arith}
use lib.ListN.{length, take}
use lib.Seq.{take-length}
use Rattle.std.specs.Int.{from_bool}
use Rattle.protocol.specs.Answers.{number_of, data_of}
use Rattle.protocol.specs.Bytes.{bytes_of, spliced, joined}
use Rattle.protocol.specs.Written.{Wrote}
use Rattle.protocol.specs.declared.Outcome.{Outcome}
use Rattle.protocol.proofs.Laws.{length_bytes}
use Rattle.protocol.proofs.Sizes.{length-spliced}
use Rattle.text.proofs.Splice.{wrote_as}
use Rattle.text.proofs.Pieces.{last_piece, more_pieces}
use Rattle.pipe.specs.Frames.{letter_alone, refused, sized, outcome_numbers, outcome_frame}

pub number_wrote : (d e : List ℕ) (at v to : ℕ) → at + 4 ≤ length d → e ≡ spliced d at (bytes_of 4 v) → to ≡ at + 4 → Wrote d at e to (bytes_of 4 v)
number_wrote d e at v to h p q =
    let n : length (bytes_of 4 v) ≡ 4 = length_bytes 4 v in
    record { holds = p; moves = omega arith; room = omega arith; same = ap length p ∙ length-spliced d at (bytes_of 4 v) (omega arith) }

pub two_wrote : (d e f p q : List ℕ) (at n m : ℕ) → Wrote d at e n p → Wrote e n f m q → Wrote d at f m (joined (p ∷ q ∷ []))
two_wrote d e f p q at n m v w = more_pieces d e f p (q ∷ []) at n m v (last_piece e f q n m w)

pub three_wrote : (d e f g p q r : List ℕ) (at n m k : ℕ) → Wrote d at e n p → Wrote e n f m q → Wrote f m g k r → Wrote d at g k (joined (p ∷ q ∷ r ∷ []))
three_wrote d e f g p q r at n m k v w x = more_pieces d e g p (q ∷ r ∷ []) at n k v (two_wrote e f g q r n m k w x)

-- a letter and a refusal, as it was told
pub refusal_wrote : (d e f : List ℕ) (letter refusal k n m : ℕ) → Wrote d 4 e n (letter_alone letter) → k ≡ refusal → Wrote e n f m (bytes_of 4 k) → Wrote d 4 f m (refused letter refusal)
refusal_wrote d e f letter refusal k n m v q w = two_wrote d e f (letter_alone letter) (bytes_of 4 refusal) 4 n m v (wrote_as (ap (bytes_of 4) q) w)

-- a text that is cut to a length
pub cut_wrote : (d e s t : List ℕ) (at n : ℕ) → s ≡ t → Wrote d at e n (sized s) → Wrote d at e n (sized t)
cut_wrote d e s t at n q w = wrote_as (ap (λ (x : List ℕ). sized x) q) w

-- the numbers of an outcome, each as it was told
pub outcome_wrote : (letter : ℕ) (o : Outcome) (d e f g h i j : List ℕ) (at n₁ n₂ n₃ n₄ n₅ n₆ a b s c k : ℕ)
    → Wrote d at e n₁ (refused letter o.refusal) → a ≡ number_of o.answer → Wrote e n₁ f n₂ (a % 256 ∷ []) → b ≡ data_of o.answer → Wrote f n₂ g n₃ (b % 256 ∷ [])
    → s ≡ o.status → Wrote g n₃ h n₄ (bytes_of 4 s) → c ≡ from_bool o.cookie_cleared → Wrote h n₄ i n₅ (c ∷ []) → k ≡ o.callback_serial → Wrote i n₅ j n₆ (bytes_of 4 k)
    → Wrote d at j n₆ (outcome_numbers letter o)
outcome_wrote letter o d e f g h i j at n₁ n₂ n₃ n₄ n₅ n₆ a b s c k w₁ ea w₂ eb w₃ es w₄ ec w₅ ek w₆ =
    let v₂ : Wrote e n₁ f n₂ (number_of o.answer % 256 ∷ []) = wrote_as (ap (λ (x : ℕ). x % 256 ∷ []) ea) w₂ in
    let v₃ : Wrote f n₂ g n₃ (data_of o.answer % 256 ∷ []) = wrote_as (ap (λ (x : ℕ). x % 256 ∷ []) eb) w₃ in
    let v₄ : Wrote g n₃ h n₄ (bytes_of 4 o.status) = wrote_as (ap (bytes_of 4) es) w₄ in
    let v₅ : Wrote h n₄ i n₅ (from_bool o.cookie_cleared ∷ []) = wrote_as (ap (λ (x : ℕ). x ∷ []) ec) w₅ in
    let v₆ : Wrote i n₅ j n₆ (bytes_of 4 o.callback_serial) = wrote_as (ap (bytes_of 4) ek) w₆ in
    more_pieces d e j (refused letter o.refusal) _ at n₁ n₆ w₁
    (more_pieces e f j (number_of o.answer % 256 ∷ []) _ n₁ n₂ n₆ v₂ (more_pieces f g j (data_of o.answer % 256 ∷ []) _ n₂ n₃ n₆ v₃ (three_wrote g h i j _ _ _ n₃ n₄ n₅ n₆ v₄ v₅ v₆)))

-- and what was given out behind them
pub outcome_told : (letter : ℕ) (o : Outcome) (text cookie d e f g s t : List ℕ) (n m k : ℕ) → Wrote d 4 e n (outcome_numbers letter o) → s ≡ take o.length text → Wrote e n f m (sized s)
    → t ≡ take o.cookie_length cookie → Wrote f m g k (sized t) → Wrote d 4 g k (outcome_frame letter o text cookie)
outcome_told letter o text cookie d e f g s t n m k v p w q x =
    three_wrote d e f g (outcome_numbers letter o) (sized (take o.length text)) (sized (take o.cookie_length cookie)) 4 n m k v
    (cut_wrote e f s (take o.length text) n m p w) (cut_wrote f g t (take o.cookie_length cookie) m k q x)

-- all of what was kept
pub kept_whole : (kept table : List ℕ) → kept ≡ table → take (length kept) kept ≡ table
kept_whole kept table q = take-length kept ∙ q
