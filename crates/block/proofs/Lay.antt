-- Texts written one after the other into one block are one text. Assumes nothing.
use mathlib.Core.Path.{◌≡◌, ◌∙◌}
use mathlib.Core.List.{List, ◌++◌}
use Prim.Native.Nat.{ℕ, ◌+◌, ◌-◌, ◌≤◌}
use native.Mathlib.Omega.{arith}
use lib.ListN.{length, take, drop, length-append}
use lib.Seq.{take_at, drop-drop}
use Rattle.protocol.specs.Bytes.{spliced}
use Rattle.block.proofs.Laws.{spliced_twice}

-- l is s, of m bytes, with xs written from a up to n
pub record Laid (s : List ℕ) (m a n : ℕ) (xs l : List ℕ) : Type 0 where
  pub eq : l ≡ spliced s a xs
  pub len : a + length xs ≡ n
  pub size : length s ≡ m

pub laid_first : {l : List ℕ} (s : List ℕ) (m a : ℕ) (ys : List ℕ) (k : ℕ) → length s ≡ m → length ys ≡ k → l ≡ spliced s a ys → Laid s m a (a + k) ys l
laid_first s m a ys k g h e = record { eq = e; len = rw h; size = g }

pub laid_next : {s xs l l' : List ℕ} {m a n : ℕ} → Laid s m a n xs l → (ys : List ℕ) (k : ℕ) → length ys ≡ k → n ≤ m → l' ≡ spliced l n ys
    → Laid s m a (n + k) (xs ++ ys) l'
laid_next {s} {xs} {l} {l'} {m} {a} {n} p ys k h g e =
    record {
      eq = e ∙ rw p.eq (spliced_twice s xs ys a n p.len (rw p.size g));
      len = let q = p.len in simp length-append (omega arith);
      size = p.size;
    }

-- all 508 bytes of a block, in front of its check
pub front : {s text l : List ℕ} → Laid s 512 0 508 text l → take 508 l ≡ text
unfolding spliced
front {s} {text} p =
    let n : length text ≡ 508 = omega (arith, p.len) in
    rw p.eq (take_at text (drop (0 + length text) s) 508 n)

-- a part that was lent as `&mut t[a..e]`, and came back as b: what a caller's contract says with spliced
pub lent : (t ys b : List ℕ) (a n e : ℕ) → e ≡ a + n → length b ≡ n → ys ≡ b → take a t ++ (ys ++ drop (e - a) (drop a t)) ≡ spliced t a b
unfolding spliced
lent t ys b a n e d h q =
    let k : e - a ≡ length b = omega arith in
    rw (k, q, drop-drop (length b) a t)
