-- A right record's block is zero behind its sign-on time, and so its check is that of the bytes before. Assumes nothing.
use mathlib.Core.Path.{◌≡◌, refl, sym, ◌∙◌}
use mathlib.Core.Bool.{Bool, true, false, ◌&&◌}
use mathlib.Core.List.{List, [], ◌∷◌, ◌++◌, append_assoc}
use Prim.Native.Nat.{ℕ, ◌+◌}
use native.Mathlib.Omega.{arith}
use lib.Dec.{lit≤}
use lib.ListN.{length, take, length-append, length-replicate}
use lib.Seq.{take_at, take-take, length-take-le}
use Rattle.protocol.specs.Bytes.{same, zeros, pad_to, bytes_of}
use Rattle.protocol.specs.Blocks.{check_right}
use Rattle.protocol.specs.Records.{Rec, rec_body, decode_rec, own_right}
use Rattle.protocol.proofs.Laws.{both, same-eq}
use Rattle.block.specs.Checks.{check_right_to}
use Rattle.block.proofs.Parts.{right_to}
use Rattle.table_rules.specs.Tests.{record_right}

-- a text that ends in n zeros
record Ends (n : ℕ) (s : List ℕ) : Type 0 where
  front : List ℕ
  is : s ≡ front ++ zeros n

behind : {n : ℕ} (p : List ℕ) {s : List ℕ} → Ends n s → Ends n (p ++ s)
behind {n} p e = record { front = p ++ e.front; is = rw e.is (sym (append_assoc p e.front (zeros n))) }

body_ends : (r : Rec) → Ends 228 (rec_body r)
unfolding rec_body
body_ends r =
    behind (r.kind ∷ r.mark ∷ [])
    (behind (bytes_of 2 r.parent)
    (behind (bytes_of 2 r.session)
    (behind (r.depth ∷ 0 ∷ [])
    (behind (bytes_of 4 r.serial)
    (behind (zeros 4)
    (behind (bytes_of 8 r.expiry)
    (behind (pad_to 16 r.secret)
    (behind (bytes_of 2 (length r.text))
    (behind (zeros 2)
    (behind (pad_to 212 r.text)
    (behind (pad_to 16 r.iou)
    (behind (bytes_of 8 r.since) (record { front = []; is = refl })))))))))))))

-- the front of such a text, by its length
ends_at : (s : List ℕ) (m n : ℕ) → Ends n s → length s ≡ m + n → s ≡ take m s ++ zeros n
ends_at s m n e h =
    let k : length e.front + n ≡ m + n = rw (e.is, length-append e.front (zeros n), length-replicate {A = ℕ} n 0) at h in
    let l : length e.front ≡ m = omega arith in
    let f : take m s ≡ e.front = rw e.is (take_at e.front (zeros n) m l) in
    e.is ∙ rw f

tail : (c n : ℕ) (b : List ℕ) → length b ≡ 512 → record_right c n b ≡ true → take 508 b ≡ take 280 b ++ zeros 228
tail c n b h e =
    let o = both (own_right c n (decode_rec b)) (same (take 508 b) (rec_body (decode_rec b))) e in
    let q : take 508 b ≡ rec_body (decode_rec b) = same-eq (take 508 b) (rec_body (decode_rec b)) o.1 in
    let z : Ends 228 (take 508 b) = rw q (body_ends (decode_rec b)) in
    rw (take-take 280 508 b (lit≤ tt)) at (ends_at (take 508 b) 280 228 z (length-take-le 508 b (omega arith)))

-- a test that differs only where the first fails
fourth : (o u v c d a : Bool) → (o ≡ true → c ≡ d) → o && u && v && c && a ≡ o && u && v && d && a
fourth true u v c d a f = rw (f refl)
fourth false u v c d a f = refl

-- beside the record's rules the short sum is as good as the whole
pub short_sum : (c n : ℕ) (b : List ℕ) (u v a : Bool) → length b ≡ 512 → record_right c n b && u && v && check_right_to 280 b && a ≡ record_right c n b && u && v && check_right b && a
short_sum c n b u v a h = fourth (record_right c n b) u v (check_right_to 280 b) (check_right b) a (λ e. right_to b 280 (tail c n b h e))
