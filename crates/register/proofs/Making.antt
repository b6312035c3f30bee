-- A block made of two texts: its refusals, the bytes that fill it, and what the call gives. Assumes nothing.
use mathlib.Core.Path.{◌≡◌, sym, ap, ◌∙◌}
use mathlib.Core.List.{List, [], ◌++◌, append_assoc, append-nil}
use Prim.Native.Nat.{ℕ, ◌≤◌}
use native.Mathlib.Omega.{arith}
use borrow.Author.Tests.{ne_eqb}
use lib.Dec.{lit≤}
use lib.ListN.{length, take, drop, drop_of_length-le}
use Rattle.std.specs.Prelude.{Result}
use Rattle.std.specs.Result.{IsErrAnd}
use Rattle.protocol.specs.declared.Refusal.{Refusal}
use Rattle.protocol.specs.Refusals.{refusal_number, number_of_result}
use Rattle.protocol.specs.Bytes.{pad_to, bytes_of, spliced}
use Rattle.protocol.specs.Blocks.{sealed}
use Rattle.protocol.specs.Register.{entry_body, encode_entry}
use Rattle.protocol.specs.Panels.{entry, panel_refusal, made, panel_of}
use Rattle.protocol.proofs.Refusals.{refused_some, handed}
use Rattle.protocol.proofs.Laws.{length_bytes, length_pad}
use Rattle.protocol.proofs.Panels.{right_short}
use Rattle.protocol.proofs.Faults.{panel_passed}
use Rattle.block.proofs.Lay.{laid_first, laid_next, front}

-- `put_entry`: four texts fill the 508 bytes that are sealed
pub entry_filled : (s c b : List ℕ) {l1 l2 l3 l4 l5 : List ℕ} → length b ≡ 512 → length s ≤ 200 → length c ≤ 200
    → l5 ≡ sealed (take 508 l4)
    → l4 ≡ spliced l3 204 (pad_to 304 c)
    → l3 ≡ spliced l2 4 (pad_to 200 s)
    → l2 ≡ spliced l1 2 (bytes_of 2 (length c))
    → l1 ≡ spliced b 0 (bytes_of 2 (length s))
    → l5 ≡ encode_entry (entry s c)
unfolding encode_entry entry_body
entry_filled s c b g hs hc e5 e4 e3 e2 e1 =
    let p1 = laid_first b 512 0 (bytes_of 2 (length s)) 2 g (length_bytes 2 (length s)) e1 in
    let p2 = laid_next p1 (bytes_of 2 (length c)) 2 (length_bytes 2 (length c)) (lit≤ tt) e2 in
    let p3 = laid_next p2 (pad_to 200 s) 200 (length_pad 200 s hs) (lit≤ tt) e3 in
    let p4 = laid_next p3 (pad_to 304 c) 304 (length_pad 304 c (omega arith)) (lit≤ tt) e4 in
    e5 ∙ ap sealed (front p4 ∙ simp append_assoc)

-- `panel`
module _ (s c b : List ℕ) where
  pub panel_refused : (r : Result Unit Refusal) (e : Refusal) → IsErrAnd r (λ y. y ≡ e) → refusal_number e ≡ panel_refusal s c (length b) → made (number_of_result r) b ≡ panel_of s c b
  unfolding panel_of
  panel_refused r e is h = rw (← h, ne_eqb (refusal_number e) 0 (refused_some e), handed r e is)

  module _ (e : 0 ≡ panel_refusal s c (length b)) where
    pub panel_block : length b ≡ 512
    panel_block = (panel_passed s c b (sym e)).1

    pub panel_service : length s ≤ 200
    panel_service = (right_short (entry s c) (panel_passed s c b (sym e)).0).service

    pub panel_callback : length c ≤ 200
    panel_callback = (right_short (entry s c) (panel_passed s c b (sym e)).0).callback

    -- the block that was lent is the whole of the caller's
    pub panel_put : (y : List ℕ) → y ≡ encode_entry (entry s c) → made 0 (y ++ drop 512 b) ≡ panel_of s c b
    unfolding panel_of
    panel_put y q =
        let z : drop 512 b ≡ [] = drop_of_length-le b {i = 512} (omega (arith, panel_block)) in
        let w : panel_refusal s c (length b) ≡ 0 = sym e in
        rw (z, append-nil, q, w)
