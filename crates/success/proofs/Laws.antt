-- The walk from grant to parent: in a lawful table each grant on the way is a slot one less deep, and the lines, written one after the
-- other, are those of the chain. Assumes nothing.
use mathlib.Core.Path.{◌≡◌, refl, sym, ap, ◌∙◌}
use mathlib.Core.Bool.{Bool, true, false, ◌&&◌, ◌||◌}
use mathlib.Core.List.{List, [], ◌∷◌, ◌++◌}
use Prim.Native.Nat.{ℕ, zero, suc, ◌+◌, ◌-◌, ◌≤◌}
use native.Mathlib.Omega.{arith}
use borrow.Author.Tests.{ne_eqb, eqb-true, ltb-true}
use lib.Dec.{eqb, ltb}
use lib.ListN.{length}
use Rattle.protocol.specs.Bytes.{if}
use Rattle.protocol.specs.Tickets.{a_service, a_proxy, a_visit, depth_most}
use Rattle.protocol.specs.Records.{Rec}
use Rattle.protocol.specs.Table.{Table, decode_table, rec_at, parent_right, grant_right, last_time}
use Rattle.protocol.specs.Answers.{proxy_lines, proxies_text, reply_text}
use Rattle.protocol.specs.Steps.{chain_from, chain_of, success_of}
use Rattle.protocol.specs.Written.{Room, Wrote}
use Rattle.protocol.specs.Held.{Fine, Lawful, In, Said}
use Rattle.protocol.specs.declared.Answer.TheVariants as answer
use Rattle.protocol.specs.declared.Outcome.{Outcome}
use Rattle.protocol.proofs.Laws.{both, own, right_own, rules}
use Rattle.protocol.proofs.Kept.{recs3, right_slot}
use Rattle.protocol.proofs.Sound.{Sound}
use Rattle.protocol.proofs.Searches.{slot_within}
use Rattle.protocol.proofs.NewSound.{owned}
use Rattle.protocol.proofs.Sizes.{small_fits}
use Rattle.protocol.proofs.Replies.{success_fits}
use Rattle.protocol.proofs.Held.{sound_held, slot_in, fits_of}
use Rattle.text.proofs.Splice.{then, wrote_none, wrote_as, room_as, room_first, room_next}
use Rattle.xml.proofs.Texts.{proxy_lines_parts, proxies_parts, success_parts}
use Rattle.xml.specs.Success.{proxy_line, proxies_open, proxies_close, success_head, success_tail}
use Rattle.reply.specs.Told.{told_of}
use Rattle.reply.proofs.Laws.{said_success}
use Rattle.success.specs.Walk.{Walk, Told}

-- Only grants, waiting or not, have a depth

shallow : (k n : ℕ) → n ≤ depth_most k → 1 ≤ n → (5 ≤ k) × (k ≤ 6)
unfolding depth_most
shallow zero n h g = absurd (omega arith)
shallow (suc zero) n h g = absurd (omega arith)
shallow (suc (suc zero)) n h g = absurd (omega arith)
shallow (suc (suc (suc zero))) n h g = absurd (omega arith)
shallow (suc (suc (suc (suc zero)))) n h g = absurd (omega arith)
shallow (suc (suc (suc (suc (suc zero))))) n h g = (omega arith, omega arith)
shallow (suc (suc (suc (suc (suc (suc zero)))))) n h g = (omega arith, omega arith)
shallow (suc (suc (suc (suc (suc (suc (suc zero))))))) n h g = absurd (omega arith)
shallow (suc (suc (suc (suc (suc (suc (suc (suc k)))))))) n h g = absurd (omega arith)

-- and their parents are one less deep
one_less : (slots : List Rec) (r : Rec) → 5 ≤ r.kind → r.kind ≤ 6 → (z v w d : Bool) → ltb r.kind a_service ≡ z → eqb r.kind a_service || eqb r.kind a_visit ≡ v → eqb r.kind a_proxy ≡ w → eqb r.depth 1 ≡ d
    → if z (eqb r.parent 0) (if v (eqb r.parent r.session) (if w (grant_right slots r) (if d (eqb r.parent 0) (grant_right slots r && eqb r.depth ((rec_at r.parent slots).depth + 1))))) ≡ true
    → r.depth ≡ (rec_at r.parent slots).depth + 1
one_less slots r k m true v w d h₁ h₂ h₃ h₄ e = absurd (omega (arith, ltb-true r.kind 3 h₁))
one_less slots r k m false true w d h₁ h₂ h₃ h₄ e =
    let n : ◌≡◌ {A = Bool} false true = rw (ne_eqb r.kind 3 (λ q. omega arith), ne_eqb r.kind 7 (λ q. omega arith)) at h₂ in
    absurd (let y : ◌≡◌ {A = ℕ} 0 1 = cc in omega arith)
one_less slots r k m false false true d h₁ h₂ h₃ h₄ e = absurd (omega (arith, eqb-true r.kind 4 h₃))
one_less slots r k m false false false true h₁ h₂ h₃ h₄ e =
    let p : (rec_at r.parent slots).depth ≡ 0 = rw (eqb-true r.parent 0 e) in
    omega (arith, eqb-true r.depth 1 h₄)
one_less slots r k m false false false false h₁ h₂ h₃ h₄ e =
    eqb-true r.depth ((rec_at r.parent slots).depth + 1) (both (grant_right slots r) (eqb r.depth ((rec_at r.parent slots).depth + 1)) e).1

parent_depth : (slots : List Rec) (r : Rec) → 5 ≤ r.kind → r.kind ≤ 6 → parent_right slots r ≡ true → r.depth ≡ (rec_at r.parent slots).depth + 1
unfolding parent_right
parent_depth slots r k m e = one_less slots r k m (ltb r.kind a_service) (eqb r.kind a_service || eqb r.kind a_visit) (eqb r.kind a_proxy) (eqb r.depth 1) refl refl refl refl e

module _ (t : Table) (s : Sound t) (k : ℕ) (h : 1 ≤ (rec_at k t.slots).depth) where
  deep_kind : (5 ≤ (rec_at k t.slots).kind) × ((rec_at k t.slots).kind ≤ 6)
  deep_kind = shallow (rec_at k t.slots).kind (rec_at k t.slots).depth (owned t s k).deep h

  deep_slot : (1 ≤ k) × (k ≤ length t.slots)
  deep_slot = (some k h, slot_within t.slots k (λ e. omega (arith, deep_kind.0)))
    where
      some : (j : ℕ) → 1 ≤ (rec_at j t.slots).depth → 1 ≤ j
      some zero g = absurd (omega arith)
      some (suc j) g = omega arith

  deep_parent : (rec_at k t.slots).depth ≡ (rec_at (rec_at k t.slots).parent t.slots).depth + 1
  deep_parent =
      parent_depth t.slots (rec_at k t.slots) deep_kind.0 deep_kind.1
      (recs3 t.clock t.next t.slots (rec_at k t.slots) (right_slot t.clock t.next t.slots s.rules.records k)).2

-- The walk, over the bytes

module _ (b : List ℕ) (k d : ℕ) (w : Walk b k d) where
  module _ (n : d ≡ 0 → ⊥) where
    some_depth : 1 ≤ (rec_at k (decode_table b).slots).depth
    some_depth = omega (arith, w.deep)

    pub walk_in : In k b
    walk_in = let s = deep_slot (decode_table b) (sound_held b w.lawful) k some_depth in slot_in b k s.0 s.1

    pub walk_on : (p : ℕ) → p ≡ (rec_at k (decode_table b).slots).parent → Walk b p (d - 1)
    walk_on p e =
        record {
          lawful = w.lawful;
          deep = let q = deep_parent (decode_table b) (sound_held b w.lawful) k some_depth in rw e (omega (arith, w.deep));
        }

-- The lines, at a depth that is not 0

more : (d k : ℕ) (slots : List Rec) → (d ≡ 0 → ⊥) → chain_from d k slots ≡ (rec_at k slots).text ∷ chain_from (d - 1) (rec_at k slots).parent slots
unfolding chain_from
more zero k slots n = absurd (n refl)
more (suc d) k slots n =
    let e : d ≡ suc d - 1 = omega arith in
    ap (λ (m : ℕ). (rec_at k slots).text ∷ chain_from m (rec_at k slots).parent slots) e

more_lines : (d k : ℕ) (slots : List Rec) → (d ≡ 0 → ⊥)
    → proxy_lines (chain_from d k slots) ≡ proxy_line (rec_at k slots).text ++ proxy_lines (chain_from (d - 1) (rec_at k slots).parent slots)
more_lines d k slots n = ap proxy_lines (more d k slots n) ∙ proxy_lines_parts (rec_at k slots).text (chain_from (d - 1) (rec_at k slots).parent slots)

pub no_lines : (o : List ℕ) (at d k : ℕ) (slots : List Rec) → d ≡ 0 → Room o at (proxy_lines (chain_from d k slots)) → Wrote o at o at (proxy_lines (chain_from d k slots))
unfolding chain_from proxy_lines
no_lines o at zero k slots e r = wrote_none o at (omega (arith, r.fits))
no_lines o at (suc d) k slots e r = absurd (omega arith)

module _ (o : List ℕ) (at d k : ℕ) (slots : List Rec) (text : List ℕ) (n : d ≡ 0 → ⊥) (r : Room o at (proxy_lines (chain_from d k slots))) (e : text ≡ (rec_at k slots).text) where
  both_room : Room o at (proxy_line text ++ proxy_lines (chain_from (d - 1) (rec_at k slots).parent slots))
  both_room = room_as (more_lines d k slots n ∙ ap (λ (s : List ℕ). proxy_line s ++ proxy_lines (chain_from (d - 1) (rec_at k slots).parent slots)) (sym e)) r

  pub line_room : Room o at (proxy_line text)
  line_room = room_first o at (proxy_line text) (proxy_lines (chain_from (d - 1) (rec_at k slots).parent slots)) both_room

  module _ (o' : List ℕ) (next p : ℕ) (w : Wrote o at o' next (proxy_line text)) (q : p ≡ (rec_at k slots).parent) where
    pub rest_room : Room o' next (proxy_lines (chain_from (d - 1) p slots))
    rest_room = rw q (room_next o o' at next (proxy_line text) (proxy_lines (chain_from (d - 1) (rec_at k slots).parent slots)) both_room w)

    pub lines_wrote : (o'' : List ℕ) (end : ℕ) → Wrote o' next o'' end (proxy_lines (chain_from (d - 1) p slots)) → Wrote o at o'' end (proxy_lines (chain_from d k slots))
    lines_wrote o'' end v =
        let v₁ : Wrote o' next o'' end (proxy_lines (chain_from (d - 1) (rec_at k slots).parent slots)) = rw q at v in
        let m = more_lines d k slots n ∙ ap (λ (s : List ℕ). proxy_line s ++ proxy_lines (chain_from (d - 1) (rec_at k slots).parent slots)) (sym e) in
        wrote_as (sym m) (then w v₁)

-- The element around them, left out at depth 0

pub start : (b : List ℕ) (k d : ℕ) → Lawful b → d ≡ (rec_at k (decode_table b).slots).depth → Walk b k d
start b k d l e = record { lawful = l; deep = e }

pub no_proxies : (o : List ℕ) (at d k : ℕ) (slots : List Rec) → d ≡ (rec_at k slots).depth → d ≡ 0 → Room o at (proxies_text (chain_of k slots)) → Wrote o at o at (proxies_text (chain_of k slots))
unfolding chain_of chain_from
no_proxies o at d k slots e z r =
    let q : proxies_text (chain_from (rec_at k slots).depth k slots) ≡ [] = rw (sym e ∙ z) in
    wrote_as (sym q) (wrote_none o at (omega (arith, r.fits)))

more_proxies : (d k : ℕ) (slots : List Rec) → (d ≡ 0 → ⊥) → proxies_text (chain_from d k slots) ≡ proxies_open ++ (proxy_lines (chain_from d k slots) ++ proxies_close)
more_proxies d k slots n =
    let e = more d k slots n in
    rw e (proxies_parts (rec_at k slots).text (chain_from (d - 1) (rec_at k slots).parent slots))

module _ (o : List ℕ) (at d k : ℕ) (slots : List Rec) (e : d ≡ (rec_at k slots).depth) (n : d ≡ 0 → ⊥) (r : Room o at (proxies_text (chain_of k slots))) where
  parts : proxies_text (chain_of k slots) ≡ proxies_open ++ (proxy_lines (chain_from d k slots) ++ proxies_close)
  unfolding chain_of
  parts = ap (λ (m : ℕ). proxies_text (chain_from m k slots)) (sym e) ∙ more_proxies d k slots n

  pub open_room : Room o at proxies_open
  open_room = room_first o at proxies_open (proxy_lines (chain_from d k slots) ++ proxies_close) (room_as parts r)

  module _ (o₁ : List ℕ) (first : ℕ) (w : Wrote o at o₁ first proxies_open) where
    rest : Room o₁ first (proxy_lines (chain_from d k slots) ++ proxies_close)
    rest = room_next o o₁ at first proxies_open (proxy_lines (chain_from d k slots) ++ proxies_close) (room_as parts r) w

    pub lines_room : Room o₁ first (proxy_lines (chain_from d k slots))
    lines_room = room_first o₁ first (proxy_lines (chain_from d k slots)) proxies_close rest

    module _ (o₂ : List ℕ) (end : ℕ) (v : Wrote o₁ first o₂ end (proxy_lines (chain_from d k slots))) where
      pub close_room : Room o₂ end proxies_close
      close_room = room_next o₁ o₂ first end (proxy_lines (chain_from d k slots)) proxies_close rest v

      pub proxies_wrote : (o₃ : List ℕ) (to : ℕ) → Wrote o₂ end o₃ to proxies_close → Wrote o at o₃ to (proxies_text (chain_of k slots))
      proxies_wrote o₃ to u = wrote_as (sym parts) (then w (then v u))

-- The whole success

module _ (b : List ℕ) (s mark : ℕ) (iou : List ℕ) (p : ℕ) (o : List ℕ) (h : Told b s iou p o) where
  told_fine : Fine b
  told_fine = h.lawful.fine

  pub since_known : {x : ℕ} → x ≡ (rec_at s (decode_table b).slots).since → x ≤ last_time
  since_known q =
      let t = decode_table b in
      omega (arith, q, (own t.clock t.next (rec_at s t.slots) (right_own t.clock t.next t.slots (rec_at s t.slots) (right_slot t.clock t.next t.slots (rules t h.lawful.rules).records s))).since, told_fine.clock)

  module _ (user : List ℕ) (e : user ≡ (rec_at s (decode_table b).slots).text) (since : ℕ) (f : since ≡ (rec_at s (decode_table b).slots).since) where
    pub user_short : length user ≤ 200
    user_short = rw e (fits_of b s told_fine).sized.text

    as_parts : reply_text (success_of s mark iou p (decode_table b).slots) ≡ success_head user since mark iou ++ (proxies_text (chain_of p (decode_table b).slots) ++ success_tail)
    as_parts = success_parts (rec_at s (decode_table b).slots).text (rec_at s (decode_table b).slots).since mark iou (chain_of p (decode_table b).slots) ∙ rw (e, f)

    whole : Room o 0 (success_head user since mark iou ++ (proxies_text (chain_of p (decode_table b).slots) ++ success_tail))
    whole =
        let t = decode_table b in
        let m = small_fits (success_fits t (sound_held b h.lawful) t s mark p iou h.short).reply in
        room_as as_parts (record { fits = omega (arith, m, h.room) })

    module _ (o₁ : List ℕ) (head : ℕ) (w : Wrote o 0 o₁ head (success_head user since mark iou)) where
      after_head : Room o₁ head (proxies_text (chain_of p (decode_table b).slots) ++ success_tail)
      after_head = room_next o o₁ 0 head (success_head user since mark iou) (proxies_text (chain_of p (decode_table b).slots) ++ success_tail) whole w

      pub proxies_room : Room o₁ head (proxies_text (chain_of p (decode_table b).slots))
      proxies_room = room_first o₁ head (proxies_text (chain_of p (decode_table b).slots)) success_tail after_head

      module _ (o₂ : List ℕ) (to : ℕ) (v : Wrote o₁ head o₂ to (proxies_text (chain_of p (decode_table b).slots))) where
        pub tail_room : Room o₂ to success_tail
        tail_room = room_next o₁ o₂ head to (proxies_text (chain_of p (decode_table b).slots)) success_tail after_head v

        pub success_said : (o₃ : List ℕ) (n : ℕ) (r : Outcome) → Wrote o₂ to o₃ n success_tail → r ≡ told_of (answer.Xml true) n
            → Said (success_of s mark iou p (decode_table b).slots) r o o₃
        success_said o₃ n r u q = said_success (wrote_as (sym as_parts) (then w (then v u))) q
