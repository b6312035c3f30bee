-- The judge's tests are the law: bytes that pass are those of a table that keeps the rules, and only they pass. Assumes nothing.
use mathlib.Core.Path.{◌≡◌, refl, sym, ap, ◌∙◌}
use mathlib.Core.Bool.{Bool, true, false, ◌&&◌, ◌||◌, not}
use mathlib.Core.List.{List, [], ◌∷◌}
use Prim.Native.Nat.{ℕ, zero, suc, ◌+◌, ◌-◌, ◌*◌, ◌/◌, ◌<◌, ◌≤◌}
use native.Mathlib.Numerals.{add-one}
use native.Mathlib.Omega.{arith}
use native.Mathlib.Decide.{dec_lt, dec_le}
use borrow.Author.Tests.{leb-true, le-leb}
use lib.Dec.{eqb, leb, lit≤}
use lib.ListN.{length, take, drop, get_or, get_or-eq_default}
use lib.Seq.{take-take}
use Rattle.protocol.specs.Bytes.{same, part, num, bytes_of}
use Rattle.protocol.specs.Blocks.{check_right, sealed}
use Rattle.protocol.specs.Tickets.{a_free, a_login}
use Rattle.protocol.specs.Records.{Rec, free_rec, encode_rec}
use Rattle.protocol.specs.Table.{head_body, decode_table, count_kind, serial_taken, serials_differ, table_shape, table_lawful, login_cap, last_time}
use Rattle.protocol.proofs.Laws.{both, same-eq, same_refl, rec_right, Rules, rules, rules_hold_lem, part-long, lawful_bytes, lawful_fits, lawful_clock, lawful_rules, one_test}
use Rattle.protocol.proofs.Places.{head_bytes, slots_count, lawful_by_blocks, block_lawful}
use Rattle.protocol.proofs.Held.{slot_of}
use Rattle.protocol.proofs.Kept.{free_right, right_all, right_slot}
use Rattle.block.proofs.Bytewise.{part_bytes, sealed_test, Bytes}
use Rattle.protocol.specs.Held.{In}
use Rattle.table_rules.specs.Tests.{head_right}
use Rattle.table_judge.specs.Tests.{block_at, alone_at, slot_right, all_from, judged}
use Rattle.table_judge.proofs.Blocks.{Told, told, made}
use Rattle.table_judge.proofs.Worth.{shaped}

-- Slots, all and each

all_made : (test : ℕ → Bool) (k m : ℕ) → ((j : ℕ) → k ≤ j → j < k + m → test j ≡ true) → all_from test k m ≡ true
unfolding all_from
all_made test k zero h = refl
all_made test k (suc m) h = rw (h k (omega arith) (omega arith)) (all_made test (k + 1) m (λ j a b. h j (omega arith) (omega arith)))

all_told : (test : ℕ → Bool) (k m : ℕ) → all_from test k m ≡ true → (j : ℕ) → k ≤ j → j < k + m → test j ≡ true
unfolding all_from
all_told test k zero e j a b = absurd (omega arith)
all_told test k (suc m) e j a b =
    let p = both (test k) (all_from test (k + 1) m) e in
    by_place p.0 (λ g. all_told test (k + 1) m p.1 j (omega arith) (omega arith)) (dec_le j k)
  where
    by_place : test k ≡ true → ((j ≤ k → ⊥) → test j ≡ true) → Dec (j ≤ k) → test j ≡ true
    by_place p f (yes g) = let q : j ≡ k = omega arith in rw q p
    by_place p f (no g) = f g

-- serials differ where each differs from all behind it
abbrev alone : List Rec → ℕ → Bool
alone rs k = eqb (get_or rs k free_rec).kind a_free || not (serial_taken (get_or rs k free_rec).serial (drop (suc k) rs))

differ_made : (rs : List Rec) → ((k : ℕ) → k < length rs → alone rs k ≡ true) → serials_differ rs ≡ true
unfolding serials_differ
differ_made [] h = refl
differ_made (r ∷ rs) h = rw (h 0 (omega arith)) (differ_made rs (λ k g. h (suc k) (omega arith)))

differ_told : (rs : List Rec) → serials_differ rs ≡ true → (k : ℕ) → k < length rs → alone rs k ≡ true
unfolding serials_differ
differ_told [] e k g = absurd (omega arith)
differ_told (r ∷ rs) e zero g = (both (alone (r ∷ rs) 0) (serials_differ rs) e).0
differ_told (r ∷ rs) e (suc k) g = differ_told rs (both (alone (r ∷ rs) 0) (serials_differ rs) e).1 k (omega arith)

-- the same, by slots
alone_slot : (b : List ℕ) (k : ℕ) → alone_at (suc k) b ≡ alone (decode_table b).slots k
unfolding alone_at
alone_slot b k = rw add-one

module _ (b : List ℕ) (m : ℕ) (h : length b ≡ 512 * m + 512) (few : m ≤ 127) (y : Bytes b) where
  count : length b / 512 - 1 ≡ m
  count = omega arith

  block_long : (k : ℕ) → k ≤ m → length (block_at k b) ≡ 512
  block_long k g = part-long (512 * k) 512 b (omega arith)

  block_bytes : (k : ℕ) → k ≤ m → (i : ℕ) → get_or (block_at k b) i 0 < 256
  block_bytes k g = part_bytes b y.each (512 * k) 512 (omega arith)

  abbrev slots : List Rec
  slots = (decode_table b).slots

  abbrev clock : ℕ
  clock = num 8 8 b

  abbrev next : ℕ
  next = num 16 4 b

  abbrev head : List ℕ
  head = head_body m clock next

  head_long : length head ≡ 508
  unfolding head_body bytes_of
  head_long = refl

  -- the header's tests are its block's
  head_test : same (take 508 b) head && check_right (block_at 0 b) ≡ same (block_at 0 b) (sealed head)
  head_test = rw (take-take 508 512 b (lit≤ tt)) at (sealed_test (block_at 0 b) head (block_long 0 (omega arith)) (block_bytes 0 (omega arith)) head_long)

  slot : (k : ℕ) → k < m → In (suc k) b
  slot k g = record { low = omega arith; high = omega arith }

  -- bytes that pass are lawful
  forth : judged b ≡ true → table_lawful b ≡ true
  unfolding judged decode_table
  forth e =
      let rest : Bool = all_from (slot_right clock next b) 1 (length b / 512 - 1) in
      let logins : Bool = leb (count_kind a_login slots) login_cap in
      let p = both (head_right (length b / 512 - 1) b) (check_right (block_at 0 b) && rest && logins) e in
      let q = both (check_right (block_at 0 b) && rest) logins p.1 in
      let s = both (check_right (block_at 0 b)) rest q.0 in
      let d = both (leb clock last_time) (same (take 508 b) (head_body (length b / 512 - 1) clock next)) p.0 in
      let w : same (take 508 b) head ≡ true = rw count at d.1 in
      let all : all_from (slot_right clock next b) 1 m ≡ true = rw count at s.1 in
      let each : (k : ℕ) (g : k < m) → Told clock next b (suc k) (slot k g) y = λ k g. told clock next b (suc k) (slot k g) y (all_told (slot_right clock next b) 1 m all (suc k) (omega arith) (omega arith)) in
      let n : length slots ≡ m = slots_count b ∙ count in
      lawful_by_blocks b m h (same-eq (block_at 0 b) (sealed head) (sym head_test ∙ rw (w, s.0))) (λ k g. (each k g).block ∙ ap encode_rec (slot_of b (suc k) (slot k g)))
      (rules_hold_lem (decode_table b) (record {
        clock = leb-true clock last_time d.0;
        records = right_all clock next slots slots (λ k. by_place k n (λ g. (each k g).rule) (dec_lt k m));
        serials = differ_made slots (λ k g. sym (alone_slot b k) ∙ (each k (omega arith)).lone);
        logins = leb-true (count_kind a_login slots) login_cap q.1;
      }))
    where
      by_place : (k : ℕ) → length slots ≡ m → (k < m → rec_right clock next slots (get_or slots k free_rec) ≡ true) → Dec (k < m) → rec_right clock next slots (get_or slots k free_rec) ≡ true
      by_place k n f (yes g) = f g
      by_place k n f (no g) = rw (get_or-eq_default slots free_rec {n = k} (omega arith)) (free_right clock next slots)

  -- and lawful bytes pass
  module _ (e : table_lawful b ≡ true) (l : length b ≡ 512 * (length b / 512 - 1) + 512) (n : length slots ≡ m) where
    clock_right : leb clock last_time ≡ true
    unfolding decode_table
    clock_right = le-leb clock last_time (lawful_clock b e)

    head_right_lem : same (block_at 0 b) (sealed head) ≡ true
    unfolding decode_table
    head_right_lem =
        let x : block_at 0 b ≡ sealed head = ap (λ (s : List ℕ). part 0 512 s) (lawful_bytes b e) ∙ head_bytes (decode_table b) (lawful_fits b l e) ∙ ap (λ (k : ℕ). sealed (head_body k clock next)) n in
        rw x (same_refl (sealed head))

    by_slot : Rules (decode_table b) → (j : ℕ) → 1 ≤ j → j < 1 + m → slot_right clock next b j ≡ true
    unfolding decode_table
    by_slot z zero a c = absurd (omega arith)
    by_slot z (suc k) a c =
        let g : k < m = omega arith in
        made clock next b (suc k) (slot k g) y (record {
          rule = right_slot clock next slots z.records (suc k);
          block = block_lawful b l e k (rw count g) ∙ ap encode_rec (sym (slot_of b (suc k) (slot k g)));
          lone = alone_slot b k ∙ differ_told slots z.serials k (rw n g);
        })

  back : table_lawful b ≡ true → judged b ≡ true
  unfolding judged
  back e =
      let z = rules (decode_table b) (lawful_rules b e) in
      let l : length b ≡ 512 * (length b / 512 - 1) + 512 = omega arith in
      let n : length slots ≡ m = slots_count b ∙ count in
      let w = both (same (take 508 b) head) (check_right (block_at 0 b)) (head_test ∙ head_right_lem e l n) in
      let all : all_from (slot_right clock next b) 1 m ≡ true = all_made (slot_right clock next b) 1 m (by_slot e l n z) in
      rw (count, clock_right e l n, w.0, w.1, all) (le-leb (count_kind a_login slots) login_cap z.logins)

  pub tests_law : judged b ≡ table_lawful b
  tests_law = one_test (judged b) (table_lawful b) forth back

-- What the code knows at its returns

module _ (b : List ℕ) {good : Bool} (e : good ≡ head_right (length b / 512 - 1) b) where
  pub clock_low : {c : ℕ} → good ≡ true → c ≡ (decode_table b).clock → c ≤ last_time
  unfolding decode_table
  clock_low g x = rw x (leb-true (num 8 8 b) last_time (both (leb (num 8 8 b) last_time) _ (sym e ∙ g)).0)

  module _ (h : table_shape (length b) ≡ true) (y : Bytes b) where
    tests_shape : judged b ≡ table_lawful b
    tests_shape = let n = shaped (length b) h in tests_law b (length b / 512 - 1) (omega arith) (omega arith) y

    pub table_wrong : good ≡ false → false ≡ table_lawful b
    unfolding judged
    table_wrong g = let p : head_right (length b / 512 - 1) b ≡ false = sym e ∙ g in sym (rw p) ∙ tests_shape

    pub table_right : {k s : Bool} {c x v : ℕ} → good ≡ true → c ≡ (decode_table b).clock → x ≡ (decode_table b).next
        → k ≡ check_right (part (512 * 0) 512 b) → s ≡ all_from (slot_right c x b) 1 (length b / 512 - 1) → v ≡ count_kind a_login (decode_table b).slots
        → k && s && leb v 32 ≡ table_lawful b
    unfolding judged login_cap decode_table
    table_right g c x k s v =
        let p : head_right (length b / 512 - 1) b ≡ true = sym e ∙ g in
        rw (k, s, v, c, x) (sym (rw p)) ∙ tests_shape
