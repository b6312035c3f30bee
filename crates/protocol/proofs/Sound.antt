-- A sound table: the rules, and fields that can hold what they are given. The edits keep it so. Assumes nothing.
use mathlib.Core.Path.{◌≡◌, refl}
use mathlib.Core.Bool.{Bool, true, false}
use mathlib.Core.List.{List, [], ◌∷◌, map}
use Prim.Native.Nat.{ℕ, zero, suc, ◌+◌, ◌-◌, ◌%◌, ◌≤◌, ◌<◌, min}
use native.Mathlib.Omega.{arith}
use borrow.Author.Tests.{eqb-false, le-leb, lt-ltb}
use lib.Dec.{eqb, leb, ltb}
use lib.ListN.{length, drop, get_or, set, length-set, length-map, length-take}
use lib.Seq.{drop_at}
use Rattle.protocol.specs.Bytes.{if, all_within, zeros, pad_to, part}
use Rattle.protocol.specs.Tickets.{a_free, a_login, a_session, a_waiting, lifetime, secret_length, secret_from, iou_from, mark_most, depth_least, depth_most, text_least, text_most, since_from}
use Rattle.protocol.specs.Records.{Rec, free_rec, live, own_right, fields_right, text_right, serial_right, expiry_right, since_right, letters_right}
use Rattle.protocol.specs.Table.{Table, rec_at, put_at, encode_table, table_lawful, count_kind, login_cap, last_time}
use Rattle.protocol.specs.Steps.{clear_rec, end_rec, tick, clear, remove, end_session, slot_for, expiry_for, new_rec, add}
use Rattle.protocol.specs.Held.{Fits, AllFit}
use Rattle.protocol.proofs.Laws.{length_pad, rec_right, Rules, rules_hold_lem, lawful_written, part-long}
use Rattle.protocol.proofs.Kept.{Unnamed, tick_rules, clear_rules, remove_rules, end_rules}
use Rattle.protocol.proofs.Added.{Room, add_rules}

pub record Sound (t : Table) : Type 0 where
  pub rules : Rules t
  pub next : t.next < 4294967296
  pub fit : AllFit t.slots
  pub few : length t.slots ≤ 127

-- a sound table's bytes are lawful
pub sound_lawful : (t : Table) → Sound t → table_lawful (encode_table t) ≡ true
sound_lawful t s = lawful_written t s.fit (omega (arith, s.rules.clock)) (omega (arith, s.next)) (rules_hold_lem t s.rules)

pub free_fits : Fits free_rec
free_fits = record { parent = omega arith; session = omega arith; serial = omega arith; expiry = omega arith; since = omega arith; sized = record { secret = refl; text = omega arith; iou = refl } }

fit_map : (f : Rec → Rec) → ((r : Rec) → Fits r → Fits (f r)) → (rs : List Rec) → AllFit rs → AllFit (map f rs)
unfolding AllFit
fit_map f h [] e = tt
fit_map f h (r ∷ rs) e = (h r e.0, fit_map f h rs e.1)

fit_set : (x : Rec) → Fits x → (rs : List Rec) (i : ℕ) → AllFit rs → AllFit (set rs i x)
unfolding AllFit
fit_set x h [] i e = tt
fit_set x h (r ∷ rs) zero e = (h, e.1)
fit_set x h (r ∷ rs) (suc i) e = (e.0, fit_set x h rs i e.1)

pub fit_put : (x : Rec) → Fits x → (k : ℕ) (rs : List Rec) → AllFit rs → AllFit (put_at k x rs)
fit_put x h zero rs e = e
fit_put x h (suc k) rs e = fit_set x h rs k e

pub fit_at : (rs : List Rec) (k : ℕ) → AllFit rs → Fits (get_or rs k free_rec)
unfolding AllFit
fit_at [] k e = free_fits
fit_at (r ∷ rs) zero e = e.0
fit_at (r ∷ rs) (suc k) e = fit_at rs k e.1

pub fit_slot : (rs : List Rec) (k : ℕ) → AllFit rs → Fits (rec_at k rs)
fit_slot rs zero e = free_fits
fit_slot rs (suc k) e = fit_at rs k e

pub length-put : (k : ℕ) (x : Rec) (rs : List Rec) → length (put_at k x rs) ≡ length rs
length-put zero x rs = refl
length-put (suc k) x rs = length-set rs k x

either_fits : (z : Bool) (r s : Rec) → Fits r → Fits s → Fits (if z r s)
either_fits true r s h g = h
either_fits false r s h g = g

pub tick_sound : (time : ℕ) (t : Table) → time ≤ last_time → Sound t → Sound (tick time t)
unfolding tick
tick_sound time t h s =
    record {
      rules = tick_rules time t h s.rules;
      next = s.next;
      fit = s.fit;
      few = s.few;
    }

pub clear_sound : (t : Table) → Sound t → Sound (clear t)
unfolding clear
clear_sound t s =
    record {
      rules = clear_rules t s.rules;
      next = s.next;
      fit = fit_map (clear_rec t.clock) (λ r f. either_fits (live t.clock r) r free_rec f free_fits) t.slots s.fit;
      few = rw (length-map t.slots (clear_rec t.clock)) s.few;
    }

pub remove_sound : (k : ℕ) (t : Table) → Unnamed k t.slots → Sound t → Sound (remove k t)
remove_sound k t u s =
    record {
      rules = remove_rules k t u s.rules;
      next = s.next;
      fit = fit_put free_rec free_fits k t.slots s.fit;
      few = rw (length-put k free_rec t.slots) s.few;
    }

pub end_sound : (k : ℕ) (t : Table) → 1 ≤ k → (rec_at k t.slots).kind ≡ 2 → Sound t → Sound (end_session k t)
unfolding end_session
end_sound k t p e s =
    record {
      rules = end_rules k t p e s.rules;
      next = s.next;
      fit = fit_put free_rec free_fits k (map (end_rec k) t.slots) (fit_map (end_rec k) (λ r f. either_fits (eqb r.session k) free_rec r free_fits f) t.slots s.fit);
      few = rw (length-put k free_rec (map (end_rec k) t.slots), length-map t.slots (end_rec k)) s.few;
    }

pub add_sound : (x : Rec) (t : Table) → Room t → x.serial ≡ t.next
    → rec_right t.clock ((t.next + 1) % 4294967296) (put_at (slot_for t) x t.slots) x ≡ true
    → count_kind a_login t.slots + if (eqb x.kind a_login) 1 0 ≤ login_cap → Fits x
    → Sound t → Sound (add x t)
unfolding add
add_sound x t m e right cap f s =
    record {
      rules = add_rules x t m s.next e right cap s.rules;
      next = omega arith;
      fit = fit_put x f (slot_for t) t.slots s.fit;
      few = rw (length-put (slot_for t) x t.slots) s.few;
    }

-- A new record fits, and keeps its own rules

pub lifetime_most : (k : ℕ) → lifetime k ≤ 28800
lifetime_most zero = omega arith
lifetime_most (suc zero) = omega arith
lifetime_most (suc (suc zero)) = omega arith
lifetime_most (suc (suc (suc zero))) = omega arith
lifetime_most (suc (suc (suc (suc zero)))) = omega arith
lifetime_most (suc (suc (suc (suc (suc zero))))) = omega arith
lifetime_most (suc (suc (suc (suc (suc (suc zero)))))) = omega arith
lifetime_most (suc (suc (suc (suc (suc (suc (suc zero))))))) = omega arith
lifetime_most (suc (suc (suc (suc (suc (suc (suc (suc k)))))))) = omega arith

expiry_most : (z : Bool) (a b : ℕ) → if z a (min a b) ≤ a
expiry_most true a b = omega arith
expiry_most false a b = omega arith

part_most : (at n : ℕ) (s : List ℕ) → length (part at n s) ≤ n
part_most at n s = rw (length-take n (drop at s)) (omega arith)

drawn_most : (z : Bool) (s : List ℕ) → length (if z (part 32 9 s) (part 0 16 s)) ≤ 16
drawn_most true s = omega (arith, part_most 32 9 s)
drawn_most false s = part_most 0 16 s

iou_full : (z : Bool) (s : List ℕ) → length s ≡ 48 → length (if z (part 16 16 s) (zeros 16)) ≡ 16
iou_full true s h = part-long 16 16 s (omega arith)
iou_full false s h = refl

since_low : (z : Bool) (c : ℕ) → if z c 0 ≤ c
since_low true c = omega arith
since_low false c = omega arith

pub new_fits : (kind mark parent session depth : ℕ) (text random : List ℕ) (t : Table) → parent < 65536 → session < 65536 → length text ≤ 200 → length random ≡ 48 → Sound t
    → Fits (new_rec kind mark parent session depth text random t)
unfolding new_rec expiry_for secret_from iou_from since_from
new_fits kind mark parent session depth text random t hp hs ht hr s =
    record {
      parent = hp;
      session = hs;
      serial = s.next;
      expiry = omega (arith, expiry_most (eqb session 0) (t.clock + lifetime kind) (rec_at session t.slots).expiry, lifetime_most kind, s.rules.clock);
      since = omega (arith, since_low (eqb kind a_session) t.clock, s.rules.clock);
      sized = record { secret = length_pad 16 (secret_from kind random) (drawn_most (eqb (secret_length kind) 9) random); text = ht; iou = iou_full (eqb kind a_waiting) random hr };
    }

-- the rest of a short secret is zero
tail_zero : (p : List ℕ) (n : ℕ) → length p ≡ n → (m : ℕ) → all_within 0 0 (zeros m) ≡ true → m ≡ 16 - n → all_within 0 0 (drop n (pad_to 16 p)) ≡ true
tail_zero p n h m z e = let q : 16 - length p ≡ m = omega arith in rw q (rw (drop_at p (zeros m) n h) z)

short_tail : (random : List ℕ) → length random ≡ 48 → all_within 0 0 (drop 9 (pad_to 16 (part 32 9 random))) ≡ true
unfolding all_within
short_tail random h = tail_zero (part 32 9 random) 9 (part-long 32 9 random (omega arith)) 7 refl refl

long_tail : (random : List ℕ) → length random ≡ 48 → all_within 0 0 (drop 16 (pad_to 16 (part 0 16 random))) ≡ true
unfolding all_within
long_tail random h = tail_zero (part 0 16 random) 16 (part-long 0 16 random (omega arith)) 0 refl refl

-- what a kind asks of the secret and IOU of a new record
pub record Kind (kind : ℕ) (random : List ℕ) : Type 0 where
  pub known : kind ≤ 7
  pub taken : eqb kind a_free ≡ false
  pub rest : all_within 0 0 (drop (secret_length kind) (pad_to 16 (secret_from kind random))) ≡ true
  pub iou : if (eqb kind a_waiting) true (all_within 0 0 (iou_from kind random)) ≡ true

module _ (random : List ℕ) (h : length random ≡ 48) where
  pub new_kind : (kind : ℕ) → 1 ≤ kind → kind ≤ 5 → Kind kind random
  unfolding secret_from iou_from all_within
  new_kind zero a b = absurd (omega arith)
  new_kind (suc zero) a b = record { known = omega arith; taken = refl; rest = short_tail random h; iou = refl }
  new_kind (suc (suc zero)) a b = record { known = omega arith; taken = refl; rest = long_tail random h; iou = refl }
  new_kind (suc (suc (suc zero))) a b = record { known = omega arith; taken = refl; rest = short_tail random h; iou = refl }
  new_kind (suc (suc (suc (suc zero)))) a b = record { known = omega arith; taken = refl; rest = short_tail random h; iou = refl }
  new_kind (suc (suc (suc (suc (suc zero))))) a b = record { known = omega arith; taken = refl; rest = long_tail random h; iou = refl }
  new_kind (suc (suc (suc (suc (suc (suc k)))))) a b = absurd (omega arith)

-- its own serial is issued by being taken
serial_taken_lem : (n : ℕ) → 1 ≤ n → n < 4294967296 → serial_right ((n + 1) % 4294967296) n ≡ true
unfolding serial_right
serial_taken_lem n h g = rw (le-leb 1 n h) (go (eqb ((n + 1) % 4294967296) 0) refl)
  where
    go : (z : Bool) → eqb ((n + 1) % 4294967296) 0 ≡ z → if z true (ltb n ((n + 1) % 4294967296)) ≡ true
    go true w = refl
    go false w = let x = eqb-false ((n + 1) % 4294967296) 0 w in lt-ltb n ((n + 1) % 4294967296) (omega arith)

since_new : (z : Bool) (c : ℕ) → if z (leb (if z c 0) c) (eqb (if z c 0) 0) ≡ true
since_new true c = le-leb c c (omega arith)
since_new false c = refl

pub new_own : (kind mark parent session depth : ℕ) (text random : List ℕ) (t : Table) → Kind kind random
    → mark ≤ mark_most kind → depth_least kind ≤ depth → depth ≤ depth_most kind → text_least kind ≤ length text → length text ≤ text_most kind → letters_right kind text ≡ true
    → 1 ≤ t.next → t.next < 4294967296
    → own_right t.clock ((t.next + 1) % 4294967296) (new_rec kind mark parent session depth text random t) ≡ true
unfolding own_right fields_right since_right since_from text_right new_rec expiry_right expiry_for
new_own kind mark parent session depth text random t k hm hd hd' ht ht' hw h g =
    rw (
      le-leb kind 7 k.known,
      le-leb mark (mark_most kind) hm,
      le-leb (depth_least kind) depth hd,
      le-leb depth (depth_most kind) hd',
      k.rest,
      le-leb (text_least kind) (length text) ht,
      le-leb (length text) (text_most kind) ht',
      hw,
      k.iou,
      since_new (eqb kind a_session) t.clock,
      k.taken,
      serial_taken_lem t.next h g,
      le-leb _ (t.clock + lifetime kind) (expiry_most (eqb session 0) (t.clock + lifetime kind) (rec_at session t.slots).expiry),
    )
