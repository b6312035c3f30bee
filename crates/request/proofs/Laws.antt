-- A name judged by what a walk noted of it, and what the names of a path tell together. Assumes nothing.
use mathlib.Core.Path.{◌≡◌, refl, ◌∙◌}
use mathlib.Core.Bool.{Bool, true, false, ◌&&◌, ◌||◌, not}
use mathlib.Core.List.{List, [], ◌∷◌}
use Prim.Native.Nat.{ℕ, ◌-◌, ◌≤◌}
use native.Mathlib.Omega.{arith}
use borrow.Author.Tests.{leb-true, le-leb}
use lib.Dec.{leb, ltb}
use lib.ListN.{length}
use Rattle.std.specs.Prelude.{Option, Some, None, option_map}
use Rattle.protocol.specs.Utf8.{name_right}
use Rattle.protocol.specs.Bytes.{if, ascii, same, among, all_within}
use Rattle.protocol.specs.Request.{raw_value, decoded, value_most, chars_right, value_right, bad_name, malformed, login_names, body_names, logout_names, validator_names, proxy_names, value_of, present, Read, Malformed, Given, read_unless, asking, asked, posted, leaving, shown, url_shown, wanted}
use Rattle.protocol.specs.declared.Validator.{Validator}
use Rattle.protocol.specs.declared.Validator.TheVariants as validator
use Rattle.protocol.proofs.Laws.{both, part-long}
use Rattle.text.proofs.Laws.{lengths_differ}
use Rattle.utf8.proofs.Small.{name_bytes}
use Rattle.query.specs.Place.{Inside, raw_in, Noted, Walked}
use Rattle.query.specs.declared.Place.{Place}
use Rattle.query.specs.declared.Places.{Places}
use Rattle.request.specs.Value.{text_of, spelled, right_by, judged_as, callback_as, callback_in}
use Rattle.request.specs.Spelled.{spelled_leaving}
use Rattle.request.specs.Standing.{Taken, Stands, callback_raw}
use Rattle.request.specs.declared.value.Spelling.{Spelling}
use Rattle.request.specs.declared.value.Value.{Value}
use Rattle.request.specs.declared.Rule.{Rule}
use Rattle.request.specs.declared.Rule.TheVariants as rule

-- bytes of a narrower range are bytes
bytes_are : (lo hi : ℕ) (s : List ℕ) → hi ≤ 255 → all_within lo hi s ≡ true → all_within 0 255 s ≡ true
unfolding all_within
bytes_are lo hi [] h e = refl
bytes_are lo hi (b ∷ s) h e =
    let p = both (leb lo b && leb b hi) (all_within lo hi s) e in
    let l : b ≤ hi = leb-true b hi (both (leb lo b) (leb b hi) p.0).1 in
    rw (le-leb 0 b (omega arith), le-leb b 255 (omega arith)) (bytes_are lo hi s h p.1)

-- what may stand by some rule is within its limit, and has bytes alone
pub right_short : (most : ℕ) (r : Rule) (v : List ℕ) → right_by most r v ≡ true → length v ≤ most
unfolding right_by
right_short most rule.Plain v e = leb-true (length v) most (both (leb (length v) most) (all_within 32 126 v) e).0
right_short most rule.Password v e = leb-true (length v) most (both (leb (length v) most) (all_within 0 255 v) e).0
right_short most rule.Username v e = leb-true (length v) most (both (leb (length v) most) (name_right v) e).0

pub right_bytes : (most : ℕ) (r : Rule) (v : List ℕ) → right_by most r v ≡ true → all_within 0 255 v ≡ true
unfolding right_by
right_bytes most rule.Plain v e = bytes_are 32 126 v (omega arith) (both (leb (length v) most) (all_within 32 126 v) e).1
right_bytes most rule.Password v e = (both (leb (length v) most) (all_within 0 255 v) e).1
right_bytes most rule.Username v e = name_bytes v (both (leb (length v) most) (name_right v) e).1

-- `is_text`
pub text_of_other_length : (v : Spelling) (text : List ℕ) → (v.length ≡ length text → ⊥) → false ≡ same (text_of v) text
text_of_other_length v text x = lengths_differ (text_of v) text (λ k. x (v.measured ∙ k))

-- A part of a text is no longer than the text.
part_short : (q : List ℕ) (p : Place) → Inside q p.from p.to → length (raw_in q p) ≤ length q
part_short q p i = omega (arith, i, part-long p.from (p.to - p.from) q (omega (arith, i)))

-- A value that was taken from where a walk found its name is the raw value of that name.
pub stands : {in_body : Bool} {q name : List ℕ} {p : Place} {v : Spelling} → Noted q name p → Taken in_body (raw_in q p) v → Stands in_body q (raw_value name q) v
stands {q = q} {p = p} n t = record { taken = record { bytes = t.bytes ∙ n.raw; reading = t.reading }; short = rw t.bytes (part_short q p n.inside) }

-- and the callback, which is empty where it is not read
pub url_stands : {q : List ℕ} {p : Place} {v : Spelling} (w : Validator) → Noted q (ascii "pgtUrl") p → Taken false (callback_in w q p) v → Stands false q (callback_raw w q) v
url_stands validator.Plain n t = record { taken = t; short = rw t.bytes (omega arith) }
url_stands validator.Service n t = stands n t
url_stands validator.Proxy n t = stands n t

-- The names of a path together: each is judged in turn, and tells its value to what is built of all of them.
abbrev pub read_then : {A : Type 0} → Option (List ℕ) → (List ℕ → Read A) → Read A
read_then None f = Malformed
read_then (Some v) f = f v

-- The one law of it: f is what is built from this name's value on, and g that where the other names are judged too.
module _ {A : Type 0} (in_body : Bool) (q name : List ℕ) (most : ℕ) (r : Rule) (p : Place) (n : Noted q name p) (rules : (v : List ℕ) → value_right name v ≡ right_by most r v) where
  one_name : (names : List (List ℕ)) (f : List ℕ → A) (g : List ℕ → Read A) → ((v : List ℕ) → read_unless (malformed in_body names q) (f v) ≡ g v)
      → read_unless (malformed in_body (name ∷ names) q) (f (decoded in_body (raw_value name q))) ≡ read_then (judged_as most in_body r q p) g
  unfolding malformed bad_name judged_as
  one_name names f g others = rw (← n.count, ← n.raw, rules (decoded in_body (raw_in q p))) (go (ltb 1 p.count || not (right_by most r (decoded in_body (raw_in q p)))))
    where
      go : (t : Bool) → read_unless (t || malformed in_body names q) (f (decoded in_body (raw_in q p))) ≡ read_then (if t None (Some (decoded in_body (raw_in q p)))) g
      go true = refl
      go false = others (decoded in_body (raw_in q p))

module _ {A : Type 0} (in_body : Bool) (q : List ℕ) (x : A) where
  no_name : read_unless (malformed in_body [] q) x ≡ Given x
  unfolding malformed
  no_name = refl

-- of the callback, what validate does not read is not bad and tells nothing
unfoldable callback_names : Validator → List (List ℕ)
callback_names validator.Plain = []
callback_names validator.Service = ascii "pgtUrl" ∷ []
callback_names validator.Proxy = ascii "pgtUrl" ∷ []

names_are : (v : Validator) → validator_names v ≡ ascii "service" ∷ ascii "ticket" ∷ ascii "renew" ∷ callback_names v
unfolding validator_names callback_names
names_are validator.Plain = refl
names_are validator.Service = refl
names_are validator.Proxy = refl

one_callback : {A : Type 0} (v : Validator) (q : List ℕ) (p : Place) → Noted q (ascii "pgtUrl") p → (f : List ℕ → A)
    → read_unless (malformed false (callback_names v) q) (f (url_shown v q)) ≡ read_then (callback_as v q p) (λ url. Given (f url))
unfolding callback_names callback_as value_right value_most chars_right among same right_by value_of
one_callback validator.Plain q p n f = no_name false q (f [])
one_callback validator.Service q p n f = one_name false q (ascii "pgtUrl") 200 rule.Plain p n (λ v. refl) _ f _ (λ u. no_name false q (f u))
one_callback validator.Proxy q p n f = one_name false q (ascii "pgtUrl") 200 rule.Plain p n (λ v. refl) _ f _ (λ u. no_name false q (f u))

-- What each path asks, by its names as they are judged.
pub asked_as : {q d : List ℕ} {w : Places} → Walked q (ascii "service") (ascii "renew") (ascii "gateway") d w
    → asked q
    ≡ read_then (judged_as 200 false rule.Plain q w.a) (λ service.
    read_then (judged_as 200 false rule.Plain q w.b) (λ _.
    read_then (judged_as 200 false rule.Plain q w.c) (λ _. Given (asking service (ltb 0 w.b.count) (ltb 0 w.c.count)))))
unfolding asked login_names value_right value_most chars_right among same right_by value_of present
asked_as {q} {d} {w} f =
    rw (← f.second.count, ← f.third.count)
    (one_name false q (ascii "service") 200 rule.Plain w.a f.first (λ v. refl) _ (λ s. asking s (ltb 0 w.b.count) (ltb 0 w.c.count)) _ (λ s.
    one_name false q (ascii "renew") 200 rule.Plain w.b f.second (λ v. refl) _ (λ _. asking s (ltb 0 w.b.count) (ltb 0 w.c.count)) _ (λ _.
    one_name false q (ascii "gateway") 200 rule.Plain w.c f.third (λ v. refl) _ (λ _. asking s (ltb 0 w.b.count) (ltb 0 w.c.count)) _ (λ _. no_name false q _))))

pub posted_as : {q : List ℕ} {w : Places} → Walked q (ascii "service") (ascii "username") (ascii "password") (ascii "lt") w
    → posted q
    ≡ read_then (judged_as 200 true rule.Plain q w.a) (λ service.
    read_then (judged_as 64 true rule.Username q w.b) (λ username.
    read_then (judged_as 128 true rule.Password q w.c) (λ password.
    read_then (judged_as 64 true rule.Plain q w.d) (λ lt. Given (record { service = service; username = username; password = password; lt = lt })))))
unfolding posted body_names value_right value_most chars_right among same right_by value_of
posted_as {q} {w} f =
    one_name true q (ascii "service") 200 rule.Plain w.a f.first (λ v. refl) _ _ _ (λ s.
    one_name true q (ascii "username") 64 rule.Username w.b f.second (λ v. refl) _ _ _ (λ u.
    one_name true q (ascii "password") 128 rule.Password w.c f.third (λ v. refl) _ _ _ (λ p.
    one_name true q (ascii "lt") 64 rule.Plain w.d f.fourth (λ v. refl) _ (λ l. record { service = s; username = u; password = p; lt = l }) _ (λ l. no_name true q _))))

pub leaving_told : {q b c d : List ℕ} {w : Places} → Walked q (ascii "url") b c d w → (o : Option (Value 200)) → option_map spelled o ≡ judged_as 200 false rule.Plain q w.a → spelled_leaving o ≡ leaving q
unfolding leaving logout_names value_right value_most chars_right among same right_by value_of
leaving_told {q} {b} {c} {d} {w} f o k = rw (one_name false q (ascii "url") 200 rule.Plain w.a f.first (λ v. refl) _ (λ u. u) _ (λ u. no_name false q u), ← k) (go o)
  where
    go : (o : Option (Value 200)) → spelled_leaving o ≡ read_then (option_map spelled o) (λ u. Given u)
    go None = refl
    go (Some v) = refl

pub shown_as : {q : List ℕ} {w : Places} (v : Validator) → Walked q (ascii "service") (ascii "ticket") (ascii "renew") (ascii "pgtUrl") w
    → shown v q
    ≡ read_then (judged_as 200 false rule.Plain q w.a) (λ service.
    read_then (judged_as 64 false rule.Plain q w.b) (λ ticket.
    read_then (judged_as 200 false rule.Plain q w.c) (λ _.
    read_then (callback_as v q w.d) (λ url. Given (record { service = service; ticket = ticket; renew = ltb 0 w.c.count; pgt_url = url })))))
unfolding shown value_right value_most chars_right among same right_by value_of present
shown_as {q} {w} v f =
    rw (names_are v, ← f.third.count)
    (one_name false q (ascii "service") 200 rule.Plain w.a f.first (λ v. refl) _ _ _ (λ s.
    one_name false q (ascii "ticket") 64 rule.Plain w.b f.second (λ v. refl) _ _ _ (λ t.
    one_name false q (ascii "renew") 200 rule.Plain w.c f.third (λ v. refl) _ _ _ (λ _.
    one_callback v q w.d f.fourth (λ u. record { service = s; ticket = t; renew = ltb 0 w.c.count; pgt_url = u })))))

pub wanted_as : {q c d : List ℕ} {w : Places} → Walked q (ascii "pgt") (ascii "targetService") c d w
    → wanted q ≡ read_then (judged_as 64 false rule.Plain q w.a) (λ pgt. read_then (judged_as 200 false rule.Plain q w.b) (λ target. Given (record { pgt = pgt; target = target })))
unfolding wanted proxy_names value_right value_most chars_right among same right_by value_of
wanted_as {q} {c} {d} {w} f =
    one_name false q (ascii "pgt") 64 rule.Plain w.a f.first (λ v. refl) _ _ _ (λ p.
    one_name false q (ascii "targetService") 200 rule.Plain w.b f.second (λ v. refl) _ (λ t. record { pgt = p; target = t }) _ (λ t. no_name false q _))
