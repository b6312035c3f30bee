-- What was read of a request keeps its limits: a value of a well-formed request has the length and the bytes of its name. Assumes nothing.
use mathlib.Core.Path.{◌≡◌, refl}
use mathlib.Core.Bool.{Bool, true, false, not}
use mathlib.Core.List.{List, [], ◌∷◌}
use Prim.Native.Nat.{ℕ, ◌≤◌}
use native.Mathlib.Omega.{arith}
use borrow.Author.Tests.{leb-true, not-false}
use lib.Dec.{leb, ltb}
use lib.ListN.{length}
use Rattle.protocol.specs.Utf8.{name_right}
use Rattle.protocol.specs.Bytes.{ascii, same, among, all_within}
use Rattle.protocol.specs.Request.{Read, Malformed, Given, Asked, asked, Posted, posted, leaving, Shown, shown, Wanted, wanted, Request, NoPath, NotTaken, LoginGet, LoginPost, Logout, Validate, Proxy, request_of, get_request, post_request, path_part, path_named, query_part, url_shown, login_names, logout_names, body_names, validator_names, proxy_names, malformed, bad_name, occurrences, raw_value, decoded, value_right, value_most, chars_right, value_of, from_query, from_body}
use Rattle.protocol.specs.declared.Method.{Method}
use Rattle.protocol.specs.declared.Method.TheVariants as method
use Rattle.protocol.specs.declared.Path.{Path}
use Rattle.protocol.specs.declared.Path.TheVariants as path
use Rattle.protocol.specs.declared.Validator.{Validator}
use Rattle.protocol.specs.declared.Validator.TheVariants as validator
use Rattle.protocol.proofs.Laws.{both, or_both, fork}

-- a value of at most so many bytes, from 32 to 126
pub record Plain (most : ℕ) (v : List ℕ) : Type 0 where
  pub short : length v ≤ most
  pub bytes : all_within 32 126 v ≡ true

-- a name that is not bad has a value that may stand
pub good_value : (in_body : Bool) (q name : List ℕ) → bad_name in_body q name ≡ false → value_right name (decoded in_body (raw_value name q)) ≡ true
unfolding bad_name
good_value in_body q name e = not-false (value_right name (decoded in_body (raw_value name q))) (or_both (ltb 1 (occurrences name q)) (not (value_right name (decoded in_body (raw_value name q)))) e).1

-- the plain names of 64 and of 200 bytes, and the username
plain_value : (most : ℕ) (name v : List ℕ) → value_most name ≡ most → chars_right name v ≡ all_within 32 126 v → value_right name v ≡ true → Plain most v
unfolding value_right
plain_value most name v m c e =
    let p = both (leb (length v) (value_most name)) (chars_right name v) e in
    record { short = rw m at (leb-true (length v) (value_most name) p.0); bytes = rw c at p.1 }

service_value : (v : List ℕ) → value_right (ascii "service") v ≡ true → Plain 200 v
unfolding value_most chars_right among same
service_value v e = plain_value 200 (ascii "service") v refl refl e

-- what each path has read
pub record ProperPost (p : Posted) : Type 0 where
  pub service : Plain 200 p.service
  pub user_short : length p.username ≤ 64
  pub user_bytes : name_right p.username ≡ true
  pub password_short : length p.password ≤ 128

abbrev pub ProperAsked : Read Asked → Type 0
ProperAsked Malformed = Unit {0}
ProperAsked (Given a) = Plain 200 a.service

abbrev pub ProperPosted : Read Posted → Type 0
ProperPosted Malformed = Unit {0}
ProperPosted (Given p) = ProperPost p

abbrev pub ProperLeaving : Read (List ℕ) → Type 0
ProperLeaving Malformed = Unit {0}
ProperLeaving (Given url) = Plain 200 url

abbrev pub ProperShown : Read Shown → Type 0
ProperShown Malformed = Unit {0}
ProperShown (Given a) = Plain 200 a.pgt_url

abbrev pub ProperWanted : Read Wanted → Type 0
ProperWanted Malformed = Unit {0}
ProperWanted (Given a) = Plain 200 a.target

abbrev pub Proper : Request → Type 0
Proper NoPath = Unit {0}
Proper NotTaken = Unit {0}
Proper (LoginGet a) = ProperAsked a
Proper (LoginPost p) = ProperPosted p
Proper (Logout url) = ProperLeaving url
Proper (Validate v a) = ProperShown a
Proper (Proxy a) = ProperWanted a

asked_proper : (q : List ℕ) → ProperAsked (asked q)
unfolding asked malformed login_names value_of
asked_proper q = fork ProperAsked (malformed false login_names q) (λ e. tt) (λ e. value e)
  where
    value : malformed false login_names q ≡ false → Plain 200 (from_query "service" q)
    value e = service_value (from_query "service" q) (good_value false q (ascii "service") (or_both (bad_name false q (ascii "service")) (malformed false (ascii "renew" ∷ ascii "gateway" ∷ []) q) e).0)

pub posted_proper : (body : List ℕ) → ProperPosted (posted body)
unfolding posted malformed body_names value_of value_right value_most chars_right among same
posted_proper body = fork ProperPosted (malformed true body_names body) (λ e. tt) (λ e. values e)
  where
    name_value : (v : List ℕ) → value_right (ascii "username") v ≡ true → (length v ≤ 64) × (name_right v ≡ true)
    name_value v e = let p = both (leb (length v) 64) (name_right v) e in (leb-true (length v) 64 p.0, p.1)

    secret_value : (v : List ℕ) → value_right (ascii "password") v ≡ true → length v ≤ 128
    secret_value v e = leb-true (length v) 128 (both (leb (length v) 128) (all_within 0 255 v) e).0

    values : malformed true body_names body ≡ false → ProperPost (record { service = from_body "service" body; username = from_body "username" body; password = from_body "password" body; lt = from_body "lt" body })
    values e =
        let a = or_both (bad_name true body (ascii "service")) (malformed true (ascii "username" ∷ ascii "password" ∷ ascii "lt" ∷ []) body) e in
        let b = or_both (bad_name true body (ascii "username")) (malformed true (ascii "password" ∷ ascii "lt" ∷ []) body) a.1 in
        let c = or_both (bad_name true body (ascii "password")) (malformed true (ascii "lt" ∷ []) body) b.1 in
        let u = name_value (from_body "username" body) (good_value true body (ascii "username") b.0) in
        record { service = service_value (from_body "service" body) (good_value true body (ascii "service") a.0); user_short = u.0; user_bytes = u.1; password_short = secret_value (from_body "password" body) (good_value true body (ascii "password") c.0) }

leaving_proper : (q : List ℕ) → ProperLeaving (leaving q)
unfolding leaving malformed logout_names value_of value_most chars_right among same
leaving_proper q = fork ProperLeaving (malformed false logout_names q) (λ e. tt) (λ e. value e)
  where
    value : malformed false logout_names q ≡ false → Plain 200 (from_query "url" q)
    value e = plain_value 200 (ascii "url") (from_query "url" q) refl refl (good_value false q (ascii "url") (or_both (bad_name false q (ascii "url")) false e).0)

no_url : Plain 200 []
unfolding all_within
no_url = record { short = omega arith; bytes = refl }

url_value : (q : List ℕ) → malformed false (ascii "service" ∷ ascii "ticket" ∷ ascii "renew" ∷ ascii "pgtUrl" ∷ []) q ≡ false → Plain 200 (from_query "pgtUrl" q)
unfolding malformed value_of value_most chars_right among same
url_value q e =
    let a = or_both (bad_name false q (ascii "service")) (malformed false (ascii "ticket" ∷ ascii "renew" ∷ ascii "pgtUrl" ∷ []) q) e in
    let b = or_both (bad_name false q (ascii "ticket")) (malformed false (ascii "renew" ∷ ascii "pgtUrl" ∷ []) q) a.1 in
    let c = or_both (bad_name false q (ascii "renew")) (malformed false (ascii "pgtUrl" ∷ []) q) b.1 in
    plain_value 200 (ascii "pgtUrl") (from_query "pgtUrl" q) refl refl (good_value false q (ascii "pgtUrl") (or_both (bad_name false q (ascii "pgtUrl")) false c.1).0)

shown_proper : (v : Validator) (q : List ℕ) → ProperShown (shown v q)
unfolding shown validator_names
shown_proper v q = fork ProperShown (malformed false (validator_names v) q) (λ e. tt) (λ e. value v e)
  where
    value : (v : Validator) → malformed false (validator_names v) q ≡ false → Plain 200 (url_shown v q)
    value validator.Plain e = no_url
    value validator.Service e = url_value q e
    value validator.Proxy e = url_value q e

wanted_proper : (q : List ℕ) → ProperWanted (wanted q)
unfolding wanted malformed proxy_names value_of value_most chars_right among same
wanted_proper q = fork ProperWanted (malformed false proxy_names q) (λ e. tt) (λ e. value e)
  where
    value : malformed false proxy_names q ≡ false → Plain 200 (from_query "targetService" q)
    value e =
        let a = or_both (bad_name false q (ascii "pgt")) (malformed false (ascii "targetService" ∷ []) q) e in
        plain_value 200 (ascii "targetService") (from_query "targetService" q) refl refl (good_value false q (ascii "targetService") (or_both (bad_name false q (ascii "targetService")) false a.1).0)

get_proper : (p : Path) (q : List ℕ) → Proper (get_request p q)
get_proper path.Login q = asked_proper q
get_proper path.Logout q = leaving_proper q
get_proper (path.Validate v) q = shown_proper v q
get_proper path.Proxy q = wanted_proper q
get_proper path.Unknown q = tt

post_proper : (p : Path) (body : List ℕ) → Proper (post_request p body)
post_proper path.Login body = posted_proper body
post_proper path.Logout body = tt
post_proper (path.Validate v) body = tt
post_proper path.Proxy body = tt
post_proper path.Unknown body = tt

pub request_proper : (m : Method) (target body : List ℕ) → Proper (request_of m target body)
request_proper method.Get target body = get_proper (path_named (path_part target)) (query_part target)
request_proper method.Post target body = post_proper (path_named (path_part target)) body
