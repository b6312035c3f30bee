-- Reading a request: its path, the pieces of a query or body, the values of the names that the path uses, and what it asks by them. The steps
-- see what it asks and nothing else of it.
use Rattle.std.specs.Prelude.{Bool, true, false, ◌&&◌, ◌||◌, not, List, [], ◌∷◌, ℕ, zero, suc, ◌+◌, ◌-◌, ◌*◌, eqb, leb, ltb, length, get_or}
use Prim.Native.String.{String}
use Rattle.protocol.specs.Utf8.{name_right}
use Rattle.protocol.specs.Bytes.{if, ascii, same, among, within, all_within, up_to, past, cuts}
use Rattle.protocol.specs.declared.Method.{Method}
use Rattle.protocol.specs.declared.Method.TheVariants as method
use Rattle.protocol.specs.declared.Path.{Path}
use Rattle.protocol.specs.declared.Path.TheVariants as path
use Rattle.protocol.specs.declared.Validator.{Validator}
use Rattle.protocol.specs.declared.Validator.TheVariants as validator

-- the path ends before the first `?`, and the query starts after it
abbrev pub path_part : List ℕ → List ℕ
path_part target = up_to 63 target

abbrev pub query_part : List ℕ → List ℕ
query_part target = past 63 target

-- which path a text is
unfoldable pub path_named : List ℕ → Path
path_named s =
    if (same s (ascii "/cas/login")) path.Login
    (if (same s (ascii "/cas/logout")) path.Logout
    (if (same s (ascii "/cas/validate")) (path.Validate validator.Plain)
    (if (same s (ascii "/cas/serviceValidate")) (path.Validate validator.Service)
    (if (same s (ascii "/cas/proxyValidate")) (path.Validate validator.Proxy)
    (if (same s (ascii "/cas/proxy")) path.Proxy
    path.Unknown)))))

-- empty pieces are skipped
abbrev pub kept : List ℕ → List (List ℕ) → List (List ℕ)
kept [] ps = ps
kept (b ∷ p) ps = (b ∷ p) ∷ ps

unfoldable pub not_empty : List (List ℕ) → List (List ℕ)
not_empty [] = []
not_empty (p ∷ ps) = kept p (not_empty ps)

-- the pieces of a query, from `&` to `&`
unfoldable pub pieces : List ℕ → List (List ℕ)
pieces q = not_empty (cuts 38 q)

-- a piece's name ends at the first `=`; the raw value is what follows
abbrev pub name_in : List ℕ → List ℕ
name_in piece = up_to 61 piece

abbrev pub value_in : List ℕ → List ℕ
value_in piece = past 61 piece

-- how many pieces have a name, compared raw and by case
unfoldable pub count_named : List ℕ → List (List ℕ) → ℕ
count_named name [] = 0
count_named name (p ∷ ps) = if (same (name_in p) name) 1 0 + count_named name ps

-- the raw value of the first piece of a name; empty where there is none
unfoldable pub first_named : List ℕ → List (List ℕ) → List ℕ
first_named name [] = []
first_named name (p ∷ ps) = if (same (name_in p) name) (value_in p) (first_named name ps)

unfoldable pub occurrences : List ℕ → List ℕ → ℕ
occurrences name q = count_named name (pieces q)

unfoldable pub raw_value : List ℕ → List ℕ → List ℕ
raw_value name q = first_named name (pieces q)

-- a hex digit's value; 16 for any other byte
unfoldable pub hex_value : ℕ → ℕ
hex_value b =
    if (within 48 57 b) (b - 48)
    (if (within 65 70 b) (b - 55)
    (if (within 97 102 b) (b - 87)
    16))

-- two hex digits lead a text
abbrev pub hex_leads : List ℕ → Bool
hex_leads s = ltb (hex_value (get_or s 0 0)) 16 && ltb (hex_value (get_or s 1 0)) 16

-- the byte that b begins, before s: `%` and two hex digits are one byte; 256, which is no byte, for a `%` without them; in a body `+` is a space
unfoldable pub unit_of : Bool → ℕ → List ℕ → ℕ
unit_of in_body b s =
    if (eqb b 37)
    (if (hex_leads s) (hex_value (get_or s 0 0) * 16 + hex_value (get_or s 1 0)) 256)
    (if (in_body && eqb b 43) 32 b)

-- how many bytes of s belong to it
unfoldable pub skip_of : ℕ → List ℕ → ℕ
skip_of b s = if (eqb b 37 && hex_leads s) 2 0

-- a raw text decoded, of which the first k bytes belong to a byte before
unfoldable pub decoded_from : Bool → ℕ → List ℕ → List ℕ
decoded_from in_body k [] = []
decoded_from in_body zero (b ∷ s) = unit_of in_body b s ∷ decoded_from in_body (skip_of b s) s
decoded_from in_body (suc k) (b ∷ s) = decoded_from in_body k s

abbrev pub decoded : Bool → List ℕ → List ℕ
decoded in_body raw = decoded_from in_body 0 raw

-- the longest decoded value: 64 for username, lt, ticket, pgt; 128 for password; 200 for others
unfoldable pub value_most : List ℕ → ℕ
value_most name =
    if (among name (ascii "username" ∷ ascii "lt" ∷ ascii "ticket" ∷ ascii "pgt" ∷ [])) 64
    (if (same name (ascii "password")) 128 200)

-- decoded bytes are 32 to 126; a username is a name in UTF-8, and a password has any bytes
unfoldable pub chars_right : List ℕ → List ℕ → Bool
chars_right name value =
    if (same name (ascii "password")) (all_within 0 255 value)
    (if (same name (ascii "username")) (name_right value) (all_within 32 126 value))

-- a decoded value may stand for a name
unfoldable pub value_right : List ℕ → List ℕ → Bool
value_right name value = leb (length value) (value_most name) && chars_right name value

-- the names that a path uses: login in a query, and in a body
unfoldable pub login_names : List (List ℕ)
login_names = ascii "service" ∷ ascii "renew" ∷ ascii "gateway" ∷ []

unfoldable pub body_names : List (List ℕ)
body_names = ascii "service" ∷ ascii "username" ∷ ascii "password" ∷ ascii "lt" ∷ []

-- logout
unfoldable pub logout_names : List (List ℕ)
logout_names = ascii "url" ∷ []

-- the validators, and, but for validate, pgtUrl
unfoldable pub validator_names : Validator → List (List ℕ)
validator_names validator.Plain = ascii "service" ∷ ascii "ticket" ∷ ascii "renew" ∷ []
validator_names validator.Service = ascii "service" ∷ ascii "ticket" ∷ ascii "renew" ∷ ascii "pgtUrl" ∷ []
validator_names validator.Proxy = ascii "service" ∷ ascii "ticket" ∷ ascii "renew" ∷ ascii "pgtUrl" ∷ []

-- proxy
unfoldable pub proxy_names : List (List ℕ)
proxy_names = ascii "pgt" ∷ ascii "targetService" ∷ []

-- a used name stands twice, or its value may not stand
unfoldable pub bad_name : Bool → List ℕ → List ℕ → Bool
bad_name in_body q name = ltb 1 (occurrences name q) || not (value_right name (decoded in_body (raw_value name q)))

-- malformed: so for one of the names
unfoldable pub malformed : Bool → List (List ℕ) → List ℕ → Bool
malformed in_body [] q = false
malformed in_body (n ∷ ns) q = bad_name in_body q n || malformed in_body ns q

-- the decoded value of a name; empty means absent
unfoldable pub value_of : Bool → String → List ℕ → List ℕ
value_of in_body name q = decoded in_body (raw_value (ascii name) q)

abbrev pub from_query : String → List ℕ → List ℕ
from_query name q = value_of false name q

abbrev pub from_body : String → List ℕ → List ℕ
from_body name q = value_of true name q

-- renew and gateway are set when present, with any value
unfoldable pub present : String → List ℕ → Bool
present name q = ltb 0 (occurrences (ascii name) q)

-- What a request asks, for each path. An empty text stands for an absent one.

-- malformed, or what was read
pub data Read (A : Type 0) : Type 0 where
  Malformed : Read A
  Given : A → Read A

abbrev pub read_unless : {A : Type 0} → Bool → A → Read A
read_unless bad a = if bad Malformed (Given a)

-- login, GET
pub record Asked : Type 0 where
  pub service : List ℕ
  pub renew : Bool
  pub gateway : Bool

abbrev pub asking : List ℕ → Bool → Bool → Asked
asking service renew gateway = record { service = service; renew = renew; gateway = gateway }

unfoldable pub asked : List ℕ → Read Asked
asked q = read_unless (malformed false login_names q) (asking (from_query "service" q) (present "renew" q) (present "gateway" q))

-- login, POST
pub record Posted : Type 0 where
  pub service : List ℕ
  pub username : List ℕ
  pub password : List ℕ
  pub lt : List ℕ

unfoldable pub posted : List ℕ → Read Posted
posted body =
    read_unless (malformed true body_names body)
    (record { service = from_body "service" body; username = from_body "username" body; password = from_body "password" body; lt = from_body "lt" body })

-- logout: its url
unfoldable pub leaving : List ℕ → Read (List ℕ)
leaving q = read_unless (malformed false logout_names q) (from_query "url" q)

-- the validators
pub record Shown : Type 0 where
  pub service : List ℕ
  pub ticket : List ℕ
  pub renew : Bool
  pub pgt_url : List ℕ

-- which validate does not read
abbrev pub url_shown : Validator → List ℕ → List ℕ
url_shown validator.Plain q = []
url_shown validator.Service q = from_query "pgtUrl" q
url_shown validator.Proxy q = from_query "pgtUrl" q

unfoldable pub shown : Validator → List ℕ → Read Shown
shown v q =
    read_unless (malformed false (validator_names v) q)
    (record { service = from_query "service" q; ticket = from_query "ticket" q; renew = present "renew" q; pgt_url = url_shown v q })

-- proxy
pub record Wanted : Type 0 where
  pub pgt : List ℕ
  pub target : List ℕ

unfoldable pub wanted : List ℕ → Read Wanted
wanted q = read_unless (malformed false proxy_names q) (record { pgt = from_query "pgt" q; target = from_query "targetService" q })

-- a request, read: by its path and method
pub data Request : Type 0 where
  NoPath : Request
  NotTaken : Request
  LoginGet : Read Asked → Request
  LoginPost : Read Posted → Request
  Logout : Read (List ℕ) → Request
  Validate : Validator → Read Shown → Request
  Proxy : Read Wanted → Request

-- GET reads the query
abbrev pub get_request : Path → List ℕ → Request
get_request path.Login q = LoginGet (asked q)
get_request path.Logout q = Logout (leaving q)
get_request (path.Validate v) q = Validate v (shown v q)
get_request path.Proxy q = Proxy (wanted q)
get_request path.Unknown q = NoPath

-- POST reads the body only, and only login takes it
abbrev pub post_request : Path → List ℕ → Request
post_request path.Login body = LoginPost (posted body)
post_request path.Logout body = NotTaken
post_request (path.Validate v) body = NotTaken
post_request path.Proxy body = NotTaken
post_request path.Unknown body = NoPath

abbrev pub request_of : Method → List ℕ → List ℕ → Request
request_of method.Get target body = get_request (path_named (path_part target)) (query_part target)
request_of method.Post target body = post_request (path_named (path_part target)) body
