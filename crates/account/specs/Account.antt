-- Demand 3: the account of a table's whole life. The theorem `account` gives the record at the end of this file for every run.
--
-- Where each word comes from:
-- * From result fields alone: how many tickets are issued, accepted and told successful, `issued_by`, `accepted_by`, `success_by`; and which answers
--   must not look like a success, `Frank`.
-- * From bytes: which ticket was issued, by the places in Reading; what a panel sees, `looks_good`; the user and the proxies of a document,
--   `texts_in`, read between tags and unescaped as a panel does.
-- * From the notebook, kept from the history alone: which tickets are held, burnt, ended and expired, `tally`; that an accepted ticket was held just
--   then, and that a grant still waited.
-- * From Truth, told from the history alone and without the notebook: where a ticket comes from, `known.origin`, and the callback of a serial,
--   `known.called`: service, user, sign-on time, chain, credentials.
-- * From the table: the tickets that wait, `waiting_in`.
--
-- Words of its own: the paths of the validators and of proxy, `renew`, credentials and whose they are, a change of user, chains, what burns a
-- ticket, documents as a panel reads them.
-- Words that it shares with the server, so that an error in them is an error in both: how a request is read into its parameters, and when it is
-- malformed (`request_of`, `path_part`, `query_part`); the register (`decode_register`, `unknown_service`); the record of a table (`decode_table`, `name_of`,
-- `live`); lifetimes (`lifetime`); the wording of the success document besides user and proxies (`success_text`: date, mark, IOU); the numbers of a
-- result's cases (`number_of`, `serial_of`); and the byte helpers `is_empty`, `same`, `among`, `cuts`, `part`, `up_to`.
use Rattle.std.specs.Prelude.{◌≡◌, Bool, true, false, ◌&&◌, ◌||◌, List, [], ◌∷◌, ℕ, zero, suc, ◌+◌, ◌≤◌, eqb, length, take, drop, get_or}
use Rattle.protocol.specs.Bytes.{if, ascii, is_empty, same, among, cuts}
use Rattle.protocol.specs.Records.{Rec, name_of, live}
use Rattle.protocol.specs.Table.{decode_table}
use Rattle.protocol.specs.Request.{path_part}
use Rattle.protocol.specs.Answers.{success_text}
use Rattle.protocol.specs.declared.Answer.{Answer}
use Rattle.account.specs.History.{Text, Call, ask, tell, tidy, Event}
use Rattle.account.specs.Reading.{Showing, Said, carries, tells, calls_back, said_in, trail_of}
use Rattle.account.specs.Notebook.{held, accepted, burnt, ended, expired, came_to, Notebook, is_ticket, is_ticket_line, is_waiting_line, is_found, look, pass, notebook, tally}
use Rattle.account.specs.Truth.{Origin, Granting, Known, known, live_in, count}

-- Counted straight from the results

-- the validators, by name
abbrev pub validators : List Text
validators = ascii "/cas/validate" ∷ ascii "/cas/serviceValidate" ∷ ascii "/cas/proxyValidate" ∷ []

abbrev pub one : Bool → ℕ
one true = 1
one false = 0

-- a redirect with a ticket, or success of proxy
unfoldable pub issued_by : Call → Answer → ℕ
issued_by (ask a) r = one (carries r || (same (path_part a.target) (ascii "/cas/proxy") && tells r))
issued_by (tell f) r = 0
issued_by (tidy time) r = 0

-- a validator that answers yes, success or callback
unfoldable pub accepted_by : Call → Answer → ℕ
accepted_by (ask a) r = one (among (path_part a.target) validators && (tells r || calls_back r))
accepted_by (tell f) r = 0
accepted_by (tidy time) r = 0

-- a success answer: of a validator that answers yes or success, or of finish
unfoldable pub success_by : Call → Answer → ℕ
success_by (ask a) r = one (among (path_part a.target) validators && tells r)
success_by (tell f) r = one (tells r)
success_by (tidy time) r = 0

-- in a history; a refused call answers nothing
unfoldable pub sum_of : (Call → Answer → ℕ) → List Event → ℕ
sum_of by [] = 0
sum_of by (e ∷ es) = by e.call e.outcome.answer + sum_of by es

-- Read from the table: the tickets that wait in it, live records of kind 3 and 4 whose text passes a test

unfoldable pub waiting_among : (Text → Bool) → ℕ → List Rec → ℕ
waiting_among test clock [] = 0
waiting_among test clock (r ∷ rs) = one (is_ticket r.kind && test (name_of r) && live clock r) + waiting_among test clock rs

unfoldable pub waiting_in : (Text → Bool) → Text → ℕ
waiting_in test table = waiting_among test (decode_table table).clock (decode_table table).slots

-- What a panel sees: the bytes

abbrev pub success_start : Text
success_start = ascii "<cas:serviceResponse xmlns:cas=\"http://www.yale.edu/tp/cas\">\n  <cas:authenticationSuccess>"

-- bytes that begin with `yes`, or as the success document does
abbrev pub looks_good : Text → Bool
looks_good said = same (take 3 said) (ascii "yes") || same (take (length success_start) said) success_start

-- the answer of a validator or of finish that does not say success does not look like one; a callback does not go to the panel
unfoldable pub Frank : Call → Answer → Text → Type 0
Frank (ask a) r said = among (path_part a.target) validators ≡ true → (tells r || calls_back r) ≡ false → looks_good said ≡ false
Frank (tell f) r said = tells r ≡ false → looks_good said ≡ false
Frank (tidy time) r said = Unit {0}

unfoldable pub AllFrank : List Event → Type 0
AllFrank [] = Unit {0}
AllFrank (e ∷ es) = Frank e.call e.outcome.answer (said_in e) × AllFrank es

-- the byte that `&` and what follows stand for, and how long that is
abbrev pub entity : Text → ℕ
entity s = if (eqb (get_or s 0 0) 97) 38 (if (eqb (get_or s 0 0) 108) 60 (if (eqb (get_or s 0 0) 103) 62 (if (eqb (get_or s 0 0) 113) 34 39)))

abbrev pub entity_length : Text → ℕ
entity_length s = if (eqb (get_or s 0 0) 113) 5 (if (eqb (get_or s 1 0) 116) 3 4)

-- a text as it was before it was escaped, of which the first k bytes belong to a byte before
unfoldable pub unescaped : ℕ → Text → Text
unescaped k [] = []
unescaped zero (b ∷ s) = if (eqb b 38) (entity s) b ∷ unescaped (if (eqb b 38) (entity_length s) 0) s
unescaped (suc k) (b ∷ s) = unescaped k s

-- the texts of all elements of a name, each from its tag to the next `<`
unfoldable pub texts_in : Text → List Text → List Text
texts_in tag [] = []
texts_in tag (p ∷ ps) = if (same (take (length tag) p) tag) (unescaped 0 (drop (length tag) p) ∷ texts_in tag ps) (texts_in tag ps)

-- a document tells of one user and a chain of proxies
pub record Tells (user : Text) (chain : List Text) (said : Text) : Type 0 where
  pub its_user : texts_in (ascii "cas:user>") (cuts 60 said) ≡ user ∷ []
  pub its_chain : texts_in (ascii "cas:proxy>") (cuts 60 said) ≡ chain

-- What is owed for what a call says, by all that was said before it

-- an accepted ticket: it was held just then; it was issued, to this very service; under renew by a call with accepted credentials; a proxy
-- ticket only by proxyValidate
pub record Rightful (x : Showing) (o : Origin) (b : Notebook) : Type 0 where
  pub was_held : is_found (look (is_ticket_line x.ticket) b.book) ≡ true
  pub issued : o.issued ≡ true
  pub its_service : o.service ≡ x.service
  pub primary : x.renew ≡ true → o.credentials ≡ true
  pub allowed : o.proxied ≡ true → x.path ≡ ascii "/cas/proxyValidate"

-- what a validator says of it: validate `yes`, the others a document with the user, the sign-on time, the mark, which is 1 where credentials
-- came with the issuing call, and the chain
pub record Welcome (path said : Text) (o : Origin) : Type 0 where
  pub bytes : said ≡ if (same path (ascii "/cas/validate")) (ascii "yes\n") (success_text o.user o.since (one o.credentials) [] o.chain)
  pub telling : same path (ascii "/cas/validate") ≡ false → Tells o.user o.chain said

-- what finish says of the callback of a serial, whose grant still waited: the same of the ticket accepted, and the IOU that was shown only where
-- the outcome was yes
pub record Settlement (s : Said) (g : Granting) (b : Notebook) : Type 0 where
  pub waited : is_found (look (is_waiting_line s.serial) b.book) ≡ true
  pub made : g.from.issued ≡ true
  pub bytes : s.said ≡ success_text g.from.user g.from.since (one g.from.credentials) (if s.outcome g.iou []) g.from.chain
  pub telling : Tells g.from.user g.from.chain s.said

-- for one call, by what was known and the notebook as its time had passed; a session is opened by accepted credentials only
pub record Owed (s : Said) (k : Known) (b : Notebook) : Type 0 where
  pub opens : is_empty s.opened ≡ false → (s.by.given ≡ true) × (live_in s k ≡ true)
  pub accepts : s.showing.accepted ≡ true → Rightful s.showing (k.origin s.showing.ticket) b
  pub welcomes : s.showing.accepted ≡ true → is_empty s.showing.pgt ≡ true → Welcome s.showing.path s.said (k.origin s.showing.ticket)
  pub settles : s.settled ≡ true → Settlement s (k.called s.serial) b

unfoldable pub Honest : ℕ → List Said → Type 0
Honest start [] = Unit {0}
Honest start (s ∷ older) = Owed s (known start older) (pass s.time (notebook start older)) × Honest start older

-- the account of a history h since the format at the time start, beside the table's bytes b after it
pub record Account (start : ℕ) (h : List Event) (b : Text) : Type 0 where
  -- nothing is left unread: the results issue, accept and succeed as often as what was read of them
  pub issues_read : sum_of issued_by h ≡ length (known start (trail_of h)).issued
  pub accepts_read : sum_of accepted_by h ≡ length (known start (trail_of h)).accepted
  pub successes_read : sum_of success_by h ≡ length (known start (trail_of h)).successful
  -- bytes that look like a success are counted as one
  pub frank : AllFrank h
  -- every ticket issued is accounted for, all together and each alone: whichever texts are counted
  pub balance : (test : Text → Bool)
      → count test (known start (trail_of h)).issued
      ≡ count test (known start (trail_of h)).accepted + tally test (came_to burnt) (notebook start (trail_of h)).book + tally test (came_to ended) (notebook start (trail_of h)).book + tally test (came_to expired) (notebook start (trail_of h)).book + waiting_in test b
  -- the notebook's accepted tickets are those, and its held ones are those that wait in the table
  pub accepted_noted : (test : Text → Bool) → count test (known start (trail_of h)).accepted ≡ tally test (came_to accepted) (notebook start (trail_of h)).book
  pub waiting_noted : (test : Text → Bool) → waiting_in test b ≡ tally test (came_to held) (notebook start (trail_of h)).book
  -- no ticket is issued twice or accepted twice, and none gets two success answers
  pub issued_once : (x : Text) → count (λ (y : Text). same y x) (known start (trail_of h)).issued ≤ 1
  pub accepted_once : (x : Text) → count (λ (y : Text). same y x) (known start (trail_of h)).accepted ≤ 1
  pub once : (x : Text) → count (λ (y : Text). same y x) (known start (trail_of h)).successful ≤ 1
  -- every acceptance and every success answer is right: service, credentials, user, sign-on time, mark and chain
  pub honest : Honest start (trail_of h)
