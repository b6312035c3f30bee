-- Reading one call and its answer: what they say of tickets, by the request's own words, by the result and by the known places of the answer's
-- bytes. Nothing is remembered from one call to the next, and no table is read.
use Rattle.std.specs.Prelude.{Bool, true, false, ◌&&◌, ◌||◌, not, List, [], ◌∷◌, ℕ, ◌+◌, eqb, length, take, drop}
use Rattle.protocol.specs.Bytes.{if, ascii, is_empty, same, part, up_to, cuts}
use Rattle.protocol.specs.Register.{decode_register}
use Rattle.protocol.specs.Request.{Malformed, Given, Posted, Shown, Request, NoPath, NotTaken, LoginGet, LoginPost, Logout, Validate, Proxy, request_of, path_part, query_part}
use Rattle.protocol.specs.Answers.{number_of, serial_of}
use Rattle.protocol.specs.Steps.{unknown_service}
use Rattle.protocol.specs.declared.Answer.{Answer}
use Rattle.protocol.specs.declared.Answer.TheVariants as answer
use Rattle.account.specs.History.{Text, AnswerCall, Call, ask, tell, tidy, Event}

-- What a call says. An empty text is none, and a part whose first field is empty or false is none

-- a sign-on: a username, whether the host said yes to it with a username and a password and for no unknown service, and a login ticket
pub record Credentials : Type 0 where
  pub posted : Bool
  pub user : Text
  pub given : Bool
  pub lt : Text

-- a ticket shown to the validator of a path for a service, with pgtUrl, and accepted or burnt; and the waiting grant and the IOU of a callback
pub record Showing : Type 0 where
  pub ticket : Text
  pub service : Text
  pub path : Text
  pub renew : Bool
  pub accepted : Bool
  pub url : Text
  pub pgt : Text
  pub iou : Text

pub record Said : Type 0 where
  -- when the call was answered, and the cookie that it came with
  pub time : ℕ
  pub cookie : Text
  -- a sign-on, and the cookie of the session that it opened
  pub by : Credentials
  pub opened : Text
  -- the session of the cookie ended
  pub ended : Bool
  -- the login ticket that a form shows
  pub form : Text
  -- the ticket that is issued to a service, under the session of a cookie; or by a grant, where there is one
  pub issued : Text
  pub service : Text
  pub session : Text
  pub grant : Text
  pub showing : Showing
  -- finish told success, for this outcome; the serial of its callback, or of the callback that a validator makes; and the bytes said by either
  pub settled : Bool
  pub outcome : Bool
  pub serial : ℕ
  pub said : Text

abbrev pub no_credentials : Credentials
no_credentials = record { posted = false; user = []; given = false; lt = [] }

abbrev pub no_showing : Showing
no_showing = record { ticket = []; service = []; path = []; renew = false; accepted = false; url = []; pgt = []; iou = [] }

-- a call in which no ticket is shown and nothing settled
abbrev pub says : AnswerCall → Credentials → Text → Bool → Text → Text → Text → Text → Text → Said
says a by opened ended form issued service session grant =
    record { time = a.time; cookie = a.cookie; by = by; opened = opened; ended = ended; form = form; issued = issued; service = service; session = session; grant = grant; showing = no_showing; settled = false; outcome = false; serial = 0; said = [] }

-- what a result says: a redirect with a ticket; yes or success; a callback
abbrev pub carries : Answer → Bool
carries answer.Nothing = false
carries (answer.Page status) = false
carries (answer.Redirect ticket) = ticket
carries (answer.Text b) = false
carries (answer.Xml success) = false
carries (answer.Callback n) = false

abbrev pub tells : Answer → Bool
tells answer.Nothing = false
tells (answer.Page status) = false
tells (answer.Redirect ticket) = false
tells (answer.Text b) = b
tells (answer.Xml success) = success
tells (answer.Callback n) = false

abbrev pub calls_back : Answer → Bool
calls_back r = eqb (number_of r) 5

-- renew stands in a query: one of its pieces, from `&` to `&`, is `renew` up to the first `=`
unfoldable pub renew_among : List Text → Bool
renew_among [] = false
renew_among (p ∷ ps) = same (up_to 61 p) (ascii "renew") || renew_among ps

abbrev pub asks_renew : Text → Bool
asks_renew query = renew_among (cuts 38 query)

-- the ticket of a redirect: after the service, `?` or `&` and `ticket=`
abbrev pub ticket_in : Text → Text → Text
ticket_in service said = drop (length service + 8) said

-- a form has `<form` after its three first lines, and its login ticket up to the next `"` after the third input's value begins
abbrev pub form_start : Text
form_start = ascii "<form method=\"post\" action=\"/cas/login\">\n<input name=\"username\">\n<input name=\"password\" type=\"password\">\n<input name=\"lt\" type=\"hidden\" value=\""

abbrev pub is_form : Text → Bool
is_form said = same (part 46 5 said) (ascii "<form")

abbrev pub login_in : Text → Text
login_in said = up_to 34 (drop (46 + length form_start) said)

-- the grant of a callback: after pgtUrl, `?` or `&` and `pgtId=`, up to the next `&`; and the IOU: after it and `&pgtIou=`
abbrev pub pgt_in : Text → Text → Text
pgt_in url said = up_to 38 (drop (length url + 7) said)

abbrev pub iou_in : Text → Text → Text
iou_in url said = drop (length url + 7 + length (pgt_in url said) + 8) said

-- the ticket of proxy's success: between its tags
abbrev pub proxy_start : Text
proxy_start = ascii "<cas:serviceResponse xmlns:cas=\"http://www.yale.edu/tp/cas\">\n  <cas:proxySuccess>\n    <cas:proxyTicket>"

abbrev pub proxy_in : Text → Text
proxy_in said = up_to 60 (drop (length proxy_start) said)

-- login: a redirect with a ticket under the session after the call, or a form; a sign-on that writes a cookie opens its session
abbrev pub credentials_in : AnswerCall → Posted → Credentials
credentials_in a p =
    record { posted = true; user = p.username; given = a.verdict && not (is_empty p.username) && not (is_empty p.password) && not (unknown_service p.service (decode_register a.register)); lt = p.lt }

unfoldable pub read_login : AnswerCall → Credentials → Text → Answer → Text → Text → Said
read_login a by service r said opened =
    says a by opened false (if (eqb (number_of r) 1 && is_form said) (login_in said) []) (if (carries r) (ticket_in service said) []) service (if (is_empty opened) a.cookie opened) []

-- a validator, where service and ticket are there: yes, success and callback accept the ticket, all else burns it
abbrev pub showing_in : AnswerCall → Shown → Answer → Text → Showing
showing_in a x r said =
    record {
      ticket = x.ticket;
      service = x.service;
      path = path_part a.target;
      renew = asks_renew (query_part a.target);
      accepted = tells r || calls_back r;
      url = x.pgt_url;
      pgt = if (calls_back r) (pgt_in x.pgt_url said) [];
      iou = if (calls_back r) (iou_in x.pgt_url said) [];
    }

abbrev pub shows : AnswerCall → Showing → ℕ → Text → Said
shows a showing serial said =
    record { time = a.time; cookie = a.cookie; by = no_credentials; opened = []; ended = false; form = []; issued = []; service = []; session = []; grant = []; showing = showing; settled = false; outcome = false; serial = serial; said = said }

-- the time, and whether the session of the cookie ended
abbrev pub quiet : AnswerCall → Bool → Said
quiet a ended = says a no_credentials [] ended [] [] [] [] []

-- a request; a malformed one says nothing but the time, and logout ends the session where it clears the cookie
unfoldable pub read_request : AnswerCall → Request → Answer → Text → Text → Bool → Said
read_request a NoPath r said cookie cleared = quiet a false
read_request a NotTaken r said cookie cleared = quiet a false
read_request a (LoginGet Malformed) r said cookie cleared = quiet a false
read_request a (LoginGet (Given q)) r said cookie cleared = read_login a no_credentials q.service r said []
read_request a (LoginPost Malformed) r said cookie cleared = quiet a false
read_request a (LoginPost (Given p)) r said cookie cleared = read_login a (credentials_in a p) p.service r said cookie
read_request a (Logout url) r said cookie cleared = quiet a cleared
read_request a (Validate v Malformed) r said cookie cleared = quiet a false
read_request a (Validate v (Given x)) r said cookie cleared = shows a (if (is_empty x.service || is_empty x.ticket) no_showing (showing_in a x r said)) (serial_of r) said
read_request a (Proxy Malformed) r said cookie cleared = quiet a false
read_request a (Proxy (Given w)) r said cookie cleared = says a no_credentials [] false [] (if (tells r) (proxy_in said) []) w.target [] w.pgt

-- a call without a cookie: finish, which may settle a callback; housekeeping says its time and nothing else
abbrev pub settles : ℕ → Bool → Bool → ℕ → Text → Said
settles time settled outcome serial said =
    record { time = time; cookie = []; by = no_credentials; opened = []; ended = false; form = []; issued = []; service = []; session = []; grant = []; showing = no_showing; settled = settled; outcome = outcome; serial = serial; said = said }

unfoldable pub read_call : Call → Answer → Text → Text → Bool → Said
read_call (ask a) r said cookie cleared = read_request a (request_of a.method a.target a.body) r said cookie cleared
read_call (tell f) r said cookie cleared = settles f.time (tells r) f.outcome f.serial said
read_call (tidy time) r said cookie cleared = settles time false false 0 []

-- the bytes of an answer
abbrev pub said_in : Event → Text
said_in e = take e.outcome.length e.out

-- all that a history says, the newest first, with the cookies written; a refused call says nothing
unfoldable pub trail_of : List Event → List Said
trail_of [] = []
trail_of (e ∷ es) =
    if (eqb e.outcome.refusal 0)
    (read_call e.call e.outcome.answer (said_in e) (take e.outcome.cookie_length e.cookie) e.outcome.cookie_cleared ∷ trail_of es) (trail_of es)
