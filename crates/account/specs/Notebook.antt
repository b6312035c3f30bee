-- The clerk's notebook: a line for each login ticket, session, ticket and grant that an answer named, kept from the history alone.
-- No slot and no table: a line is found by the text that the answers showed, or by the serial of a callback.
use Rattle.std.specs.Prelude.{Bool, true, false, ◌&&◌, ◌||◌, not, List, [], ◌∷◌, map, ℕ, ◌+◌, min, max, eqb, leb}
use Rattle.protocol.specs.Bytes.{if, is_empty, same}
use Rattle.protocol.specs.Tickets.{a_login, a_session, a_service, a_proxy, a_waiting, a_grant, lifetime}
use Rattle.account.specs.History.{Text}
use Rattle.account.specs.Reading.{Credentials, Showing, Said}

-- held until it comes to its end: accepted at step 6, burnt at 3 to 5, ended by logout or a change of user, expired by the clock;
-- login tickets and waiting grants are spent
pub data Fate : Type 0 where
  held accepted burnt ended expired spent : Fate

abbrev pub fate_number : Fate → ℕ
fate_number held = 0
fate_number accepted = 1
fate_number burnt = 2
fate_number ended = 3
fate_number expired = 4
fate_number spent = 5

abbrev pub came_to : Fate → Fate → Bool
came_to f g = eqb (fate_number g) (fate_number f)

pub record Line : Type 0 where
  -- kind, whole text, and the serial for finish of a waiting grant
  pub kind : ℕ
  pub name : Text
  pub ref : ℕ
  -- its session: the cookie, the user, when it expires
  pub session : Text
  pub user : Text
  pub until : ℕ
  pub expiry : ℕ
  pub fate : Fate

pub record Notebook : Type 0 where
  pub clock : ℕ
  pub book : List Line

abbrev pub line : ℕ → Text → ℕ → Text → Text → ℕ → ℕ → Fate → Line
line kind name ref session user until expiry fate = record { kind = kind; name = name; ref = ref; session = session; user = user; until = until; expiry = expiry; fate = fate }

-- New lines; no ticket outlives its session

abbrev pub login_line : Text → ℕ → Line
login_line lt clock = line a_login lt 0 [] [] 0 (clock + lifetime a_login) held

abbrev pub session_line : Text → Text → ℕ → Line
session_line cookie user clock = line a_session cookie 0 cookie user (clock + lifetime a_session) (clock + lifetime a_session) held

-- under the session of a line s
abbrev pub line_under : ℕ → Text → ℕ → ℕ → Line → Line
line_under kind name ref clock s = line kind name ref s.session s.user s.until (min (clock + lifetime kind) s.until) held

-- Tests

-- a line of a kind with this whole text
abbrev pub is_line : ℕ → Text → Line → Bool
is_line kind name e = eqb e.kind kind && same e.name name

-- a service or proxy ticket
abbrev pub is_ticket : ℕ → Bool
is_ticket kind = eqb kind a_service || eqb kind a_proxy

abbrev pub is_ticket_line : Text → Line → Bool
is_ticket_line name e = is_ticket e.kind && same e.name name

-- the waiting grant of a serial
abbrev pub is_waiting_line : ℕ → Line → Bool
is_waiting_line serial e = eqb e.kind a_waiting && eqb e.ref serial

-- a session, and all that stands under it: everything but login tickets
abbrev pub of_session : Text → Line → Bool
of_session cookie e = not (eqb e.kind a_login) && same e.session cookie

-- the first held line that a test picks
pub data Look : Type 0 where
  found : Line → Look
  nothing : Look

abbrev pub is_found : Look → Bool
is_found (found e) = true
is_found nothing = false

unfoldable pub look : (Line → Bool) → List Line → Look
look test [] = nothing
look test (e ∷ es) = if (came_to held e.fate && test e) (found e) (look test es)

-- Edits

-- a held line that a test picks comes to an end
abbrev pub close_line : Fate → (Line → Bool) → Line → Line
close_line f test e =
    if (came_to held e.fate && test e) (line e.kind e.name e.ref e.session e.user e.until e.expiry f) e

unfoldable pub close_all : Fate → (Line → Bool) → Notebook → Notebook
close_all f test b = record { clock = b.clock; book = map (close_line f test) b.book }

-- a waiting grant becomes a grant, which lasts as long as its session
abbrev pub raise_line : (Line → Bool) → Line → Line
raise_line test e =
    if (came_to held e.fate && test e) (line a_grant e.name e.ref e.session e.user e.until e.until e.fate) e

unfoldable pub raise_all : (Line → Bool) → Notebook → Notebook
raise_all test b = record { clock = b.clock; book = map (raise_line test) b.book }

-- a new line, also one that stands on a line that was found
unfoldable pub enter : Line → Notebook → Notebook
enter e b = record { clock = b.clock; book = e ∷ b.book }

abbrev pub enter_under : Look → ℕ → Text → ℕ → Notebook → Notebook
enter_under (found s) kind name ref b = enter (line_under kind name ref b.clock s) b
enter_under nothing kind name ref b = b

-- the clock moves to the larger time; what expires by then is expired
unfoldable pub pass : ℕ → Notebook → Notebook
pass time b = close_all expired (λ (e : Line). leb e.expiry (max b.clock time)) (record { clock = max b.clock time; book = b.book })

-- accepted credentials end the session of the cookie, with all its tickets, where it is another user's
abbrev pub end_other : Look → Text → Text → Notebook → Notebook
end_other (found s) cookie user b = if (same s.user user) b (close_all ended (of_session cookie) b)
end_other nothing cookie user b = b

-- What the clerk does for each part of what a call says, and nothing where it is empty

-- an edit, where it applies
abbrev pub edit : Bool → (Notebook → Notebook) → Notebook → Notebook
edit applies change b = if applies (change b) b

-- a sign-on spends its login ticket; where that was held and the credentials given, it may change the user
abbrev pub sign_on : Text → Credentials → Notebook → Notebook
sign_on cookie c b =
    edit (c.given && is_found (look (is_line a_login c.lt) b.book)) (λ (d : Notebook). end_other (look (is_line a_session cookie) d.book) cookie c.user d) (close_all spent (is_line a_login c.lt) b)

-- a ticket is issued under the session of a cookie, or by a grant
abbrev pub issue : Text → Text → Text → Notebook → Notebook
issue ticket session grant b =
    if (is_empty grant) (enter_under (look (is_line a_session session) b.book) a_service ticket 0 b) (enter_under (look (is_line a_grant grant) b.book) a_proxy ticket 0 b)

-- a ticket comes to its end, and with a callback it has a waiting grant
abbrev pub judge : Showing → ℕ → Notebook → Notebook
judge x serial b =
    edit (not (is_empty x.pgt)) (enter_under (look (is_ticket_line x.ticket) b.book) a_waiting x.pgt serial) (close_all (if x.accepted accepted burnt) (is_ticket_line x.ticket) b)

-- the time first
unfoldable pub note : Said → Notebook → Notebook
note s b =
    edit (s.settled && not s.outcome) (close_all spent (is_waiting_line s.serial))
    (edit (s.settled && s.outcome) (raise_all (is_waiting_line s.serial))
    (edit (not (is_empty s.showing.ticket)) (judge s.showing s.serial)
    (edit (not (is_empty s.issued)) (issue s.issued s.session s.grant)
    (edit (not (is_empty s.form)) (λ (d : Notebook). enter (login_line s.form d.clock) d)
    (edit s.ended (close_all ended (of_session s.cookie))
    (edit (not (is_empty s.opened)) (λ (d : Notebook). enter (session_line s.opened s.by.user d.clock) d)
    (edit s.by.posted (sign_on s.cookie s.by) (pass s.time b))))))))

-- the notebook after all that was said; at first it is empty, under the clock of the format
unfoldable pub notebook : ℕ → List Said → Notebook
notebook start [] = record { clock = start; book = [] }
notebook start (s ∷ older) = note s (notebook start older)

-- how many service and proxy tickets, of those whose text passes a test, have come to a fate
unfoldable pub tally : (Text → Bool) → (Fate → Bool) → List Line → ℕ
tally test fate [] = 0
tally test fate (e ∷ es) = if (is_ticket e.kind && test e.name && fate e.fate) 1 0 + tally test fate es
