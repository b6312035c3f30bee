-- Sign-off told to the panels: the visits of the cookie's session in slot order, and the two lines that are told of each, its service and the
-- LogoutRequest of Appendix C.
use Rattle.std.specs.Prelude.{Bool, ◌&&◌, List, [], ◌∷◌, ◌++◌, ℕ, ◌+◌, max, eqb, leb, ltb, length, get_or}
use Rattle.protocol.specs.Bytes.{if, ascii, part, hex, spliced}
use Rattle.protocol.specs.Calendar.{date_text}
use Rattle.protocol.specs.Tickets.{a_visit}
use Rattle.protocol.specs.Records.{Rec, free_rec, name_of}
use Rattle.protocol.specs.Table.{Table, decode_table, table_shape, table_lawful, last_time}
use Rattle.protocol.specs.Steps.{tick, session_of}
use Rattle.protocol.specs.Calls.{unless}
use Rattle.protocol.specs.declared.Visit.{Visit}

-- the visits of a session
abbrev pub is_visit : ℕ → Rec → Bool
is_visit s r = eqb r.kind a_visit && eqb r.session s

unfoldable pub visits_in : ℕ → List Rec → List Rec
visits_in s [] = []
visits_in s (r ∷ rs) = if (is_visit s r) (r ∷ visits_in s rs) (visits_in s rs)

-- those of the session that a cookie names, live at the larger of T and the time; without a session there are none
abbrev pub session_at : List ℕ → ℕ → Table → ℕ
session_at cookie time t = session_of cookie (tick time t)

unfoldable pub visits_of : List ℕ → ℕ → Table → List Rec
visits_of cookie time t = if (eqb (session_at cookie time t) 0) [] (visits_in (session_at cookie time t) t.slots)

-- the LogoutRequest of a ticket's text, at an instant
unfoldable pub logout_request : List ℕ → ℕ → List ℕ → List ℕ
logout_request id time ticket =
    ascii "<samlp:LogoutRequest xmlns:samlp=\"urn:oasis:names:tc:SAML:2.0:protocol\" ID=\"_"
    ++ (hex id
    ++ (ascii "\" Version=\"2.0\" IssueInstant=\""
    ++ (date_text time
    ++ (ascii "\"><saml:NameID xmlns:saml=\"urn:oasis:names:tc:SAML:2.0:assertion\">@NOT_USED@</saml:NameID><samlp:SessionIndex>"
    ++ (ticket
    ++ ascii "</samlp:SessionIndex></samlp:LogoutRequest>")))))

-- the two lines, with their feeds; the ID is of random bytes 16 to 31
unfoldable pub visit_text : Rec → ℕ → List ℕ → List ℕ
visit_text r time random = r.text ++ (ascii "\n" ++ (logout_request (part 16 16 random) time (name_of r) ++ ascii "\n"))

-- refusals 1, 2, 4 (output and random input) and 6, else a later one
abbrev pub visit_unless : List ℕ → ℕ → ℕ → ℕ → ℕ → ℕ
visit_unless table time random out later =
    unless (table_shape (length table)) 1
    (unless (table_lawful table) 2
    (unless (leb 8192 out && eqb random 48) 4
    (unless (leb time last_time) 6
    later)))

-- which is 9, for a number at or beyond the count
unfoldable pub visit_refusal : List ℕ → List ℕ → ℕ → ℕ → ℕ → ℕ → ℕ
visit_refusal table cookie number time random out =
    visit_unless table time random out (unless (ltb number (length (visits_of cookie time (decode_table table)))) 9 0)

-- what is told of the visit of a number
unfoldable pub visit_said : List ℕ → List ℕ → ℕ → ℕ → List ℕ → List ℕ
visit_said table cookie number time random =
    visit_text (get_or (visits_of cookie time (decode_table table)) number free_rec) (max (decode_table table).clock time) random

-- the number and the length, and the bytes after the call: the table is as it was
pub record VisitRead : Type 0 where
  pub visit : Visit
  pub table : List ℕ
  pub out : List ℕ

abbrev pub visit_read : Visit → List ℕ → List ℕ → VisitRead
visit_read v table out = record { visit = v; table = table; out = out }

abbrev pub visit_given : List ℕ → List ℕ → List ℕ → VisitRead
visit_given text table out = visit_read (record { refusal = 0; length = length text }) table (spliced out 0 text)

abbrev pub visit_refused : ℕ → List ℕ → List ℕ → VisitRead
visit_refused n table out = visit_read (record { refusal = n; length = 0 }) table out

unfoldable pub visit_of : List ℕ → List ℕ → ℕ → ℕ → List ℕ → List ℕ → VisitRead
visit_of table cookie number time random out =
    if (eqb (visit_refusal table cookie number time (length random) (length out)) 0)
    (visit_given (visit_said table cookie number time random) table out)
    (visit_refused (visit_refusal table cookie number time (length random) (length out)) table out)
