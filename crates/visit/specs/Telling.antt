-- The slot of a visit by its number, and what is told of one of a list of visits.
use Rattle.std.specs.Prelude.{◌&&◌, List, [], ◌∷◌, ◌++◌, ℕ, ◌+◌, ◌-◌, eqb, ltb, length, get_or}
use Rattle.protocol.specs.Bytes.{if, ascii, hex}
use Rattle.protocol.specs.Calendar.{date_text}
use Rattle.protocol.specs.Records.{Rec, free_rec}
use Rattle.protocol.specs.Visits.{is_visit, logout_request, visit_text, VisitRead, visit_given, visit_refused}

-- from slot k on, the slot of the visit of session s that n others of it stand before, or 0
unfoldable pub visit_from : ℕ → ℕ → ℕ → List Rec → ℕ
visit_from k s n [] = 0
visit_from k s n (r ∷ rs) = if (is_visit s r && eqb n 0) k (visit_from (k + 1) s (if (is_visit s r) (n - 1) n) rs)

abbrev pub visit_slot : ℕ → ℕ → List Rec → ℕ
visit_slot s n slots = visit_from 1 s n slots

-- a LogoutRequest up to its instant
unfoldable pub request_head : List ℕ → ℕ → List ℕ
request_head id time =
    ascii "<samlp:LogoutRequest xmlns:samlp=\"urn:oasis:names:tc:SAML:2.0:protocol\" ID=\"_"
    ++ (hex id ++ (ascii "\" Version=\"2.0\" IssueInstant=\"" ++ date_text time))

-- and whole, with its feed
unfoldable pub request_line : List ℕ → ℕ → List ℕ → List ℕ
request_line id time ticket = logout_request id time ticket ++ ascii "\n"

-- the visit of a number at an instant; beyond the last one the call is refused with 9
unfoldable pub told : List Rec → ℕ → ℕ → List ℕ → List ℕ → List ℕ → VisitRead
told visits number instant random table out =
    if (ltb number (length visits)) (visit_given (visit_text (get_or visits number free_rec) instant random) table out) (visit_refused 9 table out)
