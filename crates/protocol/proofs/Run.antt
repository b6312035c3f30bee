-- A closed run, computed: a small table is formatted, the form shown, ann signs in for a service, the ticket is validated once and again, the
-- host asks for her visits, she signs out. What is answered at each call stands below as text.
use mathlib.Core.Path.{◌≡◌, refl}
use mathlib.Core.Bool.{true}
use mathlib.Core.List.{List, [], ◌∷◌}
use Prim.Native.Nat.{ℕ}
use lib.Dec.{eqb}
use lib.ListN.{take, replicate}
use Rattle.protocol.specs.Bytes.{if, ascii, decimal, same, among, all_differ, all_within, holds, le_of, bytes_of, spliced, up_to, past, cuts, digits, hex, joined, blocks}
use Rattle.protocol.specs.Utf8.{no_point, announced, with_tails, not_below, point_at, points_from, points, point_right, points_right, name_right}
use Rattle.protocol.specs.Blocks.{check_from, house_check, sealed}
use Rattle.protocol.specs.Tickets.{deepest, mark_most, depth_least, depth_most, text_least, text_most, secret_from, iou_from, since_from, ticket_text, iou_text}
use Rattle.protocol.specs.Records.{rec_body, encode_rec, decode_rec, name_of, text_right, fields_right, since_right, serial_right, expiry_right, own_right}
use Rattle.protocol.specs.Table.{head_body, encode_table, decode_table, slot_from, count_kind, serial_taken, serials_differ, session_right, grant_right, parent_right, all_right, login_cap, rules_hold, table_lawful, formatted}
use Rattle.protocol.specs.Register.{Entry, entry_body, encode_entry, decode_entry, decode_register, address_right, entry_right, all_entries_right, services_of, register_lawful, registered, callback_of}
use Rattle.protocol.specs.Request.{path_named, not_empty, pieces, count_named, first_named, occurrences, raw_value, hex_value, unit_of, skip_of, decoded_from, value_most, chars_right, value_right, login_names, body_names, logout_names, validator_names, proxy_names, bad_name, malformed, value_of, present, asked, posted, leaving, shown, wanted}
use Rattle.protocol.specs.Calendar.{is_leap, year_length, month_length, year_from, year_of, month_from, month_of, date_of, padded, day_text, clock_text, date_text}
use Rattle.protocol.specs.Answers.{escaped_byte, escaped, extended, page_head, form_text, in_response, proxy_lines, attributes_text, success_text, failure_text, proxy_success_text, callback_text, reply_text, reply_answer}
use Rattle.protocol.specs.Steps.{tick, end_session, is_named, slot_named, ticket_slot, slot_for, room_for, expiry_for, new_rec, add, chain_from, chain_of, form_with, form_step, ticket_with, ticket_step, unknown_service, way_of, signed_on, taken, login_get, admitted, needs, keep_session, session_with, open_session, standing_of, admits, accepted, admission_of, entered, credentials, login_post, ruling_of, turned, left_by, grants, waiting_with, grant_or_tell, accept_ticket, ruled, presented, validate, proxy_with, proxy_by, proxy, without_session, link_to, logout, request_step}
use Rattle.protocol.specs.Calls.{inputs, Result, outcome_with, answer_refusal, step_of, delivered, answer_of, format_refusal, format_of}
use Rattle.protocol.specs.Visits.{visits_in, visits_of, logout_request, visit_text, visit_refusal, visit_said, visit_of}
use Rattle.protocol.specs.declared.Method.{Method}
use Rattle.protocol.specs.declared.Method.TheVariants as method

-- one panel, with a callback
abbrev panel : Entry
panel = record { service = ascii "https://a.lan/p"; callback = ascii "https://a.lan/cb" }

-- a call of answer on the table t: method, target, body, cookie and time; the random input is 48 sevens, the verdict yes
unfoldable pub ask : List ℕ → Method → List ℕ → List ℕ → List ℕ → ℕ → Result
unfolding same among all_differ all_within no_point announced with_tails not_below point_at points_from points point_right points_right name_right holds le_of bytes_of spliced up_to past cuts digits hex joined blocks check_from house_check sealed deepest mark_most depth_least depth_most text_least text_most secret_from iou_from since_from ticket_text iou_text rec_body encode_rec decode_rec name_of text_right fields_right since_right serial_right expiry_right own_right head_body encode_table decode_table slot_from count_kind serial_taken serials_differ session_right grant_right parent_right all_right login_cap rules_hold table_lawful formatted entry_body encode_entry decode_entry decode_register address_right entry_right all_entries_right services_of register_lawful registered callback_of path_named not_empty pieces count_named first_named occurrences raw_value hex_value unit_of skip_of decoded_from value_most chars_right value_right login_names body_names logout_names validator_names proxy_names bad_name malformed value_of present asked posted leaving shown wanted escaped_byte escaped extended page_head form_text in_response proxy_lines is_leap year_length month_length year_from year_of month_from month_of date_of padded day_text clock_text date_text attributes_text success_text failure_text proxy_success_text callback_text reply_text reply_answer tick end_session is_named slot_named ticket_slot slot_for room_for expiry_for new_rec add chain_from chain_of form_with form_step ticket_with ticket_step unknown_service way_of signed_on taken login_get admitted needs keep_session session_with open_session standing_of admits accepted admission_of entered credentials login_post ruling_of turned left_by grants waiting_with grant_or_tell accept_ticket ruled presented validate proxy_with proxy_by proxy without_session link_to logout request_step outcome_with answer_refusal step_of delivered answer_of format_refusal format_of
ask t m u b k n = answer_of (inputs t (encode_entry panel) m u b k n (replicate 48 7) true (replicate 8192 238) (replicate 64 221))

-- the visit of a number, with the cookie of ann's session: what is told, or the refusal's number alone
unfoldable pub ask_visit : List ℕ → List ℕ → ℕ → ℕ → List ℕ
unfolding same among all_within no_point announced with_tails not_below point_at points_from points point_right points_right name_right le_of bytes_of spliced digits hex joined blocks check_from house_check sealed deepest mark_most depth_least depth_most text_least text_most ticket_text rec_body encode_rec decode_rec name_of text_right fields_right since_right serial_right expiry_right own_right head_body encode_table decode_table slot_from count_kind serial_taken serials_differ session_right grant_right parent_right all_right login_cap rules_hold table_lawful is_leap year_length month_length year_from year_of month_from month_of date_of padded day_text clock_text date_text is_named slot_named visits_in visits_of logout_request visit_text visit_refusal visit_said visit_of
ask_visit t k number n =
    let v = visit_of t k number n (replicate 48 7) (replicate 8192 238) in
    if (eqb v.visit.refusal 0) (take v.visit.length v.out) (decimal v.visit.refusal)

unfoldable pub said : Result → List ℕ
said r = take r.outcome.length r.out

-- nine blocks formatted at 1,000
unfoldable pub start : List ℕ
unfolding format_of format_refusal formatted encode_table head_body sealed house_check check_from bytes_of encode_rec rec_body joined
start = (format_of (replicate 4608 0) 1000).table

unfoldable pub story : List (List ℕ)
unfolding ask ask_visit start said
story =
    let r1 = ask start method.Get (ascii "/cas/login?service=https://a.lan/p") [] [] 1000 in
    let r2 = ask r1.table method.Post (ascii "/cas/login") (ascii "service=https%3A%2F%2Fa.lan%2Fp&username=ann&password=x&lt=LT-1-070707070707070707") [] 1001 in
    let cookie = take r2.outcome.cookie_length r2.cookie in
    let r3 = ask r2.table method.Get (ascii "/cas/serviceValidate?service=https://a.lan/p&ticket=ST-3-070707070707070707") [] [] 1002 in
    let r4 = ask r3.table method.Get (ascii "/cas/serviceValidate?service=https://a.lan/p&ticket=ST-3-070707070707070707") [] [] 1003 in
    let v0 = ask_visit r4.table cookie 0 1004 in
    let v1 = ask_visit r4.table cookie 1 1004 in
    let r5 = ask r4.table method.Get (ascii "/cas/logout?url=https://a.lan/p") [] cookie 1004 in
    said r1 ∷ said r2 ∷ cookie ∷ said r3 ∷ said r4 ∷ v0 ∷ v1 ∷ said r5 ∷ []

pub told : story
    ≡ ascii "<!DOCTYPE html>\n<title>200</title>\n<p>200</p>\n<form method=\"post\" action=\"/cas/login\">\n<input name=\"username\">\n<input name=\"password\" type=\"password\">\n<input name=\"lt\" type=\"hidden\" value=\"LT-1-070707070707070707\">\n<input name=\"service\" type=\"hidden\" value=\"https://a.lan/p\">\n<button>Sign in</button>\n</form>\n"
    ∷ ascii "https://a.lan/p?ticket=ST-3-070707070707070707"
    ∷ ascii "TGC-2-07070707070707070707070707070707"
    ∷ ascii "<cas:serviceResponse xmlns:cas=\"http://www.yale.edu/tp/cas\">\n  <cas:authenticationSuccess>\n    <cas:user>ann</cas:user>\n    <cas:attributes>\n      <cas:authenticationDate>1970-01-01T00:16:41Z</cas:authenticationDate>\n      <cas:longTermAuthenticationRequestTokenUsed>false</cas:longTermAuthenticationRequestTokenUsed>\n      <cas:isFromNewLogin>true</cas:isFromNewLogin>\n    </cas:attributes>\n  </cas:authenticationSuccess>\n</cas:serviceResponse>\n"
    ∷ ascii "<cas:serviceResponse xmlns:cas=\"http://www.yale.edu/tp/cas\">\n  <cas:authenticationFailure code=\"INVALID_TICKET\">\n    INVALID_TICKET\n  </cas:authenticationFailure>\n</cas:serviceResponse>\n"
    ∷ ascii "https://a.lan/p\n<samlp:LogoutRequest xmlns:samlp=\"urn:oasis:names:tc:SAML:2.0:protocol\" ID=\"_07070707070707070707070707070707\" Version=\"2.0\" IssueInstant=\"1970-01-01T00:16:44Z\"><saml:NameID xmlns:saml=\"urn:oasis:names:tc:SAML:2.0:assertion\">@NOT_USED@</saml:NameID><samlp:SessionIndex>ST-3-070707070707070707</samlp:SessionIndex></samlp:LogoutRequest>\n"
    ∷ ascii "9"
    ∷ ascii "<!DOCTYPE html>\n<title>200</title>\n<p>Signed out</p>\n<a href=\"https://a.lan/p\">Back</a>\n"
    ∷ []
unfolding story
told = refl
