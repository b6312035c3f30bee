-- A worked example of the account: a closed history of fourteen calls on a table of nine blocks, computed with its counts.
-- One of them is refused. Tickets: ST-3 accepted with a callback, PT-5 accepted by its grant, ST-6 expired, ST-7 burnt, ST-8 ended, ST-11 waiting.
use Rattle.std.specs.Prelude.{◌≡◌, refl, Bool, true, false, List, [], ◌∷◌, ◌++◌, map, ℕ, ◌^◌, replicate}
use Rattle.std.proofs.Common.{sym, ap, ◌∙◌}
use Prim.Native.String.{String}
use Rattle.protocol.specs.declared.Method.{Method}
use Rattle.protocol.specs.declared.Method.TheVariants as method
use Rattle.protocol.specs.Bytes.{ascii, zeros, joined, same, among, all_differ, all_within, holds, le_of, bytes_of, spliced, up_to, past, cuts, digits, hex, blocks}
use Rattle.protocol.specs.Utf8.{no_point, announced, with_tails, not_below, point_at, points_from, points, point_right, points_right, name_right}
use Rattle.protocol.specs.Blocks.{check_from, house_check, sealed, check_right}
use Rattle.protocol.specs.Tickets.{deepest, mark_most, depth_least, depth_most, text_least, text_most, secret_from, iou_from, since_from, ticket_text, iou_text}
use Rattle.protocol.specs.Records.{rec_body, encode_rec, decode_rec, name_of, text_right, fields_right, since_right, serial_right, expiry_right, own_right}
use Rattle.protocol.specs.Table.{head_body, encode_table, decode_table, slot_from, count_kind, serial_taken, serials_differ, session_right, grant_right, parent_right, all_right, login_cap, rules_hold, table_lawful, formatted}
use Rattle.protocol.specs.Register.{entry_body, encode_entry, decode_entry, decode_register, address_right, entry_right, all_entries_right, services_of, register_lawful, registered, callback_of}
use Rattle.protocol.specs.Request.{path_named, not_empty, pieces, count_named, first_named, occurrences, raw_value, hex_value, unit_of, skip_of, decoded_from, value_most, chars_right, value_right, login_names, body_names, logout_names, validator_names, proxy_names, bad_name, malformed, value_of, present, asked as asked_of, posted, leaving, shown, wanted}
use Rattle.protocol.specs.Calendar.{is_leap, year_length, month_length, year_from, year_of, month_from, month_of, date_of, padded, day_text, clock_text, date_text}
use Rattle.protocol.specs.Answers.{escaped_byte, escaped, extended, page_head, form_text, in_response, proxy_lines, attributes_text, success_text, failure_text, proxy_success_text, callback_text, reply_text, reply_answer}
use Rattle.protocol.specs.Steps.{tick, end_session, is_named, slot_named, ticket_slot, slot_for, room_for, expiry_for, new_rec, add, chain_from, chain_of, form_with, form_step, ticket_with, ticket_step, signed_on, unknown_service, way_of, taken, login_get, admitted, needs, keep_session, session_with, open_session, standing_of, admits, accepted, admission_of, entered, credentials, login_post, ruling_of, turned, left_by, grants, waiting_with, grant_or_tell, accept_ticket, ruled, presented, validate, waiting_slot, finished, finish_at, finish, proxy_with, proxy_by, proxy, without_session, link_to, logout, request_step}
use Rattle.protocol.specs.Calls.{Result, outcome_with, answer_refusal, step_of, delivered, answer_of, finish_refusal, finish_of, format_refusal, format_of, check_of, form_refusal, form_of}
use Rattle.account.specs.History.{Text, Call, ask, tell, Event, served, event_of, table_after, history_of}
use Rattle.account.specs.Reading.{Credentials, Showing, Said, no_credentials, no_showing, renew_among, read_login, read_request, read_call, trail_of}
use Rattle.account.specs.Notebook.{burnt, ended, expired, came_to, close_all, enter, raise_all, pass, look, note, notebook, tally}
use Rattle.account.specs.Truth.{known, count}
use Rattle.account.specs.Account.{issued_by, accepted_by, success_by, sum_of, waiting_among, waiting_in}

-- a run that hands its table on: what it leaves is what the history says, by `lived_is`
pub record Lived : Type 0 where
  pub table : Text
  pub events : List Event

abbrev next : Call → Result → List Event → Lived
next c r es = record { table = r.table; events = event_of c r ∷ es }

abbrev further : Call → Lived → Lived
further c l = next c (served c l.table) l.events

lived : Text → List Call → Lived
lived b [] = record { table = b; events = [] }
lived b (c ∷ cs) = further c (lived b cs)

lived_is : (b : Text) (cs : List Call) → lived b cs ≡ record { table = table_after b cs; events = history_of b cs }
unfolding lived table_after history_of
lived_is b [] = refl
lived_is b (c ∷ cs) = ap (further c) (lived_is b cs)

-- the register: the panels p and q, p with a callback
register : Text
register = joined (map encode_entry (record { service = ascii "https://p.lan/"; callback = ascii "https://p.lan/cb" } ∷ record { service = ascii "https://q.lan/"; callback = [] } ∷ []))

asked : Method → String → String → String → ℕ → Bool → Call
unfolding register
asked m target body cookie time verdict =
    ask
    (record {
      register = register;
      method = m;
      target = ascii target;
      body = ascii body;
      cookie = ascii cookie;
      time = time;
      random = zeros 48;
      verdict = verdict;
      out = zeros 8192;
      cookie_out = zeros 64;
    })

-- the calls, the newest first
pub calls : List Call
calls =
    asked method.Post "/cas/login" "username=bob&password=y&lt=LT-9-000000000000000000&service=https://p.lan/" "" 1403 true
    ∷ asked method.Get "/cas/login?service=https://p.lan/" "" "" 1402 false
    ∷ asked method.Get "/cas/logout" "" "" (2 ^ 41) false
    ∷ asked method.Get "/cas/logout" "" "TGC-2-00000000000000000000000000000000" 1401 false
    ∷ asked method.Get "/cas/login?service=https://p.lan/" "" "TGC-2-00000000000000000000000000000000" 1400 false
    ∷ asked method.Get "/cas/validate?service=https://q.lan/&ticket=ST-7-000000000000000000" "" "" 1008 false
    ∷ asked method.Get "/cas/login?service=https://p.lan/" "" "TGC-2-00000000000000000000000000000000" 1007 false
    ∷ asked method.Get "/cas/proxyValidate?service=https://q.lan/&ticket=PT-5-000000000000000000" "" "" 1006 false
    ∷ asked method.Get "/cas/login?service=https://p.lan/" "" "TGC-2-00000000000000000000000000000000" 1005 false
    ∷ asked method.Get "/cas/proxy?pgt=PGT-4-00000000000000000000000000000000&targetService=https://q.lan/" "" "" 1004 false
    ∷ tell (record { serial = 4; outcome = true; time = 1003; out = zeros 8192 })
    ∷ asked method.Get "/cas/serviceValidate?service=https://p.lan/&ticket=ST-3-000000000000000000&renew=&pgtUrl=https://p.lan/cb" "" "" 1002 false
    ∷ asked method.Post "/cas/login" "username=ann&password=x&lt=LT-1-000000000000000000&service=https://p.lan/" "" 1001 true
    ∷ asked method.Get "/cas/login?service=https://p.lan/" "" "" 1000 false
    ∷ []

-- the whole life of the table
whole : Lived
unfolding lived calls asked register joined same among all_differ all_within no_point announced with_tails not_below point_at points_from points point_right points_right name_right holds le_of bytes_of spliced up_to past cuts digits hex blocks check_from house_check sealed check_right deepest mark_most depth_least depth_most text_least text_most secret_from iou_from since_from ticket_text iou_text rec_body encode_rec decode_rec name_of text_right fields_right since_right serial_right expiry_right own_right head_body encode_table decode_table slot_from count_kind serial_taken serials_differ session_right grant_right parent_right all_right login_cap rules_hold table_lawful formatted entry_body encode_entry decode_entry decode_register address_right entry_right all_entries_right services_of register_lawful registered callback_of path_named not_empty pieces count_named first_named occurrences raw_value hex_value unit_of skip_of decoded_from value_most chars_right value_right login_names body_names logout_names validator_names proxy_names bad_name malformed value_of present asked_of posted leaving shown wanted escaped_byte escaped extended page_head form_text in_response proxy_lines is_leap year_length month_length year_from year_of month_from month_of date_of padded day_text clock_text date_text attributes_text success_text failure_text proxy_success_text callback_text reply_text reply_answer tick end_session is_named slot_named ticket_slot slot_for room_for expiry_for new_rec add chain_from chain_of form_with form_step ticket_with ticket_step signed_on unknown_service way_of taken login_get admitted needs keep_session session_with open_session standing_of admits accepted admission_of entered credentials login_post ruling_of turned left_by grants waiting_with grant_or_tell accept_ticket ruled presented validate waiting_slot finished finish_at finish proxy_with proxy_by proxy without_session link_to logout request_step outcome_with answer_refusal step_of delivered answer_of finish_refusal finish_of format_refusal format_of check_of form_refusal form_of served event_of table_after history_of renew_among read_login read_request read_call trail_of close_all enter raise_all pass look note notebook tally known count issued_by accepted_by success_by sum_of waiting_among waiting_in
whole = lived (format_of (zeros 4608) 999).table calls

-- the texts of tickets whose secrets are zeros
abbrev short : String → Text
short name = ascii name ++ replicate 18 48

abbrev long : String → Text
long name = ascii name ++ replicate 32 48

abbrev panel_p : Text
panel_p = ascii "https://p.lan/"

abbrev panel_q : Text
panel_q = ascii "https://q.lan/"

abbrev callback_p : Text
callback_p = ascii "https://p.lan/cb"

-- the success answers: ann signed on at 1001; ST-3 came of that very sign-on, PT-5 of a grant
abbrev told_at_finish : Text
told_at_finish = ascii "<cas:serviceResponse xmlns:cas=\"http://www.yale.edu/tp/cas\">\n  <cas:authenticationSuccess>\n    <cas:user>ann</cas:user>\n    <cas:attributes>\n      <cas:authenticationDate>1970-01-01T00:16:41Z</cas:authenticationDate>\n      <cas:longTermAuthenticationRequestTokenUsed>false</cas:longTermAuthenticationRequestTokenUsed>\n      <cas:isFromNewLogin>true</cas:isFromNewLogin>\n    </cas:attributes>\n    <cas:proxyGrantingTicket>PGTIOU-00000000000000000000000000000000</cas:proxyGrantingTicket>\n  </cas:authenticationSuccess>\n</cas:serviceResponse>\n"

abbrev told_by_proxy : Text
told_by_proxy = ascii "<cas:serviceResponse xmlns:cas=\"http://www.yale.edu/tp/cas\">\n  <cas:authenticationSuccess>\n    <cas:user>ann</cas:user>\n    <cas:attributes>\n      <cas:authenticationDate>1970-01-01T00:16:41Z</cas:authenticationDate>\n      <cas:longTermAuthenticationRequestTokenUsed>false</cas:longTermAuthenticationRequestTokenUsed>\n      <cas:isFromNewLogin>false</cas:isFromNewLogin>\n    </cas:attributes>\n    <cas:proxies>\n      <cas:proxy>https://p.lan/cb</cas:proxy>\n    </cas:proxies>\n  </cas:authenticationSuccess>\n</cas:serviceResponse>\n"

-- what the two sign-ons show
abbrev by_ann : Credentials
by_ann = record { posted = true; user = ascii "ann"; given = true; lt = short "LT-1-" }

abbrev by_bob : Credentials
by_bob = record { posted = true; user = ascii "bob"; given = true; lt = short "LT-9-" }

-- a call of login, or of proxy: the cookie, the credentials, the session that it opens, the form that it shows; the ticket that it issues, to a
-- service, under a session or by a grant
abbrev asks : ℕ → Text → Credentials → Text → Text → Text → Text → Text → Text → Said
asks time cookie by opened form issued service session grant =
    record { time = time; cookie = cookie; by = by; opened = opened; ended = false; form = form; issued = issued; service = service; session = session; grant = grant; showing = no_showing; settled = false; outcome = false; serial = 0; said = [] }

-- a ticket shown at this time, with the serial of a callback and the bytes said
abbrev shows : ℕ → Showing → ℕ → Text → Said
shows time showing serial said =
    record { time = time; cookie = []; by = no_credentials; opened = []; ended = false; form = []; issued = []; service = []; session = []; grant = []; showing = showing; settled = false; outcome = false; serial = serial; said = said }

abbrev anns : Text
anns = long "TGC-2-"

abbrev bobs : Text
bobs = long "TGC-10-"

-- what the calls and their answers say, the newest first; the refused call says nothing
pub said : List Said
said =
    asks 1403 [] by_bob bobs [] (short "ST-11-") panel_p bobs []
    ∷ asks 1402 [] no_credentials [] (short "LT-9-") [] panel_p [] []
    ∷ record { time = 1401; cookie = anns; by = no_credentials; opened = []; ended = true; form = []; issued = []; service = []; session = []; grant = []; showing = no_showing; settled = false; outcome = false; serial = 0; said = [] }
    ∷ asks 1400 anns no_credentials [] [] (short "ST-8-") panel_p anns []
    ∷ shows 1008 (record { ticket = short "ST-7-"; service = panel_q; path = ascii "/cas/validate"; renew = false; accepted = false; url = []; pgt = []; iou = [] }) 0 (ascii "no\n")
    ∷ asks 1007 anns no_credentials [] [] (short "ST-7-") panel_p anns []
    ∷ shows 1006 (record { ticket = short "PT-5-"; service = panel_q; path = ascii "/cas/proxyValidate"; renew = false; accepted = true; url = []; pgt = []; iou = [] }) 0 told_by_proxy
    ∷ asks 1005 anns no_credentials [] [] (short "ST-6-") panel_p anns []
    ∷ asks 1004 [] no_credentials [] [] (short "PT-5-") panel_q [] (long "PGT-4-")
    ∷ record { time = 1003; cookie = []; by = no_credentials; opened = []; ended = false; form = []; issued = []; service = []; session = []; grant = []; showing = no_showing; settled = true; outcome = true; serial = 4; said = told_at_finish }
    ∷ shows 1002 (record { ticket = short "ST-3-"; service = panel_p; path = ascii "/cas/serviceValidate"; renew = true; accepted = true; url = callback_p; pgt = long "PGT-4-"; iou = long "PGTIOU-" }) 4 (callback_p ++ (ascii "?pgtId=" ++ (long "PGT-4-" ++ (ascii "&pgtIou=" ++ long "PGTIOU-"))))
    ∷ asks 1001 [] by_ann anns [] (short "ST-3-") panel_p anns []
    ∷ asks 1000 [] no_credentials [] (short "LT-1-") [] panel_p [] []
    ∷ []

pub trail_in : Lived → List Said
unfolding joined same among all_differ all_within no_point announced with_tails not_below point_at points_from points point_right points_right name_right holds le_of bytes_of spliced up_to past cuts digits hex blocks check_from house_check sealed check_right deepest mark_most depth_least depth_most text_least text_most secret_from iou_from since_from ticket_text iou_text rec_body encode_rec decode_rec name_of text_right fields_right since_right serial_right expiry_right own_right head_body encode_table decode_table slot_from count_kind serial_taken serials_differ session_right grant_right parent_right all_right login_cap rules_hold table_lawful formatted entry_body encode_entry decode_entry decode_register address_right entry_right all_entries_right services_of register_lawful registered callback_of path_named not_empty pieces count_named first_named occurrences raw_value hex_value unit_of skip_of decoded_from value_most chars_right value_right login_names body_names logout_names validator_names proxy_names bad_name malformed value_of present asked_of posted leaving shown wanted escaped_byte escaped extended page_head form_text in_response proxy_lines is_leap year_length month_length year_from year_of month_from month_of date_of padded day_text clock_text date_text attributes_text success_text failure_text proxy_success_text callback_text reply_text reply_answer tick end_session is_named slot_named ticket_slot slot_for room_for expiry_for new_rec add chain_from chain_of form_with form_step ticket_with ticket_step signed_on unknown_service way_of taken login_get admitted needs keep_session session_with open_session standing_of admits accepted admission_of entered credentials login_post ruling_of turned left_by grants waiting_with grant_or_tell accept_ticket ruled presented validate waiting_slot finished finish_at finish proxy_with proxy_by proxy without_session link_to logout request_step outcome_with answer_refusal step_of delivered answer_of finish_refusal finish_of format_refusal format_of check_of form_refusal form_of served event_of table_after history_of renew_among read_login read_request read_call trail_of close_all enter raise_all pass look note notebook tally known count issued_by accepted_by success_by sum_of waiting_among waiting_in
trail_in l = trail_of l.events

-- of all tickets: issued, accepted, burnt, ended, expired, waiting, successful
abbrev any : Text → Bool
any x = true

pub counts_in : Lived → List ℕ
unfolding joined same among all_differ all_within no_point announced with_tails not_below point_at points_from points point_right points_right name_right holds le_of bytes_of spliced up_to past cuts digits hex blocks check_from house_check sealed check_right deepest mark_most depth_least depth_most text_least text_most secret_from iou_from since_from ticket_text iou_text rec_body encode_rec decode_rec name_of text_right fields_right since_right serial_right expiry_right own_right head_body encode_table decode_table slot_from count_kind serial_taken serials_differ session_right grant_right parent_right all_right login_cap rules_hold table_lawful formatted entry_body encode_entry decode_entry decode_register address_right entry_right all_entries_right services_of register_lawful registered callback_of path_named not_empty pieces count_named first_named occurrences raw_value hex_value unit_of skip_of decoded_from value_most chars_right value_right login_names body_names logout_names validator_names proxy_names bad_name malformed value_of present asked_of posted leaving shown wanted escaped_byte escaped extended page_head form_text in_response proxy_lines is_leap year_length month_length year_from year_of month_from month_of date_of padded day_text clock_text date_text attributes_text success_text failure_text proxy_success_text callback_text reply_text reply_answer tick end_session is_named slot_named ticket_slot slot_for room_for expiry_for new_rec add chain_from chain_of form_with form_step ticket_with ticket_step signed_on unknown_service way_of taken login_get admitted needs keep_session session_with open_session standing_of admits accepted admission_of entered credentials login_post ruling_of turned left_by grants waiting_with grant_or_tell accept_ticket ruled presented validate waiting_slot finished finish_at finish proxy_with proxy_by proxy without_session link_to logout request_step outcome_with answer_refusal step_of delivered answer_of finish_refusal finish_of format_refusal format_of check_of form_refusal form_of served event_of table_after history_of renew_among read_login read_request read_call trail_of close_all enter raise_all pass look note notebook tally known count issued_by accepted_by success_by sum_of waiting_among waiting_in
counts_in l =
    sum_of issued_by l.events
    ∷ sum_of accepted_by l.events
    ∷ tally any (came_to burnt) (notebook 999 (trail_of l.events)).book
    ∷ tally any (came_to ended) (notebook 999 (trail_of l.events)).book
    ∷ tally any (came_to expired) (notebook 999 (trail_of l.events)).book
    ∷ waiting_in any l.table
    ∷ sum_of success_by l.events
    ∷ []

-- the run as the theorem speaks of it
abbrev pub fresh : Text
fresh = (format_of (zeros 4608) 999).table

abbrev pub as_told : Lived
as_told = record { table = table_after fresh calls; events = history_of fresh calls }

trail_computed : trail_in whole ≡ said
unfolding whole trail_in said
trail_computed = refl

counts_computed : counts_in whole ≡ 6 ∷ 2 ∷ 1 ∷ 1 ∷ 1 ∷ 1 ∷ 2 ∷ []
unfolding whole counts_in
counts_computed = refl

pub record Worked : Type 0 where
  pub trail : trail_in as_told ≡ said
  -- 6 = 2 + 1 + 1 + 1 + 1
  pub counts : counts_in as_told ≡ 6 ∷ 2 ∷ 1 ∷ 1 ∷ 1 ∷ 1 ∷ 2 ∷ []

pub worked : Worked
unfolding whole
worked = record { trail = ap trail_in (sym (lived_is fresh calls)) ∙ trail_computed; counts = ap counts_in (sym (lived_is fresh calls)) ∙ counts_computed }
