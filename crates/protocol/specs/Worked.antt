-- The numbered examples of document 01, as one table.
use Rattle.std.specs.Prelude.{◌≡◌, refl, true, false, ◌∷◌, ◌++◌, ℕ, length, replicate}
use Rattle.protocol.specs.Bytes.{ascii, zeros, among, same, all_within, holds, up_to, past, cuts, digits, hex}
use Rattle.protocol.specs.Blocks.{house_check, check_from}
use Rattle.protocol.specs.Tickets.{ticket_text, a_session, a_service, secret_from, iou_from}
use Rattle.protocol.specs.Records.{Rec, free_rec, live}
use Rattle.protocol.specs.Table.{Table, rec_at, formatted, slot_from}
use Rattle.protocol.specs.Request.{decoded, decoded_from, unit_of, skip_of, hex_value, value_right, value_most, chars_right, not_empty, pieces, count_named, first_named, occurrences, raw_value, logout_names, bad_name, malformed, value_of, Malformed, leaving}
use Rattle.protocol.specs.Answers.{escaped, escaped_byte, extended}
use Rattle.protocol.specs.Steps.{new_rec, expiry_for, add, slot_for, tick, clear}

-- a session and its service ticket, both issued at 1,000
abbrev with_session : Table
with_session = add (new_rec a_session 0 0 0 0 (ascii "ann") (zeros 48) (formatted 8 1000)) (formatted 8 1000)

abbrev with_ticket : Table
with_ticket = add (new_rec a_service 0 1 1 0 (ascii "https://g.lan/") (zeros 48) with_session) with_session

abbrev ticket_at : ℕ → Rec
ticket_at time = rec_at 2 (tick time with_ticket).slots

abbrev kept_at : ℕ → Rec
kept_at time = rec_at 2 (clear (tick time with_ticket)).slots

pub record Examples : Type 0 where
  pub E1 : house_check (zeros 508) ≡ 33292289
  pub E2 : house_check (1 ∷ zeros 507) ≡ 66584578
  pub E3 : decoded false (ascii "%41b") ≡ ascii "Ab"
  pub E4 : (decoded false (ascii "a+b") ≡ ascii "a+b") × (decoded true (ascii "a+b") ≡ ascii "a b")
  pub E5 : (leaving (ascii "url=%4") ≡ Malformed) × (leaving (ascii "url=%4g") ≡ Malformed)
  pub E6 : escaped (ascii "a&\"") ≡ ascii "a&amp;&quot;"
  pub E7 : ticket_text a_service 7 (zeros 16) ≡ ascii "ST-7-" ++ replicate 18 48
  pub E8 : (ticket_text a_service 4294967295 (replicate 9 255) ≡ ascii "ST-4294967295-" ++ replicate 18 102) × (length (ticket_text a_service 4294967295 (replicate 9 255)) ≡ 32)
  pub E9 : extended (ascii "https://g.lan/p?i=2") (ascii "ticket=") ≡ ascii "https://g.lan/p?i=2&ticket="
  pub E10 : ((ticket_at 1299).text ≡ ascii "https://g.lan/") × (live 1299 (ticket_at 1299) ≡ true) × (live 1300 (ticket_at 1300) ≡ false) × (kept_at 1299 ≡ ticket_at 1299) × (kept_at 1300 ≡ free_rec)

pub examples : Examples
unfolding house_check check_from decoded_from unit_of skip_of hex_value value_right value_most chars_right not_empty pieces count_named first_named occurrences raw_value up_to past cuts logout_names bad_name malformed value_of leaving among same all_within escaped escaped_byte ticket_text digits hex extended holds new_rec expiry_for secret_from iou_from add slot_for slot_from tick clear formatted
examples =
    record {
      E1 = refl;
      E2 = refl;
      E3 = refl;
      E4 = (refl, refl);
      E5 = (refl, refl);
      E6 = refl;
      E7 = refl;
      E8 = (refl, refl);
      E9 = refl;
      E10 = (refl, refl, refl, refl, refl);
    }
