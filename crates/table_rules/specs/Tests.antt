-- What the code computes of a block: tests of a record's numbers, and of runs of its bytes.
use Rattle.std.specs.Prelude.{Bool, true, ◌&&◌, List, ℕ, ◌+◌, ◌-◌, eqb, leb, take, drop}
use Rattle.protocol.specs.Bytes.{if, same, within, all_within, part, num}
use Rattle.protocol.specs.Tickets.{a_free, a_session, a_waiting, a_visit, lifetime, secret_length, mark_most, depth_least, depth_most, text_least, text_most}
use Rattle.protocol.specs.Records.{at_secret, at_text, at_iou, decode_rec, rec_body, own_right, serial_right, letters_right}
use Rattle.protocol.specs.Table.{at_clock, at_next, head_body, last_time}
use Rattle.ticket.specs.Kinds.{number}
use Rattle.table.specs.declared.Fields.{Fields}

-- it is of some kind, and mark, depth and length of text are as that allows
unfoldable pub limits_right : Fields → ℕ → Bool
limits_right f n =
    leb (number f.kind) a_visit
    && (leb f.mark (mark_most (number f.kind))
    && within (depth_least (number f.kind)) (depth_most (number f.kind)) f.depth
    && within (text_least (number f.kind)) (text_most (number f.kind)) n)

-- serial and expiry, under the header's clock and next serial
unfoldable pub life_right : ℕ → ℕ → Fields → Bool
life_right clock next f =
    if (eqb (number f.kind) a_free)
    (eqb f.serial 0 && eqb f.expiry 0)
    (serial_right next f.serial && leb f.expiry (clock + lifetime (number f.kind)))

-- a session was made at T at the latest; other kinds have no sign-on time
abbrev pub since_test : ℕ → Fields → Bool
since_test clock f = if (eqb (number f.kind) a_session) (leb f.since clock) (eqb f.since 0)

-- the rest of a short secret, and an IOU secret that the kind does not use
unfoldable pub secrets_right : ℕ → List ℕ → Bool
secrets_right kind b =
    all_within 0 0 (drop (secret_length kind) (part at_secret 16 b))
    && (if (eqb kind a_waiting) true (all_within 0 0 (part at_iou 16 b)))

-- the text's bytes, and those behind it
unfoldable pub text_right : ℕ → ℕ → List ℕ → Bool
text_right kind n b = letters_right kind (part at_text n b) && all_within 0 0 (part (at_text + n) (212 - n) b)

-- the bytes that have no name
unfoldable pub gaps_zero : List ℕ → Bool
gaps_zero b = all_within 0 0 (part 7 1 b) && all_within 0 0 (part 12 4 b) && all_within 0 0 (part 42 2 b) && all_within 0 0 (part 280 228 b)

-- all that is asked of a record's block by itself, its check aside
abbrev pub record_right : ℕ → ℕ → List ℕ → Bool
record_right clock next b = own_right clock next (decode_rec b) && same (take 508 b) (rec_body (decode_rec b))

-- all that is asked of the header of so many records, its check aside
abbrev pub head_right : ℕ → List ℕ → Bool
head_right count b = leb (num at_clock 8 b) last_time && same (take 508 b) (head_body count (num at_clock 8 b) (num at_next 4 b))
