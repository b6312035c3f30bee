-- What the judge computes of a table: tests of each slot, by the numbers of the records that it names.
use Rattle.std.specs.Prelude.{Bool, true, ◌&&◌, ◌||◌, not, List, ◌∷◌, ℕ, zero, suc, ◌+◌, ◌-◌, ◌*◌, ◌/◌, eqb, leb, ltb, length, take, drop}
use Rattle.protocol.specs.Bytes.{if, same, part, num}
use Rattle.protocol.specs.Blocks.{check_right}
use Rattle.protocol.specs.Tickets.{a_free, a_login, a_session, a_service, a_proxy, a_grant, a_visit}
use Rattle.protocol.specs.Records.{Rec, free_rec, rec_body, own_right}
use Rattle.protocol.specs.Table.{at_clock, at_next, decode_table, count_kind, serial_taken, session_right, parent_right, login_cap}
use Rattle.protocol.specs.Held.{said_at}
use Rattle.ticket.specs.Kinds.{number}
use Rattle.table.specs.declared.Fields.{Fields}
use Rattle.table_rules.specs.Tests.{head_right}

-- the block of a slot
abbrev pub block_at : ℕ → List ℕ → List ℕ
block_at k b = part (512 * k) 512 b

-- the records from a slot on
abbrev pub from_slot : ℕ → List ℕ → List Rec
from_slot k b = drop k (free_rec ∷ (decode_table b).slots)

-- session_right, by the numbers of a record and of the session that it names
abbrev pub session_test : Fields → Fields → Bool
session_test f s =
    if (ltb (number f.kind) a_service)
    (eqb f.session 0)
    (eqb (number s.kind) a_session && (if (eqb (number f.kind) a_grant || eqb (number f.kind) a_visit) (eqb f.expiry s.expiry) (leb f.expiry s.expiry)))

-- parent_right, by the numbers of a record and of the parent that it names
abbrev pub parent_test : Fields → Fields → Bool
parent_test f p =
    if (ltb (number f.kind) a_service)
    (eqb f.parent 0)
    (if (eqb (number f.kind) a_service || eqb (number f.kind) a_visit)
    (eqb f.parent f.session)
    (if (eqb (number f.kind) a_proxy)
    (eqb (number p.kind) a_grant && eqb p.session f.session)
    (if (eqb f.depth 1) (eqb f.parent 0) (eqb (number p.kind) a_grant && eqb p.session f.session && eqb f.depth (p.depth + 1)))))

-- a record that is not free has this serial
abbrev pub has_serial : ℕ → Rec → Bool
has_serial n r = not (eqb r.kind a_free) && eqb r.serial n

-- no later record has the serial of the one in slot k
unfoldable pub alone_at : ℕ → List ℕ → Bool
alone_at k b = eqb (said_at k b).kind a_free || not (serial_taken (said_at k b).serial (from_slot (k + 1) b))

-- all that is asked of slot k
unfoldable pub slot_right : ℕ → ℕ → List ℕ → ℕ → Bool
slot_right clock next b k =
    (own_right clock next (said_at k b) && same (take 508 (block_at k b)) (rec_body (said_at k b)))
    && session_right (decode_table b).slots (said_at k b)
    && parent_right (decode_table b).slots (said_at k b)
    && check_right (block_at k b)
    && alone_at k b

-- every slot of the m from k on passes a test
unfoldable pub all_from : (ℕ → Bool) → ℕ → ℕ → Bool
all_from test k zero = true
all_from test k (suc m) = test k && all_from test (k + 1) m

-- all that is asked of a table
unfoldable pub judged : List ℕ → Bool
judged b =
    head_right (length b / 512 - 1) b
    && (check_right (block_at 0 b)
    && all_from (slot_right (num at_clock 8 b) (num at_next 4 b) b) 1 (length b / 512 - 1)
    && leb (count_kind a_login (decode_table b).slots) login_cap)
