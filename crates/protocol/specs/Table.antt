-- The table: a clock T, the next serial and the record blocks, which are slots counted from 1; slot 0 is none.
-- Block 0: 0-3 `TKTS`, 4-5 count of record blocks, 6 the form of the table, which is 1, 8-15 clock, 16-19 next serial; every other byte is zero, the check last.
use Rattle.std.specs.Prelude.{Bool, true, false, ◌&&◌, ◌||◌, not, List, [], ◌∷◌, ◌++◌, map, ℕ, ◌+◌, ◌-◌, ◌/◌, ◌%◌, ◌^◌, eqb, leb, ltb, length, drop, get_or, set, replicate}
use Rattle.protocol.specs.Bytes.{if, ascii, same, within, zeros, num, bytes_of, joined, blocks}
use Rattle.protocol.specs.Blocks.{sealed}
use Rattle.protocol.specs.Tickets.{a_free, a_login, a_session, a_service, a_proxy, a_grant, a_visit}
use Rattle.protocol.specs.Records.{Rec, free_rec, encode_rec, decode_rec, own_right}

pub record Table : Type 0 where
  pub clock : ℕ
  pub next : ℕ
  pub slots : List Rec

abbrev pub table_of : ℕ → ℕ → List Rec → Table
table_of clock next slots = record { clock = clock; next = next; slots = slots }

-- where its clock and its next serial start
abbrev pub at_clock : ℕ
at_clock = 8

abbrev pub at_next : ℕ
at_next = 16

-- the 508 bytes of block 0
unfoldable pub head_body : ℕ → ℕ → ℕ → List ℕ
head_body count clock next = ascii "TKTS" ++ (bytes_of 2 count ++ ((1 ∷ 0 ∷ []) ++ (bytes_of 8 clock ++ (bytes_of 4 next ++ zeros 488))))

-- all the table's bytes
unfoldable pub encode_table : Table → List ℕ
encode_table t = sealed (head_body (length t.slots) t.clock t.next) ++ joined (map encode_rec t.slots)

-- the table that bytes say
unfoldable pub decode_table : List ℕ → Table
decode_table b = table_of (num at_clock 8 b) (num at_next 4 b) (map decode_rec (blocks (length b / 512 - 1) 512 (drop 512 b)))

-- the record in a slot; in slot 0, and beyond the last, there is none
abbrev pub rec_at : ℕ → List Rec → Rec
rec_at k slots = get_or (free_rec ∷ slots) k free_rec

-- the slots with a record put into one; slot 0 takes none
abbrev pub put_at : ℕ → Rec → List Rec → List Rec
put_at k r slots = drop 1 (set (free_rec ∷ slots) k r)

-- the first slot from k on whose record passes a test, or 0
unfoldable pub slot_from : ℕ → (Rec → Bool) → List Rec → ℕ
slot_from k test [] = 0
slot_from k test (r ∷ rs) = if (test r) k (slot_from (k + 1) test rs)

abbrev pub slot_where : (Rec → Bool) → List Rec → ℕ
slot_where test slots = slot_from 1 test slots

-- how many records are of a kind
unfoldable pub count_kind : ℕ → List Rec → ℕ
count_kind kind [] = 0
count_kind kind (r ∷ rs) = if (eqb r.kind kind) 1 0 + count_kind kind rs

-- a record that is not free has this serial
unfoldable pub serial_taken : ℕ → List Rec → Bool
serial_taken n [] = false
serial_taken n (r ∷ rs) = (not (eqb r.kind a_free) && eqb r.serial n) || serial_taken n rs

-- serials are distinct
unfoldable pub serials_differ : List Rec → Bool
serials_differ [] = true
serials_differ (r ∷ rs) = (eqb r.kind a_free || not (serial_taken r.serial rs)) && serials_differ rs

-- a session is named: none by free records, logins and sessions; else a record of kind 2 that expires no earlier, and at the same second for a grant or a visit
unfoldable pub session_right : List Rec → Rec → Bool
session_right slots r =
    if (ltb r.kind a_service)
    (eqb r.session 0)
    (eqb (rec_at r.session slots).kind a_session
    && (if (eqb r.kind a_grant || eqb r.kind a_visit)
    (eqb r.expiry (rec_at r.session slots).expiry)
    (leb r.expiry (rec_at r.session slots).expiry)))

-- a parent grant: of kind 6, naming the same session
unfoldable pub grant_right : List Rec → Rec → Bool
grant_right slots r = eqb (rec_at r.parent slots).kind a_grant && eqb (rec_at r.parent slots).session r.session

-- a parent: none for free records, logins and sessions; 3 and 7 their session; 4 a grant; 5 and 6 none at depth 1, else a grant one less deep
unfoldable pub parent_right : List Rec → Rec → Bool
parent_right slots r =
    if (ltb r.kind a_service)
    (eqb r.parent 0)
    (if (eqb r.kind a_service || eqb r.kind a_visit)
    (eqb r.parent r.session)
    (if (eqb r.kind a_proxy)
    (grant_right slots r)
    (if (eqb r.depth 1)
    (eqb r.parent 0)
    (grant_right slots r && eqb r.depth ((rec_at r.parent slots).depth + 1)))))

-- every record keeps its rules
unfoldable pub all_right : ℕ → ℕ → List Rec → List Rec → Bool
all_right clock next slots [] = true
all_right clock next slots (r ∷ rs) =
    (own_right clock next r && session_right slots r && parent_right slots r) && all_right clock next slots rs

-- at most so many logins
unfoldable pub login_cap : ℕ
login_cap = 32

-- the latest time
abbrev pub last_time : ℕ
last_time = 2 ^ 40

-- the table rules
unfoldable pub rules_hold : Table → Bool
rules_hold t =
    leb t.clock last_time
    && all_right t.clock t.next t.slots t.slots
    && serials_differ t.slots
    && leb (count_kind a_login t.slots) login_cap

-- a multiple of 512 bytes, 9 to 128 blocks
abbrev pub table_shape : ℕ → Bool
table_shape n = eqb (n % 512) 0 && within 9 128 (n / 512)

-- the bytes are those of the table that they say, checks and zeros too, and that table keeps the rules
unfoldable pub table_lawful : List ℕ → Bool
table_lawful b = same b (encode_table (decode_table b)) && rules_hold (decode_table b)

-- a formatted table: T is the time given, next serial 1, records free
unfoldable pub formatted : ℕ → ℕ → Table
formatted count time = table_of time 1 (replicate count free_rec)
