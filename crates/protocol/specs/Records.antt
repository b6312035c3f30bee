-- A record of the table: what its block says, and the rules that it keeps by itself.
-- 0 kind, 1 mark, 2-3 parent, 4-5 session, 6 depth, 8-11 serial, 16-23 expiry, 24-39 secret,
-- 40-41 text length, 44-243 text, 256-271 IOU secret, 272-279 sign-on time; every other byte is zero, the check last.
--
-- Which field a kind uses; a field that it does not use is zero:
--
--   kind               mark  parent      session  depth   text       IOU  sign-on time   secret
--   0 free             -     -           -        -       -          -    -              -
--   1 login            -     -           -        -       -          -    -              9
--   2 session          -     -           -        -       user       -    yes            16
--   3 service ticket   0, 1  its session yes      -       service    -    -              9
--   4 proxy ticket     -     a grant     yes      -       service    -    -              9
--   5 waiting grant    0, 1  a grant, 0  yes      1 to 4  callback   yes  -              16
--   6 grant            -     a grant, 0  yes      1 to 4  callback   -    -              16
--   7 visit            -     its session yes      -       service    -    -              9
--
-- All but free records have a serial and an expiry.
use Rattle.std.specs.Prelude.{Bool, true, ◌&&◌, List, [], ◌∷◌, ◌++◌, ℕ, ◌+◌, eqb, leb, ltb, length, drop, get_or}
use Rattle.protocol.specs.Utf8.{name_right}
use Rattle.protocol.specs.Bytes.{if, within, all_within, zeros, pad_to, part, num, bytes_of}
use Rattle.protocol.specs.Blocks.{sealed}
use Rattle.protocol.specs.Tickets.{a_free, a_session, a_waiting, a_visit, lifetime, secret_length, mark_most, depth_least, depth_most, text_least, text_most, ticket_text}

pub record Rec : Type 0 where
  pub kind : ℕ
  pub mark : ℕ
  pub parent : ℕ
  pub session : ℕ
  pub depth : ℕ
  pub serial : ℕ
  pub expiry : ℕ
  pub secret : List ℕ
  pub text : List ℕ
  pub iou : List ℕ
  pub since : ℕ

-- where each field starts
abbrev pub at_kind : ℕ
at_kind = 0

abbrev pub at_mark : ℕ
at_mark = 1

abbrev pub at_parent : ℕ
at_parent = 2

abbrev pub at_session : ℕ
at_session = 4

abbrev pub at_depth : ℕ
at_depth = 6

abbrev pub at_serial : ℕ
at_serial = 8

abbrev pub at_expiry : ℕ
at_expiry = 16

abbrev pub at_secret : ℕ
at_secret = 24

abbrev pub at_length : ℕ
at_length = 40

abbrev pub at_text : ℕ
at_text = 44

abbrev pub at_iou : ℕ
at_iou = 256

abbrev pub at_since : ℕ
at_since = 272

-- a free record is zero
abbrev pub free_rec : Rec
free_rec = record { kind = 0; mark = 0; parent = 0; session = 0; depth = 0; serial = 0; expiry = 0; secret = zeros 16; text = []; iou = zeros 16; since = 0 }

-- the 508 bytes of a record
unfoldable pub rec_body : Rec → List ℕ
rec_body r =
    (r.kind ∷ r.mark ∷ [])
    ++ (bytes_of 2 r.parent
    ++ (bytes_of 2 r.session
    ++ ((r.depth ∷ 0 ∷ [])
    ++ (bytes_of 4 r.serial
    ++ (zeros 4
    ++ (bytes_of 8 r.expiry
    ++ (pad_to 16 r.secret
    ++ (bytes_of 2 (length r.text)
    ++ (zeros 2
    ++ (pad_to 212 r.text
    ++ (pad_to 16 r.iou
    ++ (bytes_of 8 r.since
    ++ zeros 228))))))))))))

-- its block
unfoldable pub encode_rec : Rec → List ℕ
encode_rec r = sealed (rec_body r)

-- the record that a block says
unfoldable pub decode_rec : List ℕ → Rec
decode_rec b =
    record {
      kind = get_or b at_kind 0;
      mark = get_or b at_mark 0;
      parent = num at_parent 2 b;
      session = num at_session 2 b;
      depth = get_or b at_depth 0;
      serial = num at_serial 4 b;
      expiry = num at_expiry 8 b;
      secret = part at_secret 16 b;
      text = part at_text (num at_length 2 b) b;
      iou = part at_iou 16 b;
      since = num at_since 8 b;
    }

-- a record's ticket text
unfoldable pub name_of : Rec → List ℕ
name_of r = ticket_text r.kind r.serial r.secret

-- a record is live while T < expiry
abbrev pub live : ℕ → Rec → Bool
live clock r = ltb clock r.expiry

-- the bytes of a text of a kind: a session's is a name, other texts have 32 to 126
abbrev pub letters_right : ℕ → List ℕ → Bool
letters_right kind text = if (eqb kind a_session) (name_right text) (all_within 32 126 text)

unfoldable pub text_right : Rec → Bool
text_right r = within (text_least r.kind) (text_most r.kind) (length r.text) && letters_right r.kind r.text

-- fields that the kind does not use are zero, the others in range
unfoldable pub fields_right : Rec → Bool
fields_right r =
    leb r.kind a_visit
    && leb r.mark (mark_most r.kind)
    && within (depth_least r.kind) (depth_most r.kind) r.depth
    && all_within 0 0 (drop (secret_length r.kind) r.secret)
    && text_right r
    && (if (eqb r.kind a_waiting) true (all_within 0 0 r.iou))

-- a serial is nonzero and issued: below the next, or any where all are used
unfoldable pub serial_right : ℕ → ℕ → Bool
serial_right next serial = leb 1 serial && (if (eqb next 0) true (ltb serial next))

-- an expiry is at most T plus the kind's lifetime
unfoldable pub expiry_right : ℕ → Rec → Bool
expiry_right clock r = leb r.expiry (clock + lifetime r.kind)

-- a session was made at T at the latest; other kinds have no sign-on time
unfoldable pub since_right : ℕ → Rec → Bool
since_right clock r = if (eqb r.kind a_session) (leb r.since clock) (eqb r.since 0)

-- the rules of one record by itself, under the header's clock and next serial
unfoldable pub own_right : ℕ → ℕ → Rec → Bool
own_right clock next r =
    (fields_right r && since_right clock r)
    && (if (eqb r.kind a_free)
    (eqb r.serial 0 && eqb r.expiry 0)
    (serial_right next r.serial && expiry_right clock r))
