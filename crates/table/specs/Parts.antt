-- A record's block in parts: numbers in front, texts behind them. What stands where is protocol's Records.
use Rattle.std.specs.Prelude.{◌≡◌, List, [], ◌∷◌, ◌++◌, ℕ, ◌*◌, length, get_or}
use Rattle.protocol.specs.Bytes.{part, num, pad_to, zeros, bytes_of, spliced}
use Rattle.protocol.specs.Records.{Rec, decode_rec, at_kind, at_mark, at_parent, at_session, at_depth, at_serial, at_expiry, at_secret, at_length, at_text, at_iou, at_since}
use Rattle.protocol.specs.Table.{Table, rec_at}
use Rattle.protocol.specs.Steps.{put, turned}
use Rattle.protocol.specs.Held.{said_at}
use Rattle.ticket.specs.Kinds.{number, kind_of}
use Rattle.table.specs.declared.Fields.{Fields}
use Rattle.table.specs.declared.record.Record.{Record}

-- b is the block of slot k of a table, and says its record: all of it, and field by field
pub record Block (k : ℕ) (table b : List ℕ) : Type 0 where
  pub is : b ≡ part (512 * k) 512 table
  pub size : length b ≡ 512
  pub says : decode_rec b ≡ said_at k table
  pub kind : get_or b at_kind 0 ≡ (said_at k table).kind
  pub mark : get_or b at_mark 0 ≡ (said_at k table).mark
  pub parent : num at_parent 2 b ≡ (said_at k table).parent
  pub session : num at_session 2 b ≡ (said_at k table).session
  pub depth : get_or b at_depth 0 ≡ (said_at k table).depth
  pub serial : num at_serial 4 b ≡ (said_at k table).serial
  pub expiry : num at_expiry 8 b ≡ (said_at k table).expiry
  pub secret : part at_secret 16 b ≡ (said_at k table).secret
  pub text : part at_text (num at_length 2 b) b ≡ (said_at k table).text
  pub iou : part at_iou 16 b ≡ (said_at k table).iou
  pub since : num at_since 8 b ≡ (said_at k table).since

-- the numbers of a record
abbrev pub fields_of : Rec → Fields
fields_of r =
    record {
      kind = kind_of r.kind;
      mark = r.mark;
      parent = r.parent;
      session = r.session;
      depth = r.depth;
      serial = r.serial;
      expiry = r.expiry;
      since = r.since;
    }

-- the record of its numbers and bytes; short secrets are filled up with zeros
abbrev pub rec_of : Record → Rec
rec_of r =
    record {
      kind = number r.fields.kind;
      mark = r.fields.mark;
      parent = r.fields.parent;
      session = r.fields.session;
      depth = r.fields.depth;
      serial = r.fields.serial;
      expiry = r.fields.expiry;
      secret = pad_to 16 r.secret.now;
      text = r.text.now;
      iou = pad_to 16 r.iou.now;
      since = r.fields.since;
    }

-- bytes 0 to 23 of its block
unfoldable pub numbers_of : Fields → List ℕ
numbers_of f =
    (number f.kind ∷ [])
    ++ ((f.mark ∷ [])
    ++ (bytes_of 2 f.parent
    ++ (bytes_of 2 f.session
    ++ ((f.depth ∷ [])
    ++ (zeros 1
    ++ (bytes_of 4 f.serial
    ++ (zeros 4
    ++ bytes_of 8 f.expiry)))))))

-- and 24 to 507
unfoldable pub texts_of : Record → List ℕ
texts_of r =
    pad_to 16 r.secret.now
    ++ (bytes_of 2 (length r.text.now)
    ++ (zeros 2
    ++ (pad_to 212 r.text.now
    ++ (pad_to 16 r.iou.now
    ++ (bytes_of 8 r.fields.since
    ++ zeros 228)))))

-- a block's bytes with another kind and expiry, its mark and its IOU secret cleared
abbrev pub turned_bytes : ℕ → ℕ → List ℕ → List ℕ
turned_bytes kind expiry b = spliced (spliced (spliced (spliced b at_kind (kind ∷ [])) at_mark (0 ∷ [])) at_expiry (bytes_of 8 expiry)) at_iou (zeros 16)

-- the record in a slot turned
abbrev pub turned_at : ℕ → ℕ → Table → Table
turned_at k kind t = put k (turned kind (rec_at k t.slots) t.slots) t
