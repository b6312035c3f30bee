-- Words for the contracts of the edits.
use Rattle.std.specs.Prelude.{◌≡◌, List, map, ℕ, ◌/◌, ◌%◌, ◌≤◌, length}
use Rattle.protocol.specs.Bytes.{pad_to}
use Rattle.protocol.specs.Tickets.{secret_from, iou_from}
use Rattle.protocol.specs.Records.{Rec, free_rec}
use Rattle.protocol.specs.Table.{Table, table_of, rec_at}
use Rattle.protocol.specs.Steps.{put, remove, slot_for, add, left_by}
use Rattle.protocol.specs.Held.{Fine, Holds, In, said_at}

-- fine bytes in which a record of kind 0 is a free one, zero throughout
pub record Tidy (b : List ℕ) : Type 0 where
  pub fine : Fine b
  pub free : (k : ℕ) → (said_at k b).kind ≡ 0 → said_at k b ≡ free_rec

-- the secret of a new ticket, and its IOU secret, which is short where the kind has none
pub record Secret (kind : ℕ) (random s : List ℕ) : Type 0 where
  pub is : s ≡ secret_from kind random
  pub short : length s ≤ 16

pub record Iou (kind : ℕ) (random s : List ℕ) : Type 0 where
  pub is : pad_to 16 s ≡ iou_from kind random
  pub short : length s ≤ 16

-- r was added to t in slot k
pub record Issued (r : Rec) (t : Table) (b : List ℕ) (k : ℕ) : Type 0 where
  pub table : Holds b (add r t)
  pub slot : k ≡ slot_for t
  pub at : In k b

-- a length of 9 to 128 whole blocks
pub record Shape (n : ℕ) : Type 0 where
  pub whole : n % 512 ≡ 0
  pub least : 9 ≤ n / 512
  pub most : n / 512 ≤ 128

-- the record in slot k changed, or every record
abbrev pub changed_at : ℕ → (Rec → Rec) → Table → Table
changed_at k change t = put k (change (rec_at k t.slots)) t

abbrev pub changed_all : (Rec → Rec) → Table → Table
changed_all change t = table_of t.clock t.next (map change t.slots)

-- an accepted ticket leaves slot k
abbrev pub left_at : ℕ → Table → Table
left_at k t = left_by k (rec_at k t.slots) (remove k t)
