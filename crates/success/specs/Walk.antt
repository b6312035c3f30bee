-- Words for the walk from grant to parent over the bytes of a lawful table.
use Rattle.std.specs.Prelude.{◌≡◌, List, ℕ, ◌≤◌, length}
use Rattle.protocol.specs.Held.{Lawful, In, Within, said_at}

-- a walk may start at slot k, d deep
pub record Walk (b : List ℕ) (k d : ℕ) : Type 0 where
  pub lawful : Lawful b
  pub deep : d ≡ (said_at k b).depth

-- a success may be told: of a session's user, with an IOU, of a parent's proxies, into an output
pub record Told (b : List ℕ) (session : ℕ) (iou : List ℕ) (parent : ℕ) (out : List ℕ) : Type 0 where
  pub lawful : Lawful b
  pub user : In session b
  pub above : Within parent b
  pub short : length iou ≤ 64
  pub room : 8192 ≤ length out
