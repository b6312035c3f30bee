-- A waiting grant in a lawful table, and what finish makes of it.
use Rattle.std.specs.Prelude.{◌≡◌, Bool, List, [], ℕ}
use Rattle.protocol.specs.Tickets.{a_waiting, a_grant, iou_text}
use Rattle.protocol.specs.Records.{Rec}
use Rattle.protocol.specs.Table.{Table, rec_at}
use Rattle.protocol.specs.Answers.{Reply}
use Rattle.protocol.specs.Steps.{Step, put, remove, success_of, turned, finished, finish_at}
use Rattle.protocol.specs.Held.{Lawful, In, said_at}

pub record Waits (k : ℕ) (b : List ℕ) : Type 0 where
  pub lawful : Lawful b
  pub slot : In k b
  pub kind : (said_at k b).kind ≡ a_waiting

-- success of a waiting grant, with an IOU if it is not empty
abbrev pub told_of : Rec → List ℕ → List Rec → Reply
told_of r iou slots = success_of r.session r.mark iou r.parent slots

-- the one in slot k becomes a grant, or goes, or what the outcome says
abbrev pub granted : ℕ → Table → Step
granted k t = finished (rec_at k t.slots) (iou_text (rec_at k t.slots).iou) t (put k (turned a_grant (rec_at k t.slots) t.slots) t)

abbrev pub refused : ℕ → Table → Step
refused k t = finished (rec_at k t.slots) [] t (remove k t)

abbrev pub settled : ℕ → Bool → Table → Step
settled k outcome t = finish_at k (rec_at k t.slots) outcome t
