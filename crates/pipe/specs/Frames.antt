-- The frames out, piece by piece, behind the four bytes of their length. A letter is its byte.
use Rattle.std.specs.Prelude.{List, [], ◌∷◌, ℕ, ◌%◌, length, take}
use Rattle.std.specs.Int.{from_bool}
use Rattle.protocol.specs.Bytes.{bytes_of, joined}
use Rattle.protocol.specs.Answers.{number_of, data_of}
use Rattle.protocol.specs.declared.Fault.{Fault}
use Rattle.protocol.specs.declared.Form.{Form}
use Rattle.protocol.specs.declared.Outcome.{Outcome}
use Rattle.protocol.specs.declared.Visit.{Visit}

-- a letter, and a letter with a refusal
abbrev pub letter_alone : ℕ → List ℕ
letter_alone letter = letter ∷ []

abbrev pub refused : ℕ → ℕ → List ℕ
refused letter refusal = joined (letter_alone letter ∷ bytes_of 4 refusal ∷ [])

-- a text with its length before it
abbrev pub sized : List ℕ → List ℕ
sized s = joined (bytes_of 4 (length s) ∷ s ∷ [])

-- `G`: the refusal of a register and its first block at fault
abbrev pub fault_frame : Fault → List ℕ
fault_frame f = joined (refused 71 f.refusal ∷ bytes_of 4 f.block ∷ [])

-- `B`, `T`, `X`: a block, the table, the reason why no frame is read any more
abbrev pub panel_frame : ℕ → List ℕ → List ℕ
panel_frame refusal block = joined (refused 66 refusal ∷ sized block ∷ [])

abbrev pub table_frame : List ℕ → List ℕ
table_frame table = joined (letter_alone 84 ∷ sized table ∷ [])

abbrev pub bad_frame : List ℕ → List ℕ
bad_frame reason = joined (letter_alone 88 ∷ sized reason ∷ [])

-- `R`, `V`: what was read of a form, what a panel is to be told
abbrev pub form_frame : Form → List ℕ → List ℕ → List ℕ
form_frame f username password =
    joined (refused 82 f.refusal ∷ sized (take f.username_length username) ∷ sized (take f.password_length password) ∷ [])

abbrev pub visit_frame : Visit → List ℕ → List ℕ
visit_frame v text = joined (refused 86 v.refusal ∷ sized (take v.length text) ∷ [])

-- `A` and `N`: an outcome's numbers, then its bytes
abbrev pub outcome_numbers : ℕ → Outcome → List ℕ
outcome_numbers letter o =
    joined
    (refused letter o.refusal
    ∷ (number_of o.answer % 256 ∷ [])
    ∷ (data_of o.answer % 256 ∷ [])
    ∷ bytes_of 4 o.status
    ∷ (from_bool o.cookie_cleared ∷ [])
    ∷ bytes_of 4 o.callback_serial
    ∷ [])

abbrev pub outcome_frame : ℕ → Outcome → List ℕ → List ℕ → List ℕ
outcome_frame letter o text cookie =
    joined (outcome_numbers letter o ∷ sized (take o.length text) ∷ sized (take o.cookie_length cookie) ∷ [])
