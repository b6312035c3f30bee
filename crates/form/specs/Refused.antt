-- What a refusal of the form reader answers: its number, and no lengths.
use Rattle.std.specs.Prelude.{ℕ}
use Rattle.protocol.specs.declared.Form.{Form}

abbrev pub refused_form : ℕ → Form
refused_form n = record { refusal = n; username_length = 0; password_length = 0 }
