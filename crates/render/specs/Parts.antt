-- The parts of pages and addresses, each put by a function of its own.
use Rattle.std.specs.Prelude.{List, [], ◌∷◌, ℕ}
use Rattle.protocol.specs.Bytes.{ascii, joined, decimal}
use Rattle.protocol.specs.Answers.{escaped, line_if}

-- the first three lines of a page that says its status: two up to the title, and the status
unfoldable pub title_lines : ℕ → List ℕ
title_lines status = joined (ascii "<!DOCTYPE html>\n<title>" ∷ decimal status ∷ ascii "</title>\n" ∷ [])

unfoldable pub status_line : ℕ → List ℕ
status_line status = joined (ascii "<p>" ∷ decimal status ∷ ascii "</p>\n" ∷ [])

unfoldable pub status_head : ℕ → List ℕ
status_head status = joined (title_lines status ∷ status_line status ∷ [])

-- the link of a sign-out
unfoldable pub link_line : List ℕ → List ℕ
link_line link = joined (ascii "<a href=\"" ∷ escaped link ∷ ascii "\">Back</a>\n" ∷ [])

-- the form: the fields that are filled in, hidden inputs of a name and a value, the button
abbrev pub form_fields : List ℕ
form_fields = ascii "<form method=\"post\" action=\"/cas/login\">\n<input name=\"username\">\n<input name=\"password\" type=\"password\">\n"

unfoldable pub input_open : List ℕ → List ℕ
input_open name = joined (ascii "<input name=\"" ∷ name ∷ ascii "\" type=\"hidden\" value=\"" ∷ [])

unfoldable pub hidden_input : List ℕ → List ℕ → List ℕ
hidden_input name value = joined (input_open name ∷ escaped value ∷ ascii "\">\n" ∷ [])

abbrev pub service_input : List ℕ → List ℕ
service_input service = line_if (ascii "<input name=\"service\" type=\"hidden\" value=\"") service (ascii "\">\n")

abbrev pub form_button : List ℕ
form_button = ascii "<button>Sign in</button>\n</form>\n"

unfoldable pub form_parts : List ℕ → List ℕ → List ℕ
form_parts lt service = joined (form_fields ∷ hidden_input (ascii "lt") lt ∷ service_input service ∷ form_button ∷ [])

-- what a callback's address tells
unfoldable pub grant_parts : List ℕ → List ℕ → List ℕ
grant_parts pgt iou = joined (ascii "pgtId=" ∷ pgt ∷ ascii "&pgtIou=" ∷ iou ∷ [])
