-- The parts of a success: its proxies are written one by one, by a walk from grant to parent.
use Rattle.std.specs.Prelude.{List, [], ◌∷◌, ◌++◌, ℕ}
use Rattle.protocol.specs.Bytes.{ascii, joined}
use Rattle.protocol.specs.Answers.{escaped, line_if, mark_text, attributes_text}
use Rattle.protocol.specs.Calendar.{date_text}
use Rattle.xml.specs.Response.{response_open}

-- up to the user
unfoldable pub success_user : List ℕ → List ℕ
success_user user = joined (response_open ∷ ascii "  <cas:authenticationSuccess>\n    <cas:user>" ∷ escaped user ∷ ascii "</cas:user>\n" ∷ [])

-- the attributes: since when, that no token was used, and `true` or `false`
unfoldable pub date_part : ℕ → List ℕ
date_part since = joined (ascii "    <cas:attributes>\n      <cas:authenticationDate>" ∷ date_text since ∷ ascii "</cas:authenticationDate>\n" ∷ [])

abbrev pub token_line : List ℕ
token_line = ascii "      <cas:longTermAuthenticationRequestTokenUsed>false</cas:longTermAuthenticationRequestTokenUsed>\n"

unfoldable pub login_part : List ℕ → List ℕ
login_part word = joined (ascii "      <cas:isFromNewLogin>" ∷ word ∷ ascii "</cas:isFromNewLogin>\n    </cas:attributes>\n" ∷ [])

unfoldable pub attribute_parts : ℕ → ℕ → List ℕ
attribute_parts since mark = joined (date_part since ∷ token_line ∷ login_part (mark_text mark) ∷ [])

abbrev pub iou_line : List ℕ → List ℕ
iou_line iou = line_if (ascii "    <cas:proxyGrantingTicket>") iou (ascii "</cas:proxyGrantingTicket>\n")

-- user, then attributes, then IOU
unfoldable pub success_head : List ℕ → ℕ → ℕ → List ℕ → List ℕ
success_head user since mark iou = success_user user ++ (attributes_text since mark ++ iou_line iou)

abbrev pub proxies_open : List ℕ
proxies_open = ascii "    <cas:proxies>\n"

unfoldable pub proxy_line : List ℕ → List ℕ
proxy_line callback = joined (ascii "      <cas:proxy>" ∷ escaped callback ∷ ascii "</cas:proxy>\n" ∷ [])

abbrev pub proxies_close : List ℕ
proxies_close = ascii "    </cas:proxies>\n"

abbrev pub success_tail : List ℕ
success_tail = ascii "  </cas:authenticationSuccess>\n</cas:serviceResponse>\n"
