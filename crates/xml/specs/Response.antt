-- The outer element's two lines, and the parts of a failure and of a proxy ticket between them.
use Rattle.std.specs.Prelude.{List, [], ◌∷◌, ℕ}
use Rattle.protocol.specs.Bytes.{ascii, joined}

abbrev pub response_open : List ℕ
response_open = ascii "<cas:serviceResponse xmlns:cas=\"http://www.yale.edu/tp/cas\">\n"

abbrev pub response_close : List ℕ
response_close = ascii "</cas:serviceResponse>\n"

-- a failure: its element up to the code, the code and again as the message, the element's end
unfoldable pub failure_open : List ℕ → List ℕ
failure_open element = joined (ascii "  <cas:" ∷ element ∷ ascii " code=\"" ∷ [])

unfoldable pub code_twice : List ℕ → List ℕ
code_twice code = joined (code ∷ ascii "\">\n    " ∷ code ∷ ascii "\n" ∷ [])

unfoldable pub failure_close : List ℕ → List ℕ
failure_close element = joined (ascii "  </cas:" ∷ element ∷ ascii ">\n" ∷ [])

unfoldable pub failure_parts : List ℕ → List ℕ → List ℕ
failure_parts element code = joined (response_open ∷ failure_open element ∷ code_twice code ∷ failure_close element ∷ response_close ∷ [])

unfoldable pub proxy_ticket : List ℕ → List ℕ
proxy_ticket ticket = joined (ascii "  <cas:proxySuccess>\n    <cas:proxyTicket>" ∷ ticket ∷ ascii "</cas:proxyTicket>\n  </cas:proxySuccess>\n" ∷ [])
