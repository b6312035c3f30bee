-- E6 and E9 of document 01 by code: what the writers leave in the output, by their contracts. Assumes nothing.
use mathlib.Core.Path.{◌≡◌, refl, ◌∙◌}
use mathlib.Core.List.{List}
use Prim.Native.Nat.{ℕ}
use lib.ListN.{take}
use Rattle.protocol.specs.Bytes.{ascii, holds, digits}
use Rattle.protocol.specs.Answers.{SignedOut, RedirectTo, escaped_byte, escaped, extended, page_head, reply_text}
use Rattle.protocol.specs.Written.{Wrote}
use Rattle.text.proofs.Splice.{read_back}

-- `a&"` in a link
E6-text : reply_text (SignedOut (ascii "a&\"")) ≡ ascii "<!DOCTYPE html>\n<title>200</title>\n<p>Signed out</p>\n<a href=\"a&amp;&quot;\">Back</a>\n"
unfolding reply_text page_head digits escaped escaped_byte
E6-text = refl

pub E6-written : (d e : List ℕ) (n : ℕ) → Wrote d 0 e n (reply_text (SignedOut (ascii "a&\"")))
    → take n e ≡ ascii "<!DOCTYPE html>\n<title>200</title>\n<p>Signed out</p>\n<a href=\"a&amp;&quot;\">Back</a>\n"
E6-written d e n w = read_back d e _ n w ∙ E6-text

-- a redirect to an address that has a `?`
E9-text : reply_text (RedirectTo (ascii "https://g.lan/p?i=2") (ascii "ST-7-000000000000000000")) ≡ ascii "https://g.lan/p?i=2&ticket=ST-7-000000000000000000"
unfolding reply_text extended holds
E9-text = refl

pub E9-written : (d e : List ℕ) (n : ℕ) → Wrote d 0 e n (reply_text (RedirectTo (ascii "https://g.lan/p?i=2") (ascii "ST-7-000000000000000000")))
    → take n e ≡ ascii "https://g.lan/p?i=2&ticket=ST-7-000000000000000000"
E9-written d e n w = read_back d e _ n w ∙ E9-text
