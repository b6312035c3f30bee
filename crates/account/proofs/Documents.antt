-- A success document, read as a panel reads it, tells of its user and of its chain, and of nobody else. Assumes nothing.
use mathlib.Core.Path.{◌≡◌, refl, ap, ap₂, ◌∙◌}
use mathlib.Core.Bool.{Bool, true, false, ◌&&◌, not}
use mathlib.Core.List.{List, [], ◌∷◌, ◌++◌}
use Prim.Native.Nat.{ℕ}
use borrow.Author.Tests.{eqb-true, not-true}
use lib.Dec.{eqb}
use Rattle.protocol.specs.Bytes.{ascii, same, cuts}
use Rattle.protocol.specs.Calendar.{date_text}
use Rattle.protocol.specs.Answers.{escaped_byte, escaped, line_if, in_response, proxy_lines, proxies_text, mark_text, attributes_text, success_text}
use Rattle.protocol.proofs.Laws.{both, fork}
use Rattle.protocol.proofs.Dates.{date_plain}
use Rattle.account.specs.History.{Text}
use Rattle.account.specs.Account.{unescaped, texts_in, Tells}
use Rattle.account.proofs.Texts.{append_assoc}

-- Escaped texts

-- no `<` stands in a text
unfoldable clean : Text → Bool
clean [] = true
clean (b ∷ s) = not (eqb b 60) && clean s

clean_append : (a b : Text) → clean a ≡ true → clean b ≡ true → clean (a ++ b) ≡ true
unfolding clean
clean_append [] b p q = q
clean_append (x ∷ a) b p q = let w = both (not (eqb x 60)) (clean a) p in rw w.0 (clean_append a b w.1 q)

-- a byte, escaped: it has no `<`, and is read back
abbrev Back : ℕ → Text → Type 0
Back b s = (clean s ≡ true) × ((r : Text) → unescaped 0 (s ++ r) ≡ b ∷ unescaped 0 r)

byte_back : (b : ℕ) → Back b (escaped_byte b)
unfolding escaped_byte clean unescaped
byte_back b =
    fork (Back b) (eqb b 38) (λ e. let x : b ≡ 38 = eqb-true b 38 e in rw x (refl, λ r. refl))
    (λ n. fork (Back b) (eqb b 60) (λ e. let x : b ≡ 60 = eqb-true b 60 e in rw x (refl, λ r. refl))
    (λ m. fork (Back b) (eqb b 62) (λ e. let x : b ≡ 62 = eqb-true b 62 e in rw x (refl, λ r. refl))
    (λ z. fork (Back b) (eqb b 34) (λ e. let x : b ≡ 34 = eqb-true b 34 e in rw x (refl, λ r. refl))
    (λ z. fork (Back b) (eqb b 39) (λ e. let x : b ≡ 39 = eqb-true b 39 e in rw x (refl, λ r. refl))
    (λ z. (rw m, λ r. rw n))))))

escaped_clean : (s : Text) → clean (escaped s) ≡ true
unfolding escaped clean
escaped_clean [] = refl
escaped_clean (b ∷ s) = clean_append (escaped_byte b) (escaped s) (byte_back b).0 (escaped_clean s)

escaped_back : (s : Text) → unescaped 0 (escaped s) ≡ s
unfolding escaped unescaped
escaped_back [] = refl
escaped_back (b ∷ s) = (byte_back b).1 (escaped s) ∙ ap (λ (l : Text). b ∷ l) (escaped_back s)

date_clean : (time : ℕ) → clean (date_text time) ≡ true
date_clean time = let p = (date_plain time).bare in rw p at (escaped_clean (date_text time))

mark_clean : (mark : ℕ) → clean (mark_text mark) ≡ true
unfolding clean
mark_clean mark = fork (λ (s : Text). clean s ≡ true) (eqb mark 0) (λ e. refl) (λ e. refl)

-- Documents as pieces, each up to the next `<`

unfoldable pieced : List Text → Text → Text
pieced [] last = last
pieced (p ∷ ps) last = p ++ (60 ∷ pieced ps last)

unfoldable all_clean : List Text → Bool
all_clean [] = true
all_clean (p ∷ ps) = clean p && all_clean ps

cut_piece : (p s : Text) → clean p ≡ true → cuts 60 (p ++ (60 ∷ s)) ≡ p ∷ cuts 60 s
unfolding cuts clean
cut_piece [] s h = refl
cut_piece (b ∷ p) s h = let w = both (not (eqb b 60)) (clean p) h in rw (not-true (eqb b 60) w.0, cut_piece p s w.1)

cut_pieces : (ps : List Text) (last : Text) → all_clean ps ≡ true → cuts 60 (pieced ps last) ≡ ps ++ cuts 60 last
unfolding pieced all_clean
cut_pieces [] last h = refl
cut_pieces (p ∷ ps) last h = let w = both (clean p) (all_clean ps) h in cut_piece p (pieced ps last) w.0 ∙ ap (λ (l : List Text). p ∷ l) (cut_pieces ps last w.1)

-- what two tags find in pieces
abbrev user_tag : Text
user_tag = ascii "cas:user>"

abbrev proxy_tag : Text
proxy_tag = ascii "cas:proxy>"

-- what both find in a text
record Finds (users proxies : List Text) (s : Text) : Type 0 where
  users_are : texts_in user_tag (cuts 60 s) ≡ users
  proxies_are : texts_in proxy_tag (cuts 60 s) ≡ proxies

-- the end of every document, and of one with proxies
abbrev ending : Text
ending = ascii "  </cas:authenticationSuccess>\n</cas:serviceResponse>\n"

abbrev proxies_end : Text
proxies_end = ascii "    </cas:proxies>\n" ++ ending

-- pieces in front of a text
piece_finds : (ps : List Text) (last : Text) (users proxies : List Text) → all_clean ps ≡ true → texts_in user_tag (ps ++ cuts 60 last) ≡ users → texts_in proxy_tag (ps ++ cuts 60 last) ≡ proxies → Finds users proxies (pieced ps last)
piece_finds ps last users proxies h u p = record { users_are = rw (cut_pieces ps last h) u; proxies_are = rw (cut_pieces ps last h) p }

-- the proxies, behind the one before
lines_find : (ps : List Text) → Finds [] ps (ascii "/cas:proxy>\n" ++ (proxy_lines ps ++ proxies_end))
unfolding proxy_lines texts_in cuts same pieced all_clean clean
lines_find [] = record { users_are = refl; proxies_are = refl }
lines_find (p ∷ ps) =
    let f = lines_find ps in
    let last : Text = ascii "/cas:proxy>\n" ++ (proxy_lines ps ++ proxies_end) in
    rw (append_assoc (escaped p) (ascii "</cas:proxy>\n" ++ proxy_lines ps) proxies_end)
    (piece_finds (ascii "/cas:proxy>\n      " ∷ (proxy_tag ++ escaped p) ∷ []) last [] (p ∷ ps) (rw (escaped_clean p)) f.users_are (ap₂ (λ (x : Text) (l : List Text). x ∷ l) (escaped_back p) f.proxies_are))

-- all of them, behind the attributes or the IOU
abbrev closing : Bool → Text
closing true = ascii "/cas:proxyGrantingTicket>\n"
closing false = ascii "/cas:attributes>\n"

proxies_find : (iou : Bool) (chain : List Text) → Finds [] chain (closing iou ++ (proxies_text chain ++ ending))
unfolding proxy_lines texts_in cuts same pieced all_clean clean
proxies_find true [] = record { users_are = refl; proxies_are = refl }
proxies_find false [] = record { users_are = refl; proxies_are = refl }
proxies_find true (p ∷ ps) =
    let f = lines_find ps in
    let last : Text = ascii "/cas:proxy>\n" ++ (proxy_lines ps ++ proxies_end) in
    rw (append_assoc (escaped p) (ascii "</cas:proxy>\n" ++ proxy_lines ps) (ascii "    </cas:proxies>\n"), append_assoc (escaped p) (ascii "</cas:proxy>\n" ++ (proxy_lines ps ++ ascii "    </cas:proxies>\n")) ending, append_assoc (proxy_lines ps) (ascii "    </cas:proxies>\n") ending)
    (piece_finds (ascii "/cas:proxyGrantingTicket>\n    " ∷ ascii "cas:proxies>\n      " ∷ (proxy_tag ++ escaped p) ∷ []) last [] (p ∷ ps) (rw (escaped_clean p)) f.users_are (ap₂ (λ (x : Text) (l : List Text). x ∷ l) (escaped_back p) f.proxies_are))
proxies_find false (p ∷ ps) =
    let f = lines_find ps in
    let last : Text = ascii "/cas:proxy>\n" ++ (proxy_lines ps ++ proxies_end) in
    rw (append_assoc (escaped p) (ascii "</cas:proxy>\n" ++ proxy_lines ps) (ascii "    </cas:proxies>\n"), append_assoc (escaped p) (ascii "</cas:proxy>\n" ++ (proxy_lines ps ++ ascii "    </cas:proxies>\n")) ending, append_assoc (proxy_lines ps) (ascii "    </cas:proxies>\n") ending)
    (piece_finds (ascii "/cas:attributes>\n    " ∷ ascii "cas:proxies>\n      " ∷ (proxy_tag ++ escaped p) ∷ []) last [] (p ∷ ps) (rw (escaped_clean p)) f.users_are (ap₂ (λ (x : Text) (l : List Text). x ∷ l) (escaped_back p) f.proxies_are))

abbrev iou_line : Text → Text
iou_line iou = line_if (ascii "    <cas:proxyGrantingTicket>") iou (ascii "</cas:proxyGrantingTicket>\n")

iou_find : (iou : Text) (chain : List Text) → Finds [] chain (closing false ++ (iou_line iou ++ (proxies_text chain ++ ending)))
unfolding texts_in same pieced all_clean clean
iou_find [] chain = proxies_find false chain
iou_find (b ∷ iou) chain =
    let f = proxies_find true chain in
    rw (append_assoc (escaped (b ∷ iou)) (ascii "</cas:proxyGrantingTicket>\n") (proxies_text chain ++ ending))
    (piece_finds (ascii "/cas:attributes>\n    " ∷ (ascii "cas:proxyGrantingTicket>" ++ escaped (b ∷ iou)) ∷ []) (closing true ++ (proxies_text chain ++ ending)) [] chain (rw (escaped_clean (b ∷ iou))) f.users_are f.proxies_are)

-- the document-lists-proxies document
abbrev front : Text → ℕ → ℕ → List Text
front user since mark =
    []
    ∷ ascii "cas:serviceResponse xmlns:cas=\"http://www.yale.edu/tp/cas\">\n  "
    ∷ ascii "cas:authenticationSuccess>\n    "
    ∷ (user_tag ++ escaped user)
    ∷ ascii "/cas:user>\n    "
    ∷ ascii "cas:attributes>\n      "
    ∷ (ascii "cas:authenticationDate>" ++ date_text since)
    ∷ ascii "/cas:authenticationDate>\n      "
    ∷ ascii "cas:longTermAuthenticationRequestTokenUsed>false"
    ∷ ascii "/cas:longTermAuthenticationRequestTokenUsed>\n      "
    ∷ (ascii "cas:isFromNewLogin>" ++ mark_text mark)
    ∷ ascii "/cas:isFromNewLogin>\n    "
    ∷ []

document_lists_proxies : (user : Text) (since mark : ℕ) (iou : Text) (chain : List Text) → success_text user since mark iou chain ≡ pieced (front user since mark) (closing false ++ (iou_line iou ++ (proxies_text chain ++ ending)))
unfolding success_text in_response attributes_text pieced
document_lists_proxies user since mark iou chain = simp append_assoc

front_clean : (user : Text) (since mark : ℕ) → all_clean (front user since mark) ≡ true
unfolding all_clean clean
front_clean user since mark = rw (escaped_clean user, date_clean since, mark_clean mark)

pub document_tells : (user : Text) (since mark : ℕ) (iou : Text) (chain : List Text) → Tells user chain (success_text user since mark iou chain)
unfolding texts_in same
document_tells user since mark iou chain =
    let f = iou_find iou chain in
    let last : Text = closing false ++ (iou_line iou ++ (proxies_text chain ++ ending)) in
    let d = piece_finds (front user since mark) last (user ∷ []) chain (front_clean user since mark) (ap₂ (λ (x : Text) (l : List Text). x ∷ l) (escaped_back user) f.users_are) f.proxies_are in
    rw (document_lists_proxies user since mark iou chain) (record { its_user = d.users_are; its_chain = d.proxies_are })
