-- What is read at the known places of an answer's bytes is what was written there. Assumes nothing.
use mathlib.Core.Path.{◌≡◌, refl, ap, ◌∙◌}
use mathlib.Core.Bool.{Bool, true, false, ◌&&◌, ◌||◌}
use mathlib.Core.List.{List, [], ◌∷◌, ◌++◌}
use Prim.Native.Nat.{ℕ, zero, suc, ◌+◌, ◌/◌, ◌%◌, ◌≤◌}
use native.Mathlib.Omega.{arith}
use borrow.Author.Tests.{ltb-true, ltb-false, le-leb, leb-true, ne_eqb, eq-eqb}
use lib.Dec.{eqb, leb, ltb}
use lib.ListN.{length, take, drop}
use lib.Seq.{take-append_seam, drop-append-add}
use Rattle.protocol.specs.Bytes.{if, ascii, is_empty, same, within, all_within, holds, up_to, spliced, digits, decimal, hex, hex_digit}
use Rattle.protocol.specs.Tickets.{ticket_text, prefix, secret_length}
use Rattle.protocol.specs.Records.{Rec, name_of}
use Rattle.protocol.specs.Table.{Table}
use Rattle.protocol.specs.Steps.{new_rec}
use Rattle.protocol.specs.Answers.{escaped, escaped_byte, extended, page_head, form_text, line_if, in_response, proxy_success_text, redirect_text, callback_text}
use Rattle.protocol.proofs.Laws.{both}
use Rattle.protocol.proofs.Names.{digits-within}
use Rattle.account.specs.History.{Text}
use Rattle.account.specs.Reading.{ticket_in, is_form, login_in, pgt_in, iou_in, proxy_in}
use Rattle.account.proofs.Base.{clash, or_right}

pub append_assoc {ℓ} : {A : Type ℓ} (a b c : List A) → (a ++ b) ++ c ≡ a ++ (b ++ c)
append_assoc [] b c = refl
append_assoc (x ∷ a) b c = ap (λ l. x ∷ l) (append_assoc a b c)

-- Bytes of a ticket's text: `-`, digits and letters; none of them is escaped, and none is `"`, `&` or `<`
unfoldable pub letter : ℕ → Bool
letter b = within 45 57 b || leb 65 b

unfoldable pub letters : List ℕ → Bool
letters [] = true
letters (b ∷ s) = letter b && letters s

letters_append : (a b : List ℕ) → letters a ≡ true → letters b ≡ true → letters (a ++ b) ≡ true
unfolding letters
letters_append [] b p q = q
letters_append (x ∷ a) b p q =
    let w = both (letter x) (letters a) p in
    rw w.0 (letters_append a b w.1 q)

digits_letters : (s : List ℕ) → all_within 48 57 s ≡ true → letters s ≡ true
unfolding letters letter all_within
digits_letters [] h = refl
digits_letters (b ∷ s) h =
    let w = both (within 48 57 b) (all_within 48 57 s) h in
    let l = leb-true 48 b (both (leb 48 b) (leb b 57) w.0).0 in
    let m = (both (leb 48 b) (leb b 57) w.0).1 in
    rw (le-leb 45 b (omega arith), m) (digits_letters s w.1)

hex_letter : (v : ℕ) → letter (hex_digit v) ≡ true
unfolding letter
hex_letter v = go (ltb v 10) refl
  where
    go : (z : Bool) → ltb v 10 ≡ z → (within 45 57 (if z (48 + v) (87 + v)) || leb 65 (if z (48 + v) (87 + v))) ≡ true
    go true e =
        let h = ltb-true v 10 e in
        rw (le-leb 45 (48 + v) (omega arith), le-leb (48 + v) 57 (omega arith))
    go false e =
        let h = ltb-false v 10 e in
        or_right (within 45 57 (87 + v)) (leb 65 (87 + v)) (le-leb 65 (87 + v) (omega arith))

hex_letters : (s : List ℕ) → letters (hex s) ≡ true
unfolding letters hex
hex_letters [] = refl
hex_letters (b ∷ s) = rw (hex_letter (b / 16), hex_letter (b % 16)) (hex_letters s)

prefix_letters : (k : ℕ) → 1 ≤ k → k ≤ 6 → letters (prefix k) ≡ true
unfolding letters letter
prefix_letters zero l h = absurd (omega arith)
prefix_letters (suc zero) l h = refl
prefix_letters (suc (suc zero)) l h = refl
prefix_letters (suc (suc (suc zero))) l h = refl
prefix_letters (suc (suc (suc (suc zero)))) l h = refl
prefix_letters (suc (suc (suc (suc (suc zero))))) l h = refl
prefix_letters (suc (suc (suc (suc (suc (suc zero)))))) l h = refl
prefix_letters (suc (suc (suc (suc (suc (suc (suc k))))))) l h = absurd (omega arith)

name_letters : (r : Rec) → 1 ≤ r.kind → r.kind ≤ 6 → letters (name_of r) ≡ true
unfolding name_of ticket_text letters letter
name_letters r l h =
    letters_append (prefix r.kind) _ (prefix_letters r.kind l h)
    (letters_append (decimal r.serial) _ (digits_letters (decimal r.serial) (digits-within 20 r.serial)) (hex_letters (take (secret_length r.kind) r.secret)))

unlike : (b x : ℕ) → letter b ≡ true → letter x ≡ false → eqb b x ≡ false
unlike b x p q = ne_eqb b x (λ e. clash (rw e at p) q)

escaped_letters : (s : List ℕ) → letters s ≡ true → escaped s ≡ s
unfolding letters letter escaped escaped_byte
escaped_letters [] h = refl
escaped_letters (b ∷ s) h =
    let w = both (letter b) (letters s) h in
    rw (unlike b 38 w.0 refl, unlike b 60 w.0 refl, unlike b 62 w.0 refl, unlike b 34 w.0 refl, unlike b 39 w.0 refl)
    (ap (λ (l : List ℕ). b ∷ l) (escaped_letters s w.1))

up_to_letters : (x : ℕ) (s r : List ℕ) → letter x ≡ false → letters s ≡ true → up_to x (s ++ (x ∷ r)) ≡ s
unfolding letters up_to
up_to_letters x [] r q h = rw (eq-eqb x x refl)
up_to_letters x (b ∷ s) r q h =
    let w = both (letter b) (letters s) h in
    rw (unlike b x w.0 q) (ap (λ (l : List ℕ). b ∷ l) (up_to_letters x s r q w.1))

-- the reported length of a buffer that a text was written into
pub said_is : (old text : List ℕ) → take (length text) (spliced old 0 text) ≡ text
unfolding spliced
said_is old text = take-append_seam text (drop (0 + length text) old)

-- what stands behind an address and its `?` or `&`
past_address : (url : Text) (n : ℕ) (more : Text) → drop (length url + suc n) (extended url more) ≡ drop n more
unfolding extended
past_address url n more = drop-append-add url _ (suc n) ∙ go (holds 63 url)
  where
    go : (z : Bool) → drop (suc n) ((if z (ascii "&") (ascii "?")) ++ more) ≡ drop n more
    go true = refl
    go false = refl

-- the ticket of a redirect
pub ticket_read : (service ticket : Text) → is_empty ticket ≡ false → ticket_in service (redirect_text service ticket) ≡ ticket
ticket_read service [] h = absurd (clash {b = true} refl h)
ticket_read service (b ∷ t) h = past_address service 7 (ascii "ticket=" ++ (b ∷ t))

-- the login ticket of a form
abbrev after_login : Text → Text
after_login service = ascii ">\n" ++ (line_if (ascii "<input name=\"service\" type=\"hidden\" value=\"") service (ascii "\">\n") ++ ascii "<button>Sign in</button>\n</form>\n")

pub form_200 : (lt service : Text) → letters lt ≡ true → (is_form (form_text 200 lt service) ≡ true) × (login_in (form_text 200 lt service) ≡ lt)
unfolding form_text page_head digits same letter
form_200 lt service h = (refl, rw (escaped_letters lt h) (up_to_letters 34 lt (after_login service) refl h))

pub form_401 : (lt service : Text) → letters lt ≡ true → (is_form (form_text 401 lt service) ≡ true) × (login_in (form_text 401 lt service) ≡ lt)
unfolding form_text page_head digits same letter
form_401 lt service h = (refl, rw (escaped_letters lt h) (up_to_letters 34 lt (after_login service) refl h))

-- other pages are no forms
pub page_403 : is_form (page_head 403 (decimal 403)) ≡ false
unfolding page_head digits same
page_403 = refl

pub page_503 : is_form (page_head 503 (decimal 503)) ≡ false
unfolding page_head digits same
page_503 = refl

pub page_in : is_form (page_head 200 (ascii "Signed in")) ≡ false
unfolding page_head digits same
page_in = refl

-- the grant and the IOU of a callback
pub pgt_read : (url pgt iou : Text) → letters pgt ≡ true → pgt_in url (callback_text url pgt iou) ≡ pgt
unfolding callback_text letter
pgt_read url pgt iou h = rw (past_address url 6 (ascii "pgtId=" ++ (pgt ++ (ascii "&pgtIou=" ++ iou)))) (up_to_letters 38 pgt (ascii "pgtIou=" ++ iou) refl h)

behind_pgt : (url pgt iou : Text) → drop (length url + 7 + length pgt + 8) (callback_text url pgt iou) ≡ iou
unfolding callback_text
behind_pgt url pgt iou =
    let e : length url + 7 + length pgt + 8 ≡ length url + suc (6 + (length pgt + 8)) = omega arith in
    rw e (past_address url (6 + (length pgt + 8)) (ascii "pgtId=" ++ (pgt ++ (ascii "&pgtIou=" ++ iou)))
    ∙ drop-append-add (ascii "pgtId=") (pgt ++ (ascii "&pgtIou=" ++ iou)) (length pgt + 8)
    ∙ drop-append-add pgt (ascii "&pgtIou=" ++ iou) 8)

pub iou_read : (url pgt iou : Text) → letters pgt ≡ true → iou_in url (callback_text url pgt iou) ≡ iou
iou_read url pgt iou h = rw (pgt_read url pgt iou h) (behind_pgt url pgt iou)

-- the proxy ticket
pub proxy_read : (ticket : Text) → letters ticket ≡ true → proxy_in (proxy_success_text ticket) ≡ ticket
unfolding proxy_success_text in_response letter
proxy_read ticket h =
    rw (append_assoc ticket (ascii "</cas:proxyTicket>\n  </cas:proxySuccess>\n") (ascii "</cas:serviceResponse>\n"))
    (up_to_letters 60 ticket (ascii "/cas:proxyTicket>\n  </cas:proxySuccess>\n" ++ ascii "</cas:serviceResponse>\n") refl h)

-- no ticket's text is empty
text_some : (k s : ℕ) (x : List ℕ) → 1 ≤ k → k ≤ 6 → is_empty (ticket_text k s x) ≡ false
unfolding ticket_text
text_some zero s x l h = absurd (omega arith)
text_some (suc zero) s x l h = refl
text_some (suc (suc zero)) s x l h = refl
text_some (suc (suc (suc zero))) s x l h = refl
text_some (suc (suc (suc (suc zero)))) s x l h = refl
text_some (suc (suc (suc (suc (suc zero))))) s x l h = refl
text_some (suc (suc (suc (suc (suc (suc zero)))))) s x l h = refl
text_some (suc (suc (suc (suc (suc (suc (suc k))))))) s x l h = absurd (omega arith)

pub name_some : (r : Rec) → 1 ≤ r.kind → r.kind ≤ 6 → is_empty (name_of r) ≡ false
unfolding name_of
name_some r l h = text_some r.kind r.serial r.secret l h

-- of a new record
module _ (kind mark parent session depth : ℕ) (text random : List ℕ) (t : Table) (l : 1 ≤ kind) (h : kind ≤ 6) where
  pub new_letters : letters (name_of (new_rec kind mark parent session depth text random t)) ≡ true
  unfolding new_rec
  new_letters = name_letters (new_rec kind mark parent session depth text random t) l h

  pub new_some : is_empty (name_of (new_rec kind mark parent session depth text random t)) ≡ false
  unfolding new_rec
  new_some = name_some (new_rec kind mark parent session depth text random t) l h
