-- The parts of pages and addresses, put one after the other, are the text of their answer, and there is room for it in 8,192 bytes.
-- Assumes nothing.
use mathlib.Core.Path.{◌≡◌, refl, sym, ◌∙◌}
use mathlib.Core.Bool.{Bool, true, false}
use mathlib.Core.List.{List, [], ◌∷◌, ◌++◌, append_assoc, append-nil}
use Prim.Native.Nat.{ℕ, ◌≤◌}
use native.Mathlib.Omega.{arith}
use lib.Dec.{eqb}
use lib.ListN.{length}
use borrow.Author.Tests.{eqb-true, eqb-false}
use Rattle.protocol.specs.Bytes.{if, ascii, joined, holds, digits}
use Rattle.protocol.specs.Answers.{ErrorPage, SignedIn, SignedOut, FormPage, RedirectTo, YesNo, page_head, form_text, extended, callback_text, reply_text}
use Rattle.protocol.specs.Written.{Room, Wrote}
use Rattle.protocol.proofs.Sizes.{error, out_page, form, redirect, call}
use Rattle.text.proofs.Splice.{wrote_as, room_as}
use Rattle.text.proofs.Pieces.{piece_1, piece_2, piece_3, last_piece, more_pieces, no_line, fits}
use Rattle.render.specs.Parts.{title_lines, status_line, status_head, link_line, input_open, hidden_input, service_input, form_parts, grant_parts}

-- an error page
error_text : (n : ℕ) → reply_text (ErrorPage n) ≡ status_head n
unfolding reply_text page_head status_head title_lines status_line joined
error_text n = simp append_assoc

pub error_room : (d : List ℕ) (n : ℕ) → 8192 ≤ length d → Room d 0 (status_head n)
error_room d n h = room_as (error_text n) (fits d h (error n))

pub error_wrote : (d e : List ℕ) (n to : ℕ) → Wrote d 0 e to (status_head n) → Wrote d 0 e to (reply_text (ErrorPage n))
error_wrote d e n to w = wrote_as (sym (error_text n)) w

-- signed in
pub signed_in_text : ascii "<!DOCTYPE html>\n<title>200</title>\n<p>Signed in</p>\n" ≡ reply_text SignedIn
unfolding reply_text page_head digits
signed_in_text = refl

pub signed_in_wrote : (d e : List ℕ) (to : ℕ) → Wrote d 0 e to (ascii "<!DOCTYPE html>\n<title>200</title>\n<p>Signed in</p>\n") → Wrote d 0 e to (reply_text SignedIn)
signed_in_wrote d e to w = wrote_as signed_in_text w

-- signed out, without the link and with it
abbrev signed_out : List ℕ
signed_out = ascii "<!DOCTYPE html>\n<title>200</title>\n<p>Signed out</p>\n"

out_text : (link : List ℕ) → length link ≡ 0 → reply_text (SignedOut link) ≡ signed_out
unfolding reply_text page_head digits
out_text [] z = refl
out_text (b ∷ s) z = absurd (omega arith)

linked_text : (link : List ℕ) → (length link ≡ 0 → ⊥) → reply_text (SignedOut link) ≡ joined (signed_out ∷ link_line link ∷ [])
unfolding reply_text page_head digits link_line joined
linked_text [] z = absurd (z refl)
linked_text (b ∷ s) z = simp append_assoc

module _ (d link e : List ℕ) (to : ℕ) (w : Wrote d 0 e to signed_out) where
  pub signed_out_wrote : {r : Bool} → r ≡ eqb (length link) 0 → r ≡ true → Wrote d 0 e to (reply_text (SignedOut link))
  signed_out_wrote q y = wrote_as (sym (out_text link (eqb-true (length link) 0 (sym q ∙ y)))) w

  module _ {r : Bool} (q : r ≡ eqb (length link) 0) (y : r ≡ false) where
    some_link : length link ≡ 0 → ⊥
    some_link = eqb-false (length link) 0 (sym q ∙ y)

    pub link_room : 8192 ≤ length d → length link ≤ 200 → Room e to (link_line link)
    link_room h k = piece_2 _ _ _ _ _ (room_as (linked_text link some_link) (fits d h (out_page link k))) e to w

    pub linked_wrote : (f : List ℕ) (n : ℕ) → Wrote e to f n (link_line link) → Wrote d 0 f n (reply_text (SignedOut link))
    linked_wrote f n v = wrote_as (sym (linked_text link some_link)) (search (last_piece, more_pieces))

-- the service in a form, or none
hidden_service : (s : List ℕ) → (length s ≡ 0 → ⊥) → service_input s ≡ hidden_input (ascii "service") s
unfolding hidden_input input_open joined
hidden_service [] z = absurd (z refl)
hidden_service (b ∷ s) z = refl

module _ (d s : List ℕ) (at : ℕ) where
  pub no_service : Room d at (service_input s) → {r : Bool} → r ≡ eqb (length s) 0 → r ≡ true → Wrote d at d at (service_input s)
  no_service r q y = no_line d (ascii "<input name=\"service\" type=\"hidden\" value=\"") s (ascii "\">\n") at (eqb-true (length s) 0 (sym q ∙ y)) (omega (arith, r.fits))

  module _ {r : Bool} (q : r ≡ eqb (length s) 0) (y : r ≡ false) where
    some_service : length s ≡ 0 → ⊥
    some_service = eqb-false (length s) 0 (sym q ∙ y)

    pub service_room : Room d at (service_input s) → Room d at (hidden_input (ascii "service") s)
    service_room r = room_as (hidden_service s some_service) r

    pub service_wrote : (e : List ℕ) (to : ℕ) → Wrote d at e to (hidden_input (ascii "service") s) → Wrote d at e to (service_input s)
    service_wrote e to w = wrote_as (sym (hidden_service s some_service)) w

-- the form
form_text_lem : (n : ℕ) (lt s : List ℕ) → reply_text (FormPage n lt s) ≡ joined (status_head n ∷ form_parts lt s ∷ [])
unfolding reply_text form_text page_head status_head title_lines status_line form_parts hidden_input input_open joined
form_text_lem n lt s = simp (append_assoc, append-nil)

module _ (d : List ℕ) (n : ℕ) (lt s : List ℕ) (h : 8192 ≤ length d) (k : length lt ≤ 64) (l : length s ≤ 200) where
  form_room : Room d 0 (joined (status_head n ∷ form_parts lt s ∷ []))
  form_room = room_as (form_text_lem n lt s) (fits d h (form n lt s k l))

  pub head_room : Room d 0 (status_head n)
  head_room = piece_1 _ _ _ _ form_room

  module _ (e : List ℕ) (to : ℕ) (w : Wrote d 0 e to (status_head n)) where
    pub inputs_room : Room e to (form_parts lt s)
    inputs_room = piece_2 _ _ _ _ _ form_room e to w

    pub form_wrote : (f : List ℕ) (m : ℕ) → Wrote e to f m (form_parts lt s) → Wrote d 0 f m (reply_text (FormPage n lt s))
    form_wrote f m v = wrote_as (sym (form_text_lem n lt s)) (search (last_piece, more_pieces))

-- an address that more is put behind
marked_text : (url : List ℕ) (b : Bool) → b ≡ holds 63 url → extended url [] ≡ joined (url ∷ if b (ascii "&") (ascii "?") ∷ [])
unfolding extended joined
marked_text url b m = rw (sym m)

module _ (d url : List ℕ) (r : Room d 0 (extended url [])) where
  pub address_room : Room d 0 url
  address_room = piece_1 _ _ _ _ (room_as (marked_text url (holds 63 url) refl) r)

  module _ (e : List ℕ) (to : ℕ) (w : Wrote d 0 e to url) (b : Bool) (m : b ≡ holds 63 url) where
    mark_room : Room e to (if b (ascii "&") (ascii "?"))
    mark_room = piece_2 _ _ _ _ _ (room_as (marked_text url b m) r) e to w

    mark_wrote : (f : List ℕ) (n : ℕ) → Wrote e to f n (if b (ascii "&") (ascii "?")) → Wrote d 0 f n (extended url [])
    mark_wrote f n v = wrote_as (sym (marked_text url b m)) (search (last_piece, more_pieces))

    pub and_room : b ≡ true → Room e to (ascii "&")
    and_room h = rw h at mark_room

    pub and_wrote : b ≡ true → (f : List ℕ) (n : ℕ) → Wrote e to f n (ascii "&") → Wrote d 0 f n (extended url [])
    and_wrote h f n v = mark_wrote f n (rw h v)

    pub ask_room : b ≡ false → Room e to (ascii "?")
    ask_room h = rw h at mark_room

    pub ask_wrote : b ≡ false → (f : List ℕ) (n : ℕ) → Wrote e to f n (ascii "?") → Wrote d 0 f n (extended url [])
    ask_wrote h f n v = mark_wrote f n (rw h v)

-- with more behind it
extended-more : (url more : List ℕ) → extended url [] ++ more ≡ extended url more
unfolding extended
extended-more url more =
    rw (append-nil (if (holds 63 url) (ascii "&") (ascii "?"))) (append_assoc url (if (holds 63 url) (ascii "&") (ascii "?")) more)

-- a redirect: the service alone, or with a ticket
alone_text : (service ticket : List ℕ) → length ticket ≡ 0 → service ≡ reply_text (RedirectTo service ticket)
unfolding reply_text
alone_text service [] z = refl
alone_text service (b ∷ t) z = absurd (omega arith)

pub alone_wrote : (d e service ticket : List ℕ) (to : ℕ) {r : Bool} → r ≡ eqb (length ticket) 0 → r ≡ true → Wrote d 0 e to service → Wrote d 0 e to (reply_text (RedirectTo service ticket))
alone_wrote d e service ticket to q y w = wrote_as (alone_text service ticket (eqb-true (length ticket) 0 (sym q ∙ y))) w

redirect_text_lem : (service ticket : List ℕ) → (length ticket ≡ 0 → ⊥) → reply_text (RedirectTo service ticket) ≡ joined (extended service [] ∷ ascii "ticket=" ∷ ticket ∷ [])
unfolding reply_text joined
redirect_text_lem service [] z = absurd (z refl)
redirect_text_lem service (b ∷ t) z = rw (append-nil t) (sym (extended-more service (ascii "ticket=" ++ (b ∷ t))))

module _ (d service ticket : List ℕ) {r : Bool} (q : r ≡ eqb (length ticket) 0) (y : r ≡ false) (h : 8192 ≤ length d) (k : length service ≤ 200) (l : length ticket ≤ 64) where
  some_ticket : length ticket ≡ 0 → ⊥
  some_ticket = eqb-false (length ticket) 0 (sym q ∙ y)

  redirect_room : Room d 0 (joined (extended service [] ∷ ascii "ticket=" ∷ ticket ∷ []))
  redirect_room = room_as (redirect_text_lem service ticket some_ticket) (fits d h (redirect service ticket k l))

  pub marked_room : Room d 0 (extended service [])
  marked_room = piece_1 _ _ _ _ redirect_room

  module _ (e : List ℕ) (to : ℕ) (w : Wrote d 0 e to (extended service [])) where
    pub name_room : Room e to (ascii "ticket=")
    name_room = piece_2 _ _ _ _ _ redirect_room e to w

    module _ (f : List ℕ) (n : ℕ) (v : Wrote e to f n (ascii "ticket=")) where
      pub ticket_room : Room f n ticket
      ticket_room = piece_3 _ _ _ _ _ _ redirect_room e to w f n v

      pub redirect_wrote : (g : List ℕ) (m : ℕ) → Wrote f n g m ticket → Wrote d 0 g m (reply_text (RedirectTo service ticket))
      redirect_wrote g m u = wrote_as (sym (redirect_text_lem service ticket some_ticket)) (search (last_piece, more_pieces))

-- a callback
callback_text_lem : (url pgt iou : List ℕ) → callback_text url pgt iou ≡ joined (extended url [] ∷ grant_parts pgt iou ∷ [])
unfolding callback_text grant_parts joined
callback_text_lem url pgt iou = simp (append-nil, append_assoc) (sym (extended-more url (ascii "pgtId=" ++ (pgt ++ (ascii "&pgtIou=" ++ iou)))))

module _ (d url pgt iou : List ℕ) (h : 8192 ≤ length d) (k : length url ≤ 200) (l : length pgt ≤ 64) (m : length iou ≤ 64) where
  callback_room : Room d 0 (joined (extended url [] ∷ grant_parts pgt iou ∷ []))
  unfolding reply_text
  callback_room = room_as (callback_text_lem url pgt iou) (fits d h (call url pgt iou 0 k l m))

  pub url_room : Room d 0 (extended url [])
  url_room = piece_1 _ _ _ _ callback_room

  module _ (e : List ℕ) (to : ℕ) (w : Wrote d 0 e to (extended url [])) where
    pub grant_room : Room e to (grant_parts pgt iou)
    grant_room = piece_2 _ _ _ _ _ callback_room e to w

    pub callback_wrote : (f : List ℕ) (n : ℕ) → Wrote e to f n (grant_parts pgt iou) → Wrote d 0 f n (callback_text url pgt iou)
    callback_wrote f n v = wrote_as (sym (callback_text_lem url pgt iou)) (search (last_piece, more_pieces))

-- `yes` or `no`
pub yes_wrote : (d e : List ℕ) (to : ℕ) (b : Bool) → b ≡ true → Wrote d 0 e to (ascii "yes\n") → Wrote d 0 e to (reply_text (YesNo b))
unfolding reply_text
yes_wrote d e to b h w = rw h w

pub no_wrote : (d e : List ℕ) (to : ℕ) (b : Bool) → b ≡ false → Wrote d 0 e to (ascii "no\n") → Wrote d 0 e to (reply_text (YesNo b))
unfolding reply_text
no_wrote d e to b h w = rw h w
