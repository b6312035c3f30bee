-- The parts of XML, put one after the other, are the text of their answer, and there is room for it in 8,192 bytes; a success in its parts.
-- Assumes nothing.
use mathlib.Core.Path.{◌≡◌, refl, sym, ◌∙◌}
use mathlib.Core.Bool.{Bool, true, false}
use mathlib.Core.List.{List, [], ◌∷◌, ◌++◌, append_assoc, append-nil}
use Prim.Native.Nat.{ℕ, ◌≤◌}
use native.Mathlib.Omega.{arith}
use lib.Dec.{eqb}
use lib.ListN.{length}
use borrow.Author.Tests.{eqb-true, eqb-false}
use Rattle.protocol.specs.Bytes.{ascii, joined}
use Rattle.protocol.specs.Answers.{Success, Failure, ProxySuccess, ProxyFailure, code_text, escaped, in_response, proxy_lines, proxies_text, success_text, failure_text, proxy_success_text, reply_text, attributes_text}
use Rattle.protocol.specs.Written.{Room, Wrote}
use Rattle.protocol.proofs.Sizes.{AllShort, success, failure, ticket, refusal}
use Rattle.text.proofs.Splice.{wrote_as, room_as, room_first}
use Rattle.text.proofs.Pieces.{piece_1, piece_2, piece_3, last_piece, more_pieces, line-pieces, no_line, fits}
use Rattle.xml.specs.declared.Code.{Code}
use Rattle.xml.specs.Codes.{code_of}
use Rattle.xml.specs.Response.{response_open, response_close, failure_open, code_twice, failure_close, failure_parts, proxy_ticket}
use Rattle.xml.specs.Success.{success_head, success_tail, proxies_open, proxies_close, proxy_line, success_user, date_part, login_part, attribute_parts, iou_line}

-- a proxy ticket
ticket_text_lem : (t : List ℕ) → reply_text (ProxySuccess t) ≡ joined (response_open ∷ proxy_ticket t ∷ response_close ∷ [])
unfolding reply_text proxy_success_text in_response joined proxy_ticket
ticket_text_lem t = refl

module _ (d t : List ℕ) (h : 8192 ≤ length d) (k : length t ≤ 64) where
  ticket_room : Room d 0 (joined (response_open ∷ proxy_ticket t ∷ response_close ∷ []))
  ticket_room = room_as (ticket_text_lem t) (fits d h (ticket t k))

  module _ (e : List ℕ) (to : ℕ) (w : Wrote d 0 e to response_open) where
    pub ticket_told : Room e to (proxy_ticket t)
    ticket_told = piece_2 _ _ _ _ _ ticket_room e to w

    module _ (f : List ℕ) (n : ℕ) (v : Wrote e to f n (proxy_ticket t)) where
      pub ticket_close : Room f n response_close
      ticket_close = piece_3 _ _ _ _ _ _ ticket_room e to w f n v

      pub ticket_wrote : (g : List ℕ) (m : ℕ) → Wrote f n g m response_close → Wrote d 0 g m (reply_text (ProxySuccess t))
      ticket_wrote g m u = wrote_as (sym (ticket_text_lem t)) (search (last_piece, more_pieces))

-- a failure's element and code
failure_text_lem : (element code : List ℕ) → failure_text element code ≡ failure_parts element code
unfolding failure_text in_response failure_parts failure_open code_twice failure_close joined
failure_text_lem element code = simp append_assoc

-- the validators' failures, and proxy's
module _ (d : List ℕ) (x : Code) where
  pub failure_room : 8192 ≤ length d → Room d 0 (failure_parts (ascii "authenticationFailure") (code_text (code_of x)))
  unfolding reply_text
  failure_room h = room_as (failure_text_lem _ _) (fits d h (failure (code_of x)))

  pub failure_wrote : (e : List ℕ) (to : ℕ) → Wrote d 0 e to (failure_parts (ascii "authenticationFailure") (code_text (code_of x))) → Wrote d 0 e to (reply_text (Failure (code_of x)))
  unfolding reply_text
  failure_wrote e to w = wrote_as (sym (failure_text_lem _ _)) w

  pub refusal_room : 8192 ≤ length d → Room d 0 (failure_parts (ascii "proxyFailure") (code_text (code_of x)))
  unfolding reply_text
  refusal_room h = room_as (failure_text_lem _ _) (fits d h (refusal (code_of x)))

  pub refusal_wrote : (e : List ℕ) (to : ℕ) → Wrote d 0 e to (failure_parts (ascii "proxyFailure") (code_text (code_of x))) → Wrote d 0 e to (reply_text (ProxyFailure (code_of x)))
  unfolding reply_text
  refusal_wrote e to w = wrote_as (sym (failure_text_lem _ _)) w

-- a success is its head, its proxies and its tail
pub success_parts : (user : List ℕ) (since mark : ℕ) (iou : List ℕ) (proxies : List (List ℕ))
    → reply_text (Success user since mark iou proxies) ≡ success_head user since mark iou ++ (proxies_text proxies ++ success_tail)
unfolding reply_text success_text success_head success_user in_response joined
success_parts user since mark iou proxies = simp append_assoc

-- its proxies, where there are any, a line each
pub proxies_parts : (p : List ℕ) (ps : List (List ℕ)) → proxies_text (p ∷ ps) ≡ proxies_open ++ (proxy_lines (p ∷ ps) ++ proxies_close)
proxies_parts p ps = refl

pub proxy_lines_parts : (p : List ℕ) (ps : List (List ℕ)) → proxy_lines (p ∷ ps) ≡ proxy_line p ++ proxy_lines ps
unfolding proxy_lines proxy_line joined
proxy_lines_parts p ps = simp append_assoc

-- and there is room for it all
pub success_room : (d user : List ℕ) (since mark : ℕ) (iou : List ℕ) (proxies : List (List ℕ)) → 8192 ≤ length d → length user ≤ 200 → length iou ≤ 64 → length proxies ≤ 4 → AllShort proxies
    → Room d 0 (success_head user since mark iou ++ (proxies_text proxies ++ success_tail))
success_room d user since mark iou proxies h k l m a = room_as (success_parts user since mark iou proxies) (fits d h (success user since mark iou proxies k l m a))

-- its attributes
attributes_text_lem : (since mark : ℕ) → attributes_text since mark ≡ attribute_parts since mark
unfolding attributes_text attribute_parts date_part login_part joined
attributes_text_lem since mark = simp (append_assoc, append-nil)

-- its IOU, or none
abbrev iou_pieces : List ℕ → List (List ℕ)
iou_pieces iou = ascii "    <cas:proxyGrantingTicket>" ∷ escaped iou ∷ ascii "</cas:proxyGrantingTicket>\n" ∷ []

module _ (d iou : List ℕ) (at : ℕ) (r : Room d at (iou_line iou)) where
  pub no_iou : {b : Bool} → b ≡ eqb (length iou) 0 → b ≡ true → Wrote d at d at (iou_line iou)
  no_iou q y = no_line d (ascii "    <cas:proxyGrantingTicket>") iou (ascii "</cas:proxyGrantingTicket>\n") at (eqb-true (length iou) 0 (sym q ∙ y)) (omega (arith, r.fits))

  module _ {b : Bool} (q : b ≡ eqb (length iou) 0) (y : b ≡ false) where
    some_iou : length iou ≡ 0 → ⊥
    some_iou = eqb-false (length iou) 0 (sym q ∙ y)

    iou_room : Room d at (joined (iou_pieces iou))
    iou_room = room_as (line-pieces (ascii "    <cas:proxyGrantingTicket>") iou (ascii "</cas:proxyGrantingTicket>\n") some_iou) r

    pub iou_open : Room d at (ascii "    <cas:proxyGrantingTicket>")
    iou_open = piece_1 _ _ _ _ iou_room

    module _ (e : List ℕ) (to : ℕ) (w : Wrote d at e to (ascii "    <cas:proxyGrantingTicket>")) where
      module _ (f : List ℕ) (n : ℕ) (v : Wrote e to f n (escaped iou)) where
        pub iou_close : Room f n (ascii "</cas:proxyGrantingTicket>\n")
        iou_close = piece_3 _ _ _ _ _ _ iou_room e to w f n v

        pub iou_wrote : (g : List ℕ) (m : ℕ) → Wrote f n g m (ascii "</cas:proxyGrantingTicket>\n") → Wrote d at g m (iou_line iou)
        iou_wrote g m u = wrote_as (sym (line-pieces (ascii "    <cas:proxyGrantingTicket>") iou (ascii "</cas:proxyGrantingTicket>\n") some_iou)) (search (last_piece, more_pieces))

-- its head
head_text : (user : List ℕ) (since mark : ℕ) (iou : List ℕ) → success_head user since mark iou ≡ joined (success_user user ∷ attribute_parts since mark ∷ iou_line iou ∷ [])
unfolding success_head joined
head_text user since mark iou = rw (append-nil (iou_line iou), attributes_text_lem since mark)

module _ (d user : List ℕ) (since mark : ℕ) (iou : List ℕ) (h : 8192 ≤ length d) (k : length user ≤ 200) (l : length iou ≤ 64) where
  head_room : Room d 0 (joined (success_user user ∷ attribute_parts since mark ∷ iou_line iou ∷ []))
  unfolding AllShort
  head_room = room_as (head_text user since mark iou) (room_first d 0 (success_head user since mark iou) (proxies_text [] ++ success_tail) (success_room d user since mark iou [] h k l (omega arith) tt))

  pub user_room : Room d 0 (success_user user)
  user_room = piece_1 _ _ _ _ head_room

  module _ (e : List ℕ) (to : ℕ) (w : Wrote d 0 e to (success_user user)) where
    pub attributes_room : Room e to (attribute_parts since mark)
    attributes_room = piece_2 _ _ _ _ _ head_room e to w

    module _ (f : List ℕ) (n : ℕ) (v : Wrote e to f n (attribute_parts since mark)) where
      pub last_room : Room f n (iou_line iou)
      last_room = piece_3 _ _ _ _ _ _ head_room e to w f n v

      pub head_wrote : (g : List ℕ) (m : ℕ) → Wrote f n g m (iou_line iou) → Wrote d 0 g m (success_head user since mark iou)
      head_wrote g m u = wrote_as (sym (head_text user since mark iou)) (search (last_piece, more_pieces))
