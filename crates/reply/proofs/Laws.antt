-- A reply's bytes written from the start, and its result with their number, say the reply. Assumes nothing.
use mathlib.Core.Path.{◌≡◌, refl, ◌∙◌}
use mathlib.Core.Bool.{true, false}
use mathlib.Core.List.{List, [], ◌∷◌}
use Prim.Native.Nat.{ℕ, ◌≤◌}
use native.Mathlib.Omega.{arith}
use lib.ListN.{length}
use Rattle.protocol.specs.Bytes.{is_empty}
use Rattle.protocol.specs.Answers.{Reply, RedirectTo, Success, CallbackTo, reply_text, reply_answer, callback_text}
use Rattle.protocol.specs.Calls.{outcome_with}
use Rattle.protocol.specs.Written.{Wrote}
use Rattle.protocol.specs.Held.{Said}
use Rattle.protocol.specs.declared.Answer.TheVariants as answer
use Rattle.protocol.specs.declared.Outcome.{Outcome}
use Rattle.reply.specs.Told.{told_of}

some_ticket : (ticket : List ℕ) → 1 ≤ length ticket → is_empty ticket ≡ false
some_ticket [] h = absurd (omega arith)
some_ticket (b ∷ t) h = refl

module _ {n : ℕ} {r : Outcome} {o o' : List ℕ} where
  pub said : (p : Reply) → Wrote o 0 o' n (reply_text p) → r ≡ told_of (reply_answer p) n → Said p r o o'
  unfolding outcome_with told_of
  said p w q =
      let m : n ≡ length (reply_text p) = omega (arith, w.moves) in
      record { outcome = q ∙ rw m; out = w.holds }

  pub said_redirect : {service ticket : List ℕ} → 1 ≤ length ticket → Wrote o 0 o' n (reply_text (RedirectTo service ticket)) → r ≡ told_of (answer.Redirect true) n → Said (RedirectTo service ticket) r o o'
  unfolding reply_answer
  said_redirect {service} {ticket} h w q = said (RedirectTo service ticket) w (q ∙ rw (some_ticket ticket h))

  pub said_success : {user : List ℕ} {since mark : ℕ} {iou : List ℕ} {proxies : List (List ℕ)} → Wrote o 0 o' n (reply_text (Success user since mark iou proxies)) → r ≡ told_of (answer.Xml true) n → Said (Success user since mark iou proxies) r o o'
  unfolding reply_answer
  said_success {user} {since} {mark} {iou} {proxies} w q = said (Success user since mark iou proxies) w q

  pub said_callback : {url pgt iou : List ℕ} {serial : ℕ} → Wrote o 0 o' n (callback_text url pgt iou) → r ≡ told_of (answer.Callback serial) n → Said (CallbackTo url pgt iou serial) r o o'
  unfolding reply_answer reply_text
  said_callback {url} {pgt} {iou} {serial} w q = said (CallbackTo url pgt iou serial) w q
