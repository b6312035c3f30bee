-- What is known from all that was said, and from it alone, besides the notebook: where a ticket comes from, its service, its user and the time of
-- sign-on, its true chain, its credentials; and which tickets were issued, were accepted and got a success answer.
use Rattle.std.specs.Prelude.{Bool, true, false, ◌&&◌, List, [], ◌∷◌, ℕ, ◌+◌, max, eqb, ltb}
use Rattle.protocol.specs.Bytes.{if, is_empty, same}
use Rattle.protocol.specs.Tickets.{a_login, lifetime}
use Rattle.account.specs.History.{Text}
use Rattle.account.specs.Reading.{Said}

-- who opened the session of a cookie, and when: the username of the sign-on that wrote it, and the clock in that call
pub record Opener : Type 0 where
  pub user : Text
  pub since : ℕ

-- a ticket: it was issued, to this service, under a session of this user, opened at this time, with this chain, by a grant, by a call with
-- accepted credentials of that user
pub record Origin : Type 0 where
  pub issued : Bool
  pub service : Text
  pub user : Text
  pub since : ℕ
  pub chain : List Text
  pub proxied : Bool
  pub credentials : Bool

-- a grant, or the callback of a serial: the ticket accepted in the call that made it, the IOU shown, pgtUrl, and where that ticket comes from
pub record Granting : Type 0 where
  pub ticket : Text
  pub iou : Text
  pub url : Text
  pub from : Origin

-- all that is known: the clock, which is the latest of the format's time and those of answered calls; until when a login ticket is live; of each
-- text what it was, if anything; and the tickets that were issued, were accepted, and got a success answer, each as often as it did
pub record Known : Type 0 where
  pub clock : ℕ
  pub login : Text → ℕ
  pub opener : Text → Opener
  pub origin : Text → Origin
  pub grant : Text → Granting
  pub called : ℕ → Granting
  pub issued : List Text
  pub accepted : List Text
  pub successful : List Text

abbrev pub never_issued : Origin
never_issued = record { issued = false; service = []; user = []; since = 0; chain = []; proxied = false; credentials = false }

abbrev pub never_made : Granting
never_made = record { ticket = []; iou = []; url = []; from = never_issued }

-- a text that is there, and what is known of it now
abbrev pub of : {A : Type 0} → Text → A → (Text → A) → Text → A
of x a before = if (is_empty x) before (λ (y : Text). if (same x y) a (before y))

-- issued by login: the session's user and sign-on time, no chain; with credentials where they were given, with a live login ticket, by that user
abbrev pub login_origin : Text → Opener → Bool → Origin
login_origin service opener credentials =
    record { issued = true; service = service; user = opener.user; since = opener.since; chain = []; proxied = false; credentials = credentials }

-- issued by a grant: its user and sign-on time, no credentials; pgtUrl of the call that made the grant, then the chain of the ticket
-- accepted in that call
abbrev pub grant_origin : Text → Granting → Origin
grant_origin target g =
    record { issued = true; service = target; user = g.from.user; since = g.from.since; chain = g.url ∷ g.from.chain; proxied = true; credentials = false }

-- whether the login ticket that a sign-on shows was live just then
abbrev pub live_in : Said → Known → Bool
live_in s k = ltb (max k.clock s.time) (k.login s.by.lt)

-- one call more
abbrev pub learn : Said → Known → Known
learn s k =
    let now : ℕ = max k.clock s.time in
    let opener : Text → Opener = of s.opened (record { user = s.by.user; since = now }) k.opener in
    let o : Opener = opener s.session in
    let by_login : Origin = login_origin s.service o (s.by.given && live_in s k && same s.by.user o.user) in
    let made : Granting = record { ticket = s.showing.ticket; iou = s.showing.iou; url = s.showing.url; from = k.origin s.showing.ticket } in
    record {
      clock = now;
      login = of s.form (now + lifetime a_login) (of s.by.lt 0 k.login);
      opener = opener;
      origin = of s.issued (if (is_empty s.grant) by_login (grant_origin s.service (k.grant s.grant))) k.origin;
      grant = of s.showing.pgt made k.grant;
      called = if (is_empty s.showing.pgt) k.called (λ (n : ℕ). if (eqb s.serial n) made (k.called n));
      issued = if (is_empty s.issued) k.issued (s.issued ∷ k.issued);
      accepted = if s.showing.accepted (s.showing.ticket ∷ k.accepted) k.accepted;
      successful =
          if s.settled ((k.called s.serial).ticket ∷ k.successful) (if (s.showing.accepted && is_empty s.showing.pgt) (s.showing.ticket ∷ k.successful) k.successful);
    }

unfoldable pub known : ℕ → List Said → Known
known start [] =
    record { clock = start; login = λ (x : Text). 0; opener = λ (x : Text). record { user = []; since = 0 }; origin = λ (x : Text). never_issued; grant = λ (x : Text). never_made; called = λ (n : ℕ). never_made; issued = []; accepted = []; successful = [] }
known start (s ∷ older) = learn s (known start older)

-- how many of the texts pass a test
unfoldable pub count : (Text → Bool) → List Text → ℕ
count test [] = 0
count test (x ∷ xs) = if (test x) 1 0 + count test xs
