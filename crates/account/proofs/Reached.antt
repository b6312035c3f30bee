-- Where the history stands: the table tied to the notebook and to what is known, and the books in balance. Assumes nothing.
use mathlib.Core.Path.{◌≡◌, refl, ◌∙◌}
use mathlib.Core.Bool.{false}
use mathlib.Core.List.{List, [], ◌∷◌}
use Prim.Native.Nat.{ℕ, max}
use lib.Dec.{eqb}
use Rattle.protocol.specs.Bytes.{if, is_empty, same}
use Rattle.protocol.specs.Table.{Table}
use Rattle.protocol.proofs.Laws.{same_refl}
use Rattle.account.specs.History.{Text}
use Rattle.account.specs.Notebook.{Notebook}
use Rattle.account.specs.Truth.{Opener, Origin, Granting, Known, of}
use Rattle.account.proofs.Sim.{Slot, Told}
use Rattle.account.proofs.Look.{Tied}
use Rattle.account.proofs.Balance.{Books}

pub record Reached (K : Known) (L : Notebook) (t : Table) : Type 0 where
  pub tied : Tied K L t
  pub clock_eq : L.clock ≡ K.clock
  pub books : Books K.called K.issued K.accepted K.successful L.book

-- What is known, edit by edit

abbrev knows : ℕ → (Text → ℕ) → (Text → Opener) → (Text → Origin) → (Text → Granting) → (ℕ → Granting) → List Text → List Text → List Text → Known
knows clock login opener origin grant called issued accepted successful =
    record { clock = clock; login = login; opener = opener; origin = origin; grant = grant; called = called; issued = issued; accepted = accepted; successful = successful }

abbrev pub passed : ℕ → Known → Known
passed time K = knows (max K.clock time) K.login K.opener K.origin K.grant K.called K.issued K.accepted K.successful

abbrev pub lasts : Text → ℕ → Known → Known
lasts lt until K = knows K.clock (of lt until K.login) K.opener K.origin K.grant K.called K.issued K.accepted K.successful

abbrev pub opens : Text → Text → Known → Known
opens cookie user K = knows K.clock K.login (of cookie (record { user = user; since = K.clock }) K.opener) K.origin K.grant K.called K.issued K.accepted K.successful

abbrev pub issues : Text → Origin → Known → Known
issues ticket o K = knows K.clock K.login K.opener (of ticket o K.origin) K.grant K.called (ticket ∷ K.issued) K.accepted K.successful

abbrev pub accepts : Text → Known → Known
accepts ticket K = knows K.clock K.login K.opener K.origin K.grant K.called K.issued (ticket ∷ K.accepted) K.successful

abbrev pub wins : Text → Known → Known
wins ticket K = knows K.clock K.login K.opener K.origin K.grant K.called K.issued K.accepted (ticket ∷ K.successful)

abbrev pub makes : Text → ℕ → Granting → Known → Known
makes pgt serial g K = knows K.clock K.login K.opener K.origin (of pgt g K.grant) (λ (n : ℕ). if (eqb serial n) g (K.called n)) K.issued K.accepted K.successful

-- of a text, and of the others
pub of_there : {A : Type 0} (x : Text) (a : A) (f : Text → A) → is_empty x ≡ false → of x a f x ≡ a
of_there x a f e = rw (e, same_refl x)

of_other : {A : Type 0} (x : Text) (a : A) (f : Text → A) (y : Text) → same x y ≡ false → of x a f y ≡ f y
of_other [] a f y e = refl
of_other (b ∷ x) a f y e = rw e

-- what is told of a slot is told still
module _ {K : Known} {a : Slot} (d : Told K a) where
  pub told_lasts : (lt : Text) (until : ℕ) → (a.r.kind ≡ 1 → same lt a.e.name ≡ false) → Told (lasts lt until K) a
  told_lasts lt until ne = record { login = λ k. of_other lt until K.login a.e.name (ne k) ∙ d.login k; opener = d.opener; ticket = d.ticket; grant = d.grant; called = d.called }

  pub told_opens : (cookie user : Text) → same cookie a.e.name ≡ false → Told (opens cookie user K) a
  told_opens cookie user ne = record { login = d.login; opener = λ k. of_other cookie _ K.opener a.e.name ne ∙ d.opener k; ticket = d.ticket; grant = d.grant; called = d.called }

  pub told_issues : (ticket : Text) (o : Origin) → same ticket a.e.name ≡ false → Told (issues ticket o K) a
  told_issues ticket o ne = record { login = d.login; opener = d.opener; ticket = λ k. of_other ticket o K.origin a.e.name ne ∙ d.ticket k; grant = d.grant; called = d.called }

  pub told_makes : (pgt : Text) (serial : ℕ) (g : Granting) → same pgt a.e.name ≡ false → (a.r.kind ≡ 5 → eqb serial a.e.ref ≡ false) → Told (makes pgt serial g K) a
  told_makes pgt serial g ne nr =
      record { login = d.login; opener = d.opener; ticket = d.ticket; grant = λ k. rw (of_other pgt g K.grant a.e.name ne) (d.grant k); called = λ k. rw (nr k) (d.called k) }

  -- where nothing is said of it
  pub told_still : (clock : ℕ) (issued accepted successful : List Text) → Told (knows clock K.login K.opener K.origin K.grant K.called issued accepted successful) a
  told_still clock issued accepted successful = record { login = d.login; opener = d.opener; ticket = d.ticket; grant = d.grant; called = d.called }
