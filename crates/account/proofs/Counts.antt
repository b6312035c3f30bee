-- What a step must keep: the table where the history stands, what is owed, the counts of its result, and frankness. Assumes nothing.
use mathlib.Core.Path.{◌≡◌, refl}
use mathlib.Core.Bool.{true, false, ◌&&◌, ◌||◌}
use Prim.Native.Nat.{ℕ, ◌+◌}
use native.Mathlib.Omega.{arith}
use borrow.Author.Tests.{eqb-false}
use lib.Dec.{eqb}
use lib.ListN.{length}
use Rattle.protocol.specs.Bytes.{ascii, is_empty, same, among, decimal}
use Rattle.protocol.specs.Table.{Table, rec_at, slot_where}
use Rattle.protocol.specs.Answers.{ErrorPage, reply_text, reply_answer, page_head}
use Rattle.protocol.specs.Steps.{Step, step, is_named, slot_named}
use Rattle.protocol.proofs.Laws.{and-false}
use Rattle.protocol.proofs.Added.{slot_chosen}
use Rattle.protocol.proofs.Searches.{nonzero}
use Rattle.account.specs.History.{Text, AnswerCall}
use Rattle.account.specs.Reading.{Said, carries, tells, calls_back, quiet}
use Rattle.account.specs.Notebook.{Notebook, pass, note}
use Rattle.account.specs.Truth.{Known, learn}
use Rattle.account.specs.Account.{one, validators, looks_good, Owed}
use Rattle.account.proofs.Base.{clash, or_no}
use Rattle.account.proofs.Reached.{Reached, passed}

-- a step on a path that says s, after all that was known and noted
pub record Ok (K : Known) (L : Notebook) (path : Text) (s : Said) (x : Step) : Type 0 where
  pub reached : Reached (learn s K) (note s L) x.table
  pub owed : Owed s K (pass s.time L)
  pub issues : one (carries (reply_answer x.reply) || (same path (ascii "/cas/proxy") && tells (reply_answer x.reply))) + length K.issued ≡ length (learn s K).issued
  pub accepts : one (among path validators && (tells (reply_answer x.reply) || calls_back (reply_answer x.reply))) + length K.accepted ≡ length (learn s K).accepted
  pub wins : one (among path validators && tells (reply_answer x.reply)) + length K.successful ≡ length (learn s K).successful
  pub frank : among path validators ≡ true → (tells (reply_answer x.reply) || calls_back (reply_answer x.reply)) ≡ false → looks_good (reply_text x.reply) ≡ false

-- what is said by another name
pub ok_by : {K : Known} {L : Notebook} {path : Text} {s s' : Said} {x : Step} → s ≡ s' → Ok K L path s' x → Ok K L path s x
ok_by e o = rw e o

-- where no session is opened, nothing accepted and nothing settled
pub owes_nothing : {K : Known} {b : Notebook} (s : Said) → is_empty s.opened ≡ true → s.showing.accepted ≡ false → s.settled ≡ false → Owed s K b
owes_nothing s o a t = record { opens = λ z. absurd (clash o z); accepts = λ z. absurd (clash z a); welcomes = λ z. absurd (clash z a); settles = λ z. absurd (clash z t) }

-- on a path that is neither proxy nor a validator, only redirects count
pub elsewhere : {K : Known} {L : Notebook} {path : Text} {s : Said} {x : Step} → same path (ascii "/cas/proxy") ≡ false → among path validators ≡ false → Reached (learn s K) (note s L) x.table → Owed s K (pass s.time L)
    → s.showing.accepted ≡ false → s.settled ≡ false → one (carries (reply_answer x.reply)) + length K.issued ≡ length (learn s K).issued → Ok K L path s x
elsewhere {x = x} np nv R O na nt i =
    record {
      reached = R;
      owed = O;
      issues = rw (np, or_no (carries (reply_answer x.reply))) i;
      accepts = rw (nv, na) (omega arith);
      wins = rw (nv, na, nt) (omega arith);
      frank = λ v. absurd (clash v nv);
    }

-- an answer that tells of no ticket and no success, on any path
pub silent : {K : Known} {L : Notebook} {path : Text} {s : Said} {x : Step} → Reached (learn s K) (note s L) x.table → carries (reply_answer x.reply) ≡ false → tells (reply_answer x.reply) ≡ false → calls_back (reply_answer x.reply) ≡ false
    → is_empty s.opened ≡ true → is_empty s.issued ≡ true → s.showing.accepted ≡ false → s.settled ≡ false → (among path validators ≡ true → looks_good (reply_text x.reply) ≡ false) → Ok K L path s x
silent {path = path} {s = s} R nc nt nb no_session ni na ns good =
    record {
      reached = R;
      owed = owes_nothing s no_session na ns;
      issues = rw (nc, nt, and-false (same path (ascii "/cas/proxy")), ni) (omega arith);
      accepts = rw (nt, nb, and-false (among path validators), na) (omega arith);
      wins = rw (nt, and-false (among path validators), na, ns) (omega arith);
      frank = λ v n. good v;
    }

-- so an error page, and the time alone
pub page_ok : {K : Known} {L : Notebook} {path : Text} (a : AnswerCall) (t : Table) (status : ℕ) → Reached (passed a.time K) (pass a.time L) t → looks_good (page_head status (decimal status)) ≡ false
    → Ok K L path (quiet a false) (step t (ErrorPage status))
unfolding note reply_answer reply_text
page_ok a t status R good = silent R refl refl refl refl refl refl refl (λ v. good)

-- what a search by kind and text found
pub slot_named_lem : (kind : ℕ) (text : Text) (t : Table) → eqb (slot_named kind text t) 0 ≡ false → is_named t.clock kind text (rec_at (slot_named kind text t) t.slots) ≡ true
unfolding slot_named
slot_named_lem kind text t e = (slot_chosen (is_named t.clock kind text) t.slots (nonzero _ (eqb-false (slot_where (is_named t.clock kind text) t.slots) 0 e))).passes
