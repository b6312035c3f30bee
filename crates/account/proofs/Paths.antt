-- Paths and renew, as the statement says them, are what the server reads. Assumes nothing.
use mathlib.Core.Path.{◌≡◌, refl, sym}
use mathlib.Core.Bool.{true, false, ◌||◌}
use mathlib.Core.List.{List, [], ◌∷◌}
use Prim.Native.Nat.{◌+◌}
use native.Mathlib.Omega.{arith}
use borrow.Author.Tests.{lt-ltb}
use lib.Dec.{ltb}
use Rattle.protocol.specs.Bytes.{if, ascii, same, among, up_to, cuts}
use Rattle.protocol.specs.Request.{path_named, not_empty, pieces, count_named, occurrences, present}
use Rattle.protocol.specs.Steps.{is_plain, takes_proxies}
use Rattle.protocol.specs.declared.Path.{Path}
use Rattle.protocol.specs.declared.Path.TheVariants as path
use Rattle.protocol.specs.declared.Validator.{Validator}
use Rattle.protocol.specs.declared.Validator.TheVariants as validator
use Rattle.protocol.proofs.Laws.{fork, same-eq}
use Rattle.account.specs.History.{Text}
use Rattle.account.specs.Reading.{renew_among, asks_renew}
use Rattle.account.specs.Account.{validators}
use Rattle.account.proofs.Base.{Case, is, isnt, case, clash}

-- a validator's path
abbrev pub name_for : Validator → Text
name_for validator.Plain = ascii "/cas/validate"
name_for validator.Service = ascii "/cas/serviceValidate"
name_for validator.Proxy = ascii "/cas/proxyValidate"

-- the text of each path that is known
pub data Named (s : Text) : Path → Type 0 where
  login : s ≡ ascii "/cas/login" → Named s path.Login
  logout : s ≡ ascii "/cas/logout" → Named s path.Logout
  validates : (v : Validator) → s ≡ name_for v → Named s (path.Validate v)
  proxy : s ≡ ascii "/cas/proxy" → Named s path.Proxy
  unknown : Named s path.Unknown

pub named : (s : Text) → Named s (path_named s)
unfolding path_named
named s =
    fork (Named s) (same s (ascii "/cas/login")) (λ e. login (same-eq s (ascii "/cas/login") e))
    (λ z. fork (Named s) (same s (ascii "/cas/logout")) (λ e. logout (same-eq s (ascii "/cas/logout") e))
    (λ z. fork (Named s) (same s (ascii "/cas/validate")) (λ e. validates validator.Plain (same-eq s (ascii "/cas/validate") e))
    (λ z. fork (Named s) (same s (ascii "/cas/serviceValidate")) (λ e. validates validator.Service (same-eq s (ascii "/cas/serviceValidate") e))
    (λ z. fork (Named s) (same s (ascii "/cas/proxyValidate")) (λ e. validates validator.Proxy (same-eq s (ascii "/cas/proxyValidate") e))
    (λ z. fork (Named s) (same s (ascii "/cas/proxy")) (λ e. proxy (same-eq s (ascii "/cas/proxy") e))
    (λ z. unknown))))))

-- a validator is one of the three, and not proxy; only validate is plain, and only proxyValidate takes proxy tickets
pub among-validators : (v : Validator) → among (name_for v) validators ≡ true
unfolding among same
among-validators validator.Plain = refl
among-validators validator.Service = refl
among-validators validator.Proxy = refl

pub not_proxy : (v : Validator) → same (name_for v) (ascii "/cas/proxy") ≡ false
unfolding same
not_proxy validator.Plain = refl
not_proxy validator.Service = refl
not_proxy validator.Proxy = refl

pub yes_only_at_validate : (v : Validator) → same (name_for v) (ascii "/cas/validate") ≡ is_plain v
unfolding same
yes_only_at_validate validator.Plain = refl
yes_only_at_validate validator.Service = refl
yes_only_at_validate validator.Proxy = refl

pub proxies_only_there : (v : Validator) → takes_proxies v ≡ true → name_for v ≡ ascii "/cas/proxyValidate"
proxies_only_there validator.Plain e = absurd (clash e refl)
proxies_only_there validator.Service e = absurd (clash e refl)
proxies_only_there validator.Proxy e = refl

-- renew stands in a query where one of its pieces, empty or not, has that name
renew_counted : (ps : List Text) → renew_among ps ≡ ltb 0 (count_named (ascii "renew") (not_empty ps))
unfolding renew_among not_empty count_named up_to same
renew_counted [] = refl
renew_counted ([] ∷ ps) = renew_counted ps
renew_counted ((b ∷ p) ∷ ps) = go (case (same (up_to 61 (b ∷ p)) (ascii "renew"))) (renew_counted ps)
  where
    go : Case (same (up_to 61 (b ∷ p)) (ascii "renew")) → renew_among ps ≡ ltb 0 (count_named (ascii "renew") (not_empty ps)) → (same (up_to 61 (b ∷ p)) (ascii "renew") || renew_among ps) ≡ ltb 0 (if (same (up_to 61 (b ∷ p)) (ascii "renew")) 1 0 + count_named (ascii "renew") (not_empty ps))
    go (is z) ih = rw z (sym (lt-ltb 0 (1 + count_named (ascii "renew") (not_empty ps)) (omega arith)))
    go (isnt z) ih = let n : 0 + count_named (ascii "renew") (not_empty ps) ≡ count_named (ascii "renew") (not_empty ps) = omega arith in rw (z, n) ih

pub renew_counts : (q : Text) → asks_renew q ≡ present "renew" q
unfolding present occurrences pieces
renew_counts q = renew_counted (cuts 38 q)
