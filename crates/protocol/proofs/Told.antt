-- From what code has said and done to what the calls promise. Assumes nothing.
use mathlib.Core.Path.{◌≡◌, refl, sym, ap, ◌∙◌}
use mathlib.Core.List.{List}
use Prim.Native.Nat.{ℕ}
use Rattle.protocol.specs.Bytes.{spliced}
use Rattle.protocol.specs.Table.{Table, encode_table, decode_table}
use Rattle.protocol.specs.Answers.{Reply}
use Rattle.protocol.specs.Steps.{Step, step}
use Rattle.protocol.specs.Calls.{result_of, delivered}
use Rattle.protocol.specs.Held.{Fine, Holds, Said, Done, Did}
use Rattle.protocol.specs.declared.Outcome.{Outcome}
use Rattle.protocol.proofs.Held.{holds_self}

-- a reply over a table that the bytes hold is that step
pub said_done : {t : Table} {p : Reply} {r : Outcome} {b o o' : List ℕ} → Holds b t → Said p r o o' → Done (step t p) r b o o'
said_done h s = record { outcome = s.outcome; table = h; out = s.out; cookie = refl }

-- a step that only says something
pub only_said : {p : Reply} {r : Outcome} {b o o' : List ℕ} → Fine b → Said p r o o' → Done (step (decode_table b) p) r b o o'
only_said {b = b} f s = said_done (holds_self b f) s

-- steps that are equal are done alike
pub done_as : {s s' : Step} {r : Outcome} {b o o' : List ℕ} → s ≡ s' → Done s r b o o' → Done s' r b o o'
done_as {r = r} {b = b} {o = o} {o' = o'} e d = rw e at d

-- a step that writes no cookie leaves the cookie output as it was
pub done_did : {s : Step} {r : Outcome} {b o o' : List ℕ} (c : List ℕ) → Done s r b o o' → Did s r b o o' c c
unfolding spliced
done_did c d = record { outcome = d.outcome; table = d.table; out = d.out; cookie = rw d.cookie }

-- what was done is what the call delivers
pub did_delivered : {s : Step} {r : Outcome} {b o o' c c' : List ℕ} → Did s r b o o' c c' → result_of r b o' c' ≡ delivered s o c
unfolding delivered
did_delivered {s} {r} {b} {o} {o'} {c} {c'} d =
    let e : b ≡ encode_table s.table = d.table.fine.same ∙ ap encode_table d.table.is in
    rw (d.outcome, sym e, d.out, d.cookie)
