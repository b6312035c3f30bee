-- Laws of visits: what is told of one fits the output, and the call leaves the table as it was. Assumes nothing.
use mathlib.Core.Path.{◌≡◌, refl}
use mathlib.Core.Bool.{Bool, true, false}
use mathlib.Core.List.{List, ◌++◌}
use Prim.Native.Nat.{ℕ, ◌≤◌}
use native.Mathlib.Omega.{arith}
use lib.Dec.{eqb}
use lib.ListN.{length, drop, length-append, length-take}
use Rattle.protocol.specs.Bytes.{ascii, part}
use Rattle.protocol.specs.Records.{Rec, name_of}
use Rattle.protocol.specs.Table.{last_time}
use Rattle.protocol.specs.Visits.{logout_request, visit_text, visit_refusal, visit_of}
use Rattle.protocol.proofs.Sizes.{length-hex, name_most}
use Rattle.protocol.proofs.Dates.{date_most}

request_most : (id : List ℕ) (time : ℕ) (ticket : List ℕ) → length id ≤ 16 → time ≤ last_time → length ticket ≤ 64 → length (logout_request id time ticket) ≤ 500
unfolding logout_request
request_most id time ticket h g l = simp length-append (omega (arith, length-hex id, date_most time g))

pub visit_fits : (r : Rec) (time : ℕ) (random : List ℕ) → length r.text ≤ 200 → time ≤ last_time → length (visit_text r time random) ≤ 8192
unfolding visit_text
visit_fits r time random h g =
    let q : List ℕ = part 16 16 random in
    rw (length-append r.text (ascii "\n" ++ (logout_request q time (name_of r) ++ ascii "\n")), length-append (logout_request q time (name_of r)) (ascii "\n"))
    (omega (arith, request_most q time (name_of r) (part_most random) g (name_most r)))
  where
    part_most : (s : List ℕ) → length (part 16 16 s) ≤ 16
    part_most s = omega (arith, length-take 16 (drop 16 s))

pub visit_keeps : (table cookie : List ℕ) (number time : ℕ) (random out : List ℕ) → (visit_of table cookie number time random out).table ≡ table
unfolding visit_of
visit_keeps table cookie number time random out = go (eqb (visit_refusal table cookie number time (length random) (length out)) 0) refl
  where
    go : (z : Bool) → eqb (visit_refusal table cookie number time (length random) (length out)) 0 ≡ z → (visit_of table cookie number time random out).table ≡ table
    go true e = rw e
    go false e = rw e
