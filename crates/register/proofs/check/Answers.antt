-- The first block at fault, whose number is the one that is told. Assumes nothing.
use Rattle.std.proofs.Common.{◌≡◌, arith, rules}
use Rattle.protocol.specs.Panels.{fault, fault_of}
use Rattle.register.proofs.Laws.{check_fault}
use Rattle.register.proofs.check.Goals as goal

pub returns-in-Some : goal.returns-in-Some
returns-in-Some c =
    let told : fault 3 c.in-Some.block ≡ fault_of c.args.b.now = search (rules, check_fault) in
    grind arith
