use Rattle.std.proofs.Common.{◌≤◌, length, arith}
use Rattle.std.proofs.lemmas.Bool.Decides.{nat_tests}
use Rattle.os_object.proofs.Spelling.{left_over}
use Rattle.os_object.proofs.bytes.numbers_of.Goals as goal

pub returns-then-not-is_empty-clause-err : goal.returns-then-not-is_empty-clause-err
returns-then-not-is_empty-clause-err c =
    let some : 1 ≤ length c.loop-rest.rest.now = grind (arith, nat_tests) in
    left_over c.args.bytes.now c.loop-rest.rest.now c.loop-rest.numbers.items c.loop-rest.invariant some (omega arith)
