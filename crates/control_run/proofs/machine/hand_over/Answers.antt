use Rattle.std.proofs.Common.{arith}
use Rattle.control_run.proofs.InPlace.{given-part, given-all}
use Rattle.control_run.proofs.machine.hand_over.Goals as goal

pub returns-then-count-all-clause-gives : goal.returns-then-count-all-clause-gives
returns-then-count-all-clause-gives c = λ code input_len budget given.
    given-part code input_len budget _ _ _ _ _ _ given (let less = c.if-count-all.true in omega (arith, less)) c.hand_over-count.ensures.list

pub returns-clause-gives : goal.returns-clause-gives
returns-clause-gives c = λ code input_len budget given.
    given-all code input_len budget _ _ _ _ _ _ given (let many = c.if-count-all.false in omega (arith, many)) c.hand_over-count.ensures.few c.hand_over-count.ensures.list
