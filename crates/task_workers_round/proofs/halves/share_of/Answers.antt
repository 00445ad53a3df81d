use Rattle.std.proofs.Common.{arith, ◌*◌, ◌≤◌, subst}
use Rattle.std.proofs.Math.Nat.{div-le_of_le-mul, mul_comm}
use Rattle.std.proofs.lemmas.Nat.{mul-le}
use Rattle.task_workers_round.proofs.halves.share_of.Goals as goal

pub overflow_mul-result : goal.overflow_mul-result
overflow_mul-result c = omega (arith, mul-le c.args.frames c.args.some 65536 64 c.requires.frames (omega (arith, c.requires.workers.0, c.requires.workers.2)))

pub nonzero_div-result : goal.nonzero_div-result
nonzero_div-result c = omega (arith, c.requires.workers.1)

pub returns : goal.returns
returns c = div-le_of_le-mul c.args.workers
    (subst (λ n. c.args.frames * c.args.some ≤ n) (mul_comm c.args.frames c.args.workers)
    (mul-le c.args.frames c.args.some c.args.frames c.args.workers (omega arith) c.requires.workers.0))
