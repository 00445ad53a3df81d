use Rattle.std.proofs.Common.{arith, ◌∙◌}
use Rattle.epoch_run.proofs.Going.{gave_up}
use Rattle.epoch_run.proofs.standing.Standing.give_up_ended.Goals as goal

pub returns-then-len-eq0-clause-run : goal.returns-then-len-eq0-clause-run
returns-then-len-eq0-clause-run c = λ code input budgets given is.
    gave_up code input budgets c.args.self.now given is (omega (arith, c.len.ensures, c.if-len-eq0.true)) c.reuse.new.self c.replace-ended.new.dest
    (c.replace-ended.ensures.after ∙ c.new.ensures) c.len-then-len-eq0.result c.len-then-len-eq0.ensures
