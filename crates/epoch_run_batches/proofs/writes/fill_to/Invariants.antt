use Rattle.std.proofs.Common.{◌≡◌, ◌-◌, ◌++◌, None, length, replicate}
use Rattle.epoch_run_batches.proofs.writes.fill_to.Given as goal

abbrev pub invariant-loop : goal.invariant-loop
invariant-loop l = l.elements ≡ l.initial.elements ++ replicate (l.counter - length l.initial.elements) None
