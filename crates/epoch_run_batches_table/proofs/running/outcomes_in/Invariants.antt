use Rattle.epoch_run_batches.specs.Outcome.{AreAllMeant}
use Rattle.epoch_run_batches_table.proofs.running.outcomes_in.Given as goal

abbrev pub invariant-loop-slot : goal.invariant-loop-slot
invariant-loop-slot g l = AreAllMeant g.J.Meaning.run l.outcomes
