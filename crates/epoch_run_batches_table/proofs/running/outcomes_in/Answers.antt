use Rattle.std.proofs.Common.{sym, subst}
use Rattle.epoch_run_batches.specs.Outcome.{AreAllMeant}
use Rattle.epoch_run_batches_table.proofs.Gathered.{more_outcomes}
use Rattle.epoch_run_batches_table.proofs.running.outcomes_in.Goals as goal

pub loop-slot-preserved-in-Continue-branch-2 : goal.loop-slot-preserved-in-Continue-branch-2
loop-slot-preserved-in-Continue-branch-2 g c =
    subst (AreAllMeant g.J.Meaning.run) (sym c.in_ok-push.ensures.ok)
    (more_outcomes g.J.Meaning.run c.loop-slot.outcomes c.outcome_in.result c.loop-slot.invariant c.outcome_in.ensures)
