use Rattle.std.proofs.Common.{ℕ, ◌<◌, ◌≤◌}
use Rattle.flow_core_laws.specs.Plans.{frame_at}
use Rattle.task_workers_worker.proofs.log.most_outputs.Given as goal

abbrev pub invariant-loop-frame : goal.invariant-loop-frame
invariant-loop-frame l = (f : ℕ) → f < l.frame → (frame_at l.plan f).outputs ≤ l.most
