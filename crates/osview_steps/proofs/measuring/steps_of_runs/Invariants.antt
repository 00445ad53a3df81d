use Rattle.std.proofs.Common.{◌≡◌, ◌++◌, drop}
use Rattle.osview_steps.specs.Steps.{steps_of_runs}
use Rattle.osview_steps.proofs.measuring.steps_of_runs.Given as goal

-- those so far were taken, and those of the rest come behind them
abbrev pub invariant-loop-run : goal.invariant-loop-run
invariant-loop-run l = l.steps ++ steps_of_runs (drop l.run-index l.runs) ≡ steps_of_runs l.runs
