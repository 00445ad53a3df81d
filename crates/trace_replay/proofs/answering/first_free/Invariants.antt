use Rattle.std.proofs.Common.{ℕ, ◌<◌}
use Rattle.trace_replay.specs.Standing.{MayRun}
use Rattle.trace_replay.proofs.answering.first_free.Given as goal

abbrev pub invariant-loop-frame : goal.invariant-loop-frame
invariant-loop-frame l = (f : ℕ) → f < l.frame → ¬ (MayRun l.board f)
