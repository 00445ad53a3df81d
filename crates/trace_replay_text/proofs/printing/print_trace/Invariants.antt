use Rattle.std.proofs.Common.{◌≡◌, ◌++◌, drop}
use Rattle.trace_replay_text.specs.Trace.{lines_from, trace}
use Rattle.trace_replay_text.proofs.printing.print_trace.Given as goal

-- with the lines to come, the text is the trace
abbrev pub invariant-loop-worker : goal.invariant-loop-worker
invariant-loop-worker l = l.text.items ++ lines_from l.worker (drop l.worker l.lists) ≡ trace l.lists
