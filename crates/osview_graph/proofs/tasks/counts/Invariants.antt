use Rattle.std.proofs.Common.{◌≡◌, cond, length}
use Rattle.osview_graph.specs.Drawing.{is_so, run_of}
use Rattle.osview_graph.specs.DrawnRun.{end_at, task_at, total}
use Rattle.osview_graph.specs.Tables.{table}
use Rattle.osview_graph.proofs.tasks.counts.Given as goal

-- the activations so far were counted
abbrev pub invariant-loop-activation : goal.invariant-loop-activation
invariant-loop-activation l =
    l.counts.items ≡ table (total (task_at (run_of l.drawn)) (λ a. cond (is_so l.ending (end_at (run_of l.drawn) a)) 1 0) l.activation) (length l.drawn.lines.now)
