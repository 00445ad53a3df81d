use Rattle.std.proofs.Common.{◌≡◌}
use Rattle.osview_graph.specs.Drawing.{run_of}
use Rattle.osview_graph.specs.DrawnRun.{total}
use Rattle.osview_graph.specs.Streams.{stream_at}
use Rattle.osview_graph.specs.Tables.{table}
use Rattle.osview_graph.proofs.streams.count_windows.Given as goal

-- the windows so far were counted
abbrev pub invariant-loop-span : goal.invariant-loop-span
invariant-loop-span l = l.counts.items ≡ table (total (stream_at (run_of l.drawn)) (λ k. 1) l.span-index) (l.drawn.streams)
