use Rattle.std.proofs.Common.{◌≡◌}
use Rattle.osview_graph.specs.Drawing.{run_of}
use Rattle.osview_graph.specs.DrawnRun.{total}
use Rattle.osview_graph.specs.Streams.{stream_at, window_at, written_by}
use Rattle.osview_graph.specs.Tables.{table}
use Rattle.osview_graph.proofs.streams.count_written.Given as goal

-- what the windows so far wrote was counted
abbrev pub invariant-loop-span : goal.invariant-loop-span
invariant-loop-span l =
    l.counts.items ≡ table (total (stream_at (run_of l.drawn)) (λ k. written_by (run_of l.drawn) (window_at (run_of l.drawn) k)) l.span-index) (l.drawn.streams)
