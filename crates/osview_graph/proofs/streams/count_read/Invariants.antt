use Rattle.std.proofs.Common.{◌≡◌}
use Rattle.osview_graph.specs.Drawing.{run_of}
use Rattle.osview_graph.specs.DrawnRun.{total}
use Rattle.osview_graph.specs.Streams.{stream_at}
use Rattle.osview_graph.specs.Tables.{table}
use Rattle.osview_graph.proofs.Reading.{Reached, newly_at}
use Rattle.osview_graph.proofs.streams.count_read.Given as goal

-- what the windows so far read was counted, and how far they read is known
abbrev pub invariant-loop-span : goal.invariant-loop-span
invariant-loop-span l = record {
  counted : l.counts.items ≡ table (total (stream_at (run_of l.drawn)) (newly_at (run_of l.drawn)) l.span-index) (l.drawn.streams);
  so_far : Reached (run_of l.drawn) (l.drawn.streams) l.reached.items l.span-index;
}
