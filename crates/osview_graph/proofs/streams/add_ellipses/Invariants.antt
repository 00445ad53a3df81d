use Rattle.std.proofs.Common.{◌≡◌, ◌++◌}
use Rattle.std.specs.List.{flat_map, range_with_len}
use Rattle.osview_graph.specs.Drawing.{run_of}
use Rattle.osview_graph.specs.Streams.{ellipse_if_used}
use Rattle.osview_graph.proofs.streams.add_ellipses.Given as goal

-- the ellipses so far were added
abbrev pub invariant-loop-stream : goal.invariant-loop-stream
invariant-loop-stream l = l.told ≡ l.initial.told ++ flat_map (ellipse_if_used (run_of l.drawn)) (range_with_len 0 l.stream)
