use Rattle.std.proofs.Common.{◌≡◌, ◌++◌, ◌-◌}
use Rattle.std.specs.List.{flat_map, range_with_len}
use Rattle.flow_core_laws.specs.Window.{Window}
use Rattle.osview_graph.specs.Drawing.{run_of, shown_of}
use Rattle.osview_graph.specs.Links.{link_at}
use Rattle.stream_match_layouts.specs.Layout.{span_of}
use Rattle.osview_graph.proofs.links.add_writers.Given as goal

-- the arrows so far were added
abbrev pub invariant-loop-position : goal.invariant-loop-position
invariant-loop-position l = (r : Window) → l.reader ≡ span_of r
    → l.told ≡ l.initial.told ++ flat_map (link_at (run_of l.drawn) (shown_of l.shown) r) (range_with_len l.reader.first (l.position - l.reader.first))
