use Rattle.std.proofs.Common.{◌≡◌, ◌++◌, ◌-◌}
use Rattle.std.specs.List.{flat_map, range_with_len}
use Rattle.osview_graph.specs.Drawing.{run_of, shown_of}
use Rattle.osview_graph.specs.Links.{links_of}
use Rattle.osview_graph.proofs.links.add_windows.Given as goal

-- the arrows so far were added
abbrev pub invariant-loop-number : goal.invariant-loop-number
invariant-loop-number l =
    l.told ≡ l.initial.told ++ flat_map (links_of (run_of l.drawn) (shown_of l.shown)) (range_with_len l.first (l.number - l.first))
