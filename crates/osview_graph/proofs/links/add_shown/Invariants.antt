use Rattle.std.proofs.Common.{◌≡◌, ◌++◌, ◌-◌}
use Rattle.std.specs.List.{flat_map, range_with_len}
use Rattle.osview_graph.specs.Drawing.{run_of, shown_of}
use Rattle.osview_graph.specs.Links.{activation_text}
use Rattle.osview_graph.proofs.links.add_shown.Given as goal

-- the activations so far were added
abbrev pub invariant-loop-activation : goal.invariant-loop-activation
invariant-loop-activation l =
    l.told ≡ l.initial.told ++ flat_map (activation_text (run_of l.drawn) (shown_of l.shown)) (range_with_len l.shown.first (l.activation - l.shown.first))
