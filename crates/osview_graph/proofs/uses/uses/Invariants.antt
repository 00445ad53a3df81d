use Rattle.std.proofs.Common.{◌≡◌, ◌++◌, drop}
use Rattle.std.specs.List.{flat_map}
use Rattle.osview_graph.specs.Arrows.{uses_of}
use Rattle.osview_graph.proofs.uses.uses.Given as goal

-- those so far were added, and those of the rest come behind them
abbrev pub invariant-loop-activation : goal.invariant-loop-activation
invariant-loop-activation l = l.all.items ++ flat_map uses_of (drop l.activation-index l.activations) ≡ flat_map uses_of l.activations
