use Rattle.std.proofs.Common.{◌≡◌, ◌++◌, map}
use Rattle.std.specs.List.{range_with_len}
use Rattle.flow_core_laws.specs.Window.{claim_at}
use Rattle.osview_graph.specs.Arrows.{use_of}
use Rattle.osview_graph.proofs.uses.add_uses.Given as goal

-- the items so far were added
abbrev pub invariant-loop-item : goal.invariant-loop-item
invariant-loop-item l =
    l.all.items ≡ l.initial.all.items ++ map (λ item. use_of l.activation.site item (claim_at l.activation.claims item)) (range_with_len 0 l.item)
