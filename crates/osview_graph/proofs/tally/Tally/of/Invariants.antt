use Rattle.std.proofs.Common.{◌≡◌, filter, take}
use Rattle.osview_graph.specs.Arrows.{is_alike}
use Rattle.osview_graph.specs.Tally.{left, sizes_of}
use Rattle.osview_graph.specs.declared.uses.Use.{Use}
use Rattle.osview_graph.proofs.tally.Tally.of.Given as goal

-- the sizes of those so far are kept
abbrev pub invariant-loop-one : goal.invariant-loop-one
invariant-loop-one l = (u : Use) → left l.tally u ≡ sizes_of (filter (is_alike u) (take l.one-index l.all))
