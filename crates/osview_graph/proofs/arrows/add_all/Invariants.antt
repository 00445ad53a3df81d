use Rattle.std.proofs.Common.{◌≡◌, ◌++◌, None, cond, filter, take}
use Rattle.std.specs.List.{flat_map, list_any, range_with_len}
use Rattle.osview_graph.specs.Arrows.{arrow_at, is_alike}
use Rattle.osview_graph.specs.Tally.{left, sizes_of}
use Rattle.osview_graph.specs.declared.uses.Use.{Use}
use Rattle.osview_graph.proofs.arrows.add_all.Given as goal

-- the arrows so far were added, and of those that are like one of them nothing is left
abbrev pub invariant-loop-one : goal.invariant-loop-one
invariant-loop-one l = record {
  told : l.told ≡ l.initial.told ++ flat_map (arrow_at l.all) (range_with_len 0 l.one-index);
  rest : (u : Use) → left l.tally u ≡ cond (list_any (is_alike u) (take l.one-index l.all)) None (sizes_of (filter (is_alike u) l.all));
}
