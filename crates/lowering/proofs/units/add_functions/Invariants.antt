use Rattle.std.proofs.Common.{◌≡◌, drop, map}
use Rattle.lowering_draft.specs.Emission.Units.{with_functions}
use Rattle.os_ast.specs.Views.{item_tree}
use Rattle.lowering_relation.specs.Names.{told_at}
use Rattle.lowering.proofs.units.add_functions.Given as goal

abbrev pub invariant-loop-item : goal.invariant-loop-item
invariant-loop-item l =
    with_functions (told_at l.told.names.now) (map item_tree (drop l.item-index l.items)) l.made
    ≡ with_functions (told_at l.told.names.now) (map item_tree l.items) l.fn.made
