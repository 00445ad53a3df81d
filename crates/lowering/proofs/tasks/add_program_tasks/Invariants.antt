use Rattle.std.proofs.Common.{◌≡◌, drop, map}
use Rattle.os_ast.specs.Views.{item_tree}
use Rattle.lowering_relation.specs.Tasks.{program_tasks}
use Rattle.lowering.proofs.tasks.add_program_tasks.Given as goal

abbrev pub invariant-loop-item : goal.invariant-loop-item
invariant-loop-item l = record {
  same : l.made ≡ l.fn.made;
  rest : program_tasks (map item_tree (drop l.item-index l.items)) ≡ program_tasks (map item_tree l.items);
}
