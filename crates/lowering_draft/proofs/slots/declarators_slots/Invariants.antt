use Rattle.std.proofs.Common.{◌≡◌, ◌+◌, ◌-◌, ◌^◌, ◌≤◌, drop, map}
use Rattle.lowering_draft.specs.Emission.Units.{capped}
use Rattle.os_ast.specs.Views.{declarator_tree}
use Rattle.lowering_relation.specs.Names.{told_at}
use Rattle.lowering_relation.specs.Programs.{size_by}
use Rattle.window_check_laws.specs.Sums.{declarators_slots}
use Rattle.lowering_draft.proofs.slots.declarators_slots.Given as goal

abbrev pub invariant-loop-declarator : goal.invariant-loop-declarator
invariant-loop-declarator l = record {
  small : l.sum ≤ 2 ^ 32 - 1;
  so_far : capped (l.sum + declarators_slots l.owner (size_by (told_at l.told.names.now)) (map declarator_tree (drop l.declarator-index l.declarators)))
      ≡ capped (declarators_slots l.owner (size_by (told_at l.told.names.now)) (map declarator_tree l.declarators));
}
