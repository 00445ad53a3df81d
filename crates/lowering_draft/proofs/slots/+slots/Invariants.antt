use Rattle.std.proofs.Common.{◌≡◌, ◌+◌, ◌-◌, ◌^◌, ◌≤◌, drop}
use Rattle.lowering_draft.specs.Emission.Units.{capped}
use Rattle.os_ast.specs.Views.{stmts_tree}
use Rattle.lowering_relation.specs.Names.{told_at}
use Rattle.lowering_relation.specs.Programs.{size_by}
use Rattle.window_check_laws.specs.Sums.{stmts_slots}
use Rattle.lowering_draft.proofs.slots.+slots.Given as goal

abbrev pub invariant-stmts_slots-loop-stmt : goal.invariant-stmts_slots-loop-stmt
invariant-stmts_slots-loop-stmt l = record {
  small : l.sum ≤ 2 ^ 32 - 1;
  so_far : capped (l.sum + stmts_slots l.owner (size_by (told_at l.told.names.now)) (stmts_tree (drop l.stmt-index l.stmts)))
      ≡ capped (stmts_slots l.owner (size_by (told_at l.told.names.now)) (stmts_tree l.stmts));
}
