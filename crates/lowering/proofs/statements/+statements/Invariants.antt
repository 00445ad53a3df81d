use Rattle.std.proofs.Common.{◌≡◌, ◌+◌, drop, length}
use Rattle.lowering_draft.specs.Emission.Statements.{block_code, tail_code}
use Rattle.os_ast.specs.Views.{stmts_tree}
use Rattle.lowering_relation.specs.Names.{told_at}
use Rattle.lowering.proofs.statements.+statements.Given as goal

abbrev pub invariant-emit_block-loop-stmt : goal.invariant-emit_block-loop-stmt
invariant-emit_block-loop-stmt l = record {
  behind : l.behind + l.stmt-index ≡ length l.stmts;
  so_far : tail_code (told_at l.told.names.now) (stmts_tree (drop l.stmt-index l.stmts)) l.exits l.next l.draft
      ≡ block_code (told_at l.told.names.now) (stmts_tree l.stmts) l.exits l.next l.fn.draft;
}
