use Rattle.std.proofs.Common.{◌-◌, ◌≡◌, ◌+◌, ◌≤◌, length, suc, ◌*◌}
use Rattle.os_parser_grammar.specs.Statements.{inner, inner_item, stmts, block}
use Rattle.os_parser_grammar.proofs.Blocks.{with_stmts}
use Rattle.os_parser.proofs.stmt.+statements.Given as goal

abbrev pub decreases-block : goal.decreases-block
decreases-block l = 16 * l.depth + 7

abbrev pub decreases-block_item : goal.decreases-block_item
decreases-block_item l = 16 * l.depth + 6

abbrev pub decreases-boxed : goal.decreases-boxed
decreases-boxed l = 16 * l.depth + 9

abbrev pub decreases-for_stmt : goal.decreases-for_stmt
decreases-for_stmt l = 16 * l.depth + 7

abbrev pub decreases-if_stmt : goal.decreases-if_stmt
decreases-if_stmt l = 16 * l.depth + 7

abbrev pub decreases-pragma : goal.decreases-pragma
decreases-pragma l = 16 * l.depth + 7

abbrev pub decreases-stmt : goal.decreases-stmt
decreases-stmt l = 16 * l.depth + 8

abbrev pub decreases-task : goal.decreases-task
decreases-task l = 16 * l.depth + 6

abbrev pub decreases-while_stmt : goal.decreases-while_stmt
decreases-while_stmt l = 16 * l.depth + 7

abbrev pub invariant-block-loop-alloc : goal.invariant-block-loop-alloc
invariant-block-loop-alloc l = record {
  read : block (inner l.depth) l.fn.cursor
      ≡ with_stmts l.stmts (stmts (suc (length l.fn.cursor) - length l.stmts) (inner_item (inner l.depth)) l.cursor);
  within : length l.stmts + length l.cursor ≤ length l.fn.cursor;
}

abbrev pub decreases-block-loop-alloc : goal.decreases-block-loop-alloc
decreases-block-loop-alloc l = length l.cursor
