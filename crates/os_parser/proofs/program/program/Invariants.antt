use Rattle.std.proofs.Common.{◌≡◌, ◌+◌, ◌-◌, ◌≤◌, suc, length}
use Rattle.os_ast.specs.Views.{item_tree}
use Rattle.os_parser_grammar.specs.Statements.{inner, many, is_more, item, program}
use Rattle.os_parser_grammar.proofs.Lists.{with_list}
use Rattle.os_parser.proofs.program.program.Given as goal

abbrev pub invariant-loop-alloc : goal.invariant-loop-alloc
invariant-loop-alloc l = record {
  read : program (inner l.depth) l.fn.cursor
      ≡ with_list item_tree l.items (many (suc (length l.fn.cursor) - length l.items) is_more (item (inner l.depth)) l.cursor);
  within : length l.items + length l.cursor ≤ length l.fn.cursor;
}

abbrev pub decreases-loop-alloc : goal.decreases-loop-alloc
decreases-loop-alloc l = length l.cursor
