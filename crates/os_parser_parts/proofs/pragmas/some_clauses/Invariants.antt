use Rattle.std.proofs.Common.{◌≡◌, ◌+◌, ◌-◌, ◌≤◌, length}
use Rattle.os_ast.specs.Views.{clause_tree}
use Rattle.os_parser_grammar.specs.Expressions.{below}
use Rattle.os_parser_grammar.specs.Statements.{many, line_goes_on, clause, some_clauses}
use Rattle.os_parser_grammar.proofs.Lists.{with_list}
use Rattle.os_parser_parts.proofs.pragmas.some_clauses.Given as goal

abbrev pub invariant-loop-alloc : goal.invariant-loop-alloc
invariant-loop-alloc l = record {
  read : some_clauses (below l.depth) l.fn.cursor
      ≡ with_list clause_tree l.clauses (many (length l.initial.cursor + 2 - length l.clauses) line_goes_on (clause (below l.depth)) l.cursor);
  within : length l.clauses + length l.cursor ≤ length l.initial.cursor + 1;
  some : 1 ≤ length l.clauses;
  shorter : length l.initial.cursor ≤ length l.fn.cursor;
}

abbrev pub decreases-loop-alloc : goal.decreases-loop-alloc
decreases-loop-alloc l = length l.cursor
