use Rattle.std.proofs.Common.{◌-◌, ◌≡◌, ◌+◌, ◌≤◌, length, suc, ◌*◌}
use Rattle.os_ast.specs.Views.{expr_tree}
use Rattle.os_parser_grammar.specs.Expressions.{below, layer, operand, chains, some_args, links, more_args}
use Rattle.os_parser_grammar.proofs.Chaining.{with_links, with_args}
use Rattle.os_parser_grammar.specs.Reading.{got}
use Rattle.os_parser_expressions.proofs.expressions.+expressions.Given as goal

abbrev pub decreases-args : goal.decreases-args
decreases-args l = 64 * l.depth + 8

abbrev pub decreases-boxed : goal.decreases-boxed
decreases-boxed l = 64 * l.depth + 61

abbrev pub decreases-branches : goal.decreases-branches
decreases-branches l = 64 * l.depth + 59

abbrev pub decreases-chain : goal.decreases-chain
decreases-chain l = 64 * l.depth + 20 + 2 * (12 - l.lowest)

abbrev pub decreases-expr : goal.decreases-expr
decreases-expr l = 64 * l.depth + 60

abbrev pub decreases-index : goal.decreases-index
decreases-index l = 64 * l.depth + 7

abbrev pub decreases-linked : goal.decreases-linked
decreases-linked l = 64 * l.depth + 19 + 2 * (12 - l.precedence)

abbrev pub decreases-named : goal.decreases-named
decreases-named l = 64 * l.depth + 9

abbrev pub decreases-operand : goal.decreases-operand
decreases-operand l = 64 * l.depth + 10

abbrev pub decreases-paren : goal.decreases-paren
decreases-paren l = 64 * l.depth + 9

abbrev pub decreases-sign : goal.decreases-sign
decreases-sign l = 64 * l.depth + 9

abbrev pub decreases-some_args : goal.decreases-some_args
decreases-some_args l = 64 * l.depth + 61

abbrev pub decreases-target : goal.decreases-target
decreases-target l = 64 * l.depth + 8

abbrev pub invariant-chain-loop-precedence : goal.invariant-chain-loop-precedence
invariant-chain-loop-precedence l = record {
  from : l.lowest ≤ l.precedence;
  to : l.precedence ≤ 11;
  read : chains (11 - l.precedence) (operand (below l.depth)) l.fn.cursor ≡ got (expr_tree l.first) l.cursor;
  within : length l.cursor ≤ length l.fn.cursor;
}

-- proposed from the loop's first test
abbrev pub decreases-chain-loop-precedence : goal.decreases-chain-loop-precedence
decreases-chain-loop-precedence l = l.precedence - l.lowest

abbrev pub invariant-linked-loop-op : goal.invariant-linked-loop-op
invariant-linked-loop-op l = record {
  read : links (suc (length l.fn.cursor)) l.precedence (chains (10 - l.precedence) (operand (below l.depth))) l.fn.cursor
      ≡ with_links l.links (links (suc (length l.fn.cursor) - length l.links) l.precedence (chains (10 - l.precedence) (operand (below l.depth))) l.cursor);
  within : length l.links + length l.cursor ≤ length l.fn.cursor;
  same : expr_tree l.first ≡ expr_tree l.fn.first;
}

abbrev pub decreases-linked-loop-op : goal.decreases-linked-loop-op
decreases-linked-loop-op l = length l.cursor

abbrev pub invariant-some_args-loop-alloc : goal.invariant-some_args-loop-alloc
invariant-some_args-loop-alloc l = record {
  read : some_args (layer (below l.depth)) l.fn.cursor
      ≡ with_args l.args (more_args (length l.initial.cursor + 2 - length l.args) (layer (below l.depth)) l.cursor);
  some : 1 ≤ length l.args;
  within : length l.args + length l.cursor ≤ length l.initial.cursor + 1;
  shorter : length l.initial.cursor ≤ length l.fn.cursor;
}

abbrev pub decreases-some_args-loop-alloc : goal.decreases-some_args-loop-alloc
decreases-some_args-loop-alloc l = length l.cursor
