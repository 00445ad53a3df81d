use Rattle.std.proofs.Common.{◌≡◌, ◌+◌, ◌-◌, ◌≤◌, length}
use Rattle.os_parser_grammar.specs.Statements.{list_of, commas}
use Rattle.os_parser_grammar.proofs.Lists.{with_list}
use Rattle.os_parser_parts.proofs.comma_list.comma_list.Given as goal

abbrev pub invariant-loop-alloc : goal.invariant-loop-alloc
invariant-loop-alloc g l = record {
  read : list_of (g.P.Production.reads l.part) l.fn.cursor
      ≡ with_list g.P.Production.view l.items (commas (length l.initial.cursor + 2 - length l.items) (g.P.Production.reads l.part) l.cursor);
  within : length l.items + length l.cursor ≤ length l.initial.cursor + 1;
  some : 1 ≤ length l.items;
  shorter : length l.initial.cursor ≤ length l.fn.cursor;
}

abbrev pub decreases-loop-alloc : goal.decreases-loop-alloc
decreases-loop-alloc g l = length l.cursor
