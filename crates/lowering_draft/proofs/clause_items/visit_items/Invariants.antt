use Rattle.std.proofs.Common.{◌≡◌, drop, map}
use Rattle.lowering_draft.specs.Items.{with_items}
use Rattle.lowering_relation.specs.Names.{told_at}
use Rattle.os_ast.specs.ClauseMembers.{members}
use Rattle.os_ast.specs.Views.{clause_tree}
use Rattle.lowering_draft.proofs.clause_items.visit_items.Given as goal

abbrev pub invariant-loop-clause : goal.invariant-loop-clause
invariant-loop-clause g l =
    with_items (g.V.ItemVisitor.with_item (told_at l.told.names.now)) (members (map clause_tree (drop l.clause-index l.clauses))) l.made
    ≡ with_items (g.V.ItemVisitor.with_item (told_at l.told.names.now)) (members (map clause_tree l.clauses)) l.fn.made
