use Rattle.std.proofs.Common.{◌≡◌, ◌∙◌, ap, rules}
use Rattle.std.proofs.lemmas.Result.{IfOk-equal}
use Rattle.os_ast.proofs.Rows.{expr_tree-chain}
use Rattle.os_ast.specs.Trees as tree
use Rattle.os_ast.specs.Views.{expr_tree, links_tree}
use Rattle.os_ast.specs.declared.expr.Level.TheVariants as level
use Rattle.lowering_expressions.proofs.conditions.+conditions.Goals as goal

pub emit_condition-returns-in_ok-emit_condition-in-And :
    goal.emit_condition-returns-in_ok-emit_condition-in-And
emit_condition-returns-in_ok-emit_condition-in-And t c =
    let first = c.in-Chain.first.value in
    let links = c.in-Chain.links in
    let chain : expr_tree c.args.condition.now ≡ tree.Chain level.And (expr_tree first) (links_tree links) =
    ap expr_tree c.in-Chain.is ∙ expr_tree-chain c.in-Chain.level c.in-Chain.first links ∙ ap (λ l. tree.Chain l (expr_tree first) (links_tree links)) c.in-And.is in
    rw chain (search (rules, IfOk-equal))
