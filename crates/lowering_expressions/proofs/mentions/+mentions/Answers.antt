use Rattle.std.proofs.Common.{◌≡◌, ◌∙◌, ap, rules}
use Rattle.os_ast.proofs.Rows.{expr_tree-chain}
use Rattle.os_ast.specs.Trees as tree
use Rattle.os_ast.specs.Views.{expr_tree, links_tree}
use Rattle.window_check_laws.proofs.Ascending.{is_in-append}
use Rattle.lowering_expressions.proofs.mentions.+mentions.Goals as goal

pub mentions-returns-else-mentions : goal.mentions-returns-else-mentions
mentions-returns-else-mentions t c =
    let first = c.in-Chain.first.value in
    let links = c.in-Chain.links in
    let chain : expr_tree c.args.expr.now ≡ tree.Chain c.in-Chain.field-0 (expr_tree first) (links_tree links) =
    ap expr_tree c.in-Chain.is ∙ expr_tree-chain c.in-Chain.field-0 c.in-Chain.first links in
    rw chain (search (rules, is_in-append))
