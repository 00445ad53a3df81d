use Rattle.std.proofs.Common.{◌≡◌, ◌∙◌, append_assoc, ap, sym, rules}
use Rattle.std.proofs.lemmas.Result.{IfOk-equal}
use Rattle.os_ast.proofs.Rows.{expr_tree-chain}
use Rattle.os_ast.specs.Trees as tree
use Rattle.os_ast.specs.Views.{expr_tree, links_tree}
use Rattle.oscheck_warnings.specs.Accesses.{expr_accesses, links_accesses}
use Rattle.oscheck_warnings.proofs.expressions.+exprs.Goals as goal

pub expr-returns-in_ok-expr-in-Chain : goal.expr-returns-in_ok-expr-in-Chain
expr-returns-in_ok-expr-in-Chain t c =
    let s = c.args.site in
    let first = c.in-Chain.first.value in
    let links = c.in-Chain.links in
    let chain : expr_tree c.args.expr.now ≡ tree.Chain c.in-Chain.field-0 (expr_tree first) (links_tree links) =
    ap expr_tree c.in-Chain.is ∙ expr_tree-chain c.in-Chain.field-0 c.in-Chain.first links in
    let both = sym (append_assoc c.args.list.now (expr_accesses s (expr_tree first)) (links_accesses s (links_tree links))) in
    rw chain (search (rules, IfOk-equal, both))
