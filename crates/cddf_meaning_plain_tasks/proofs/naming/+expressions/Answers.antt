use Rattle.std.proofs.Common.{rules, ap}
use Rattle.cddf_meaning_plain_tasks.specs.Has.{has_expr}
use Rattle.os_ast.proofs.Rows.{expr_tree-chain}
use Rattle.cddf_meaning_plain_tasks.proofs.naming.+expressions.Goals as goal

pub in_expr-returns-else-in_expr : goal.in_expr-returns-else-in_expr
in_expr-returns-else-in_expr t c =
    let chain = ap (has_expr c.args.id) (expr_tree-chain c.in-Chain.field-0 c.in-Chain.first c.in-Chain.links) in
    rw c.in-Chain.is (search (rules, chain))
