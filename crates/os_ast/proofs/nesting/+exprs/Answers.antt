use Rattle.std.proofs.Common.{arith, rules, ap}
use Rattle.os_ast.specs.declared.expr.Expr.{the_lemmas}
use Rattle.os_ast.specs.Depth.{expr_depth}
use Rattle.os_ast.proofs.Rows.{expr_tree-call, expr_tree-chain}
use Rattle.os_ast.proofs.nesting.+exprs.Goals as goal

pub depth_of_expr-depth_of_args-requires : goal.depth_of_expr-depth_of_args-requires
depth_of_expr-depth_of_args-requires t c =
    let call = ap expr_depth (expr_tree-call c.in-Call.call) in
    (search (rules, the_lemmas), omega (arith, call, rw c.in-Call.is at c.requires))

pub depth_of_expr-depth_of_links-requires : goal.depth_of_expr-depth_of_links-requires
depth_of_expr-depth_of_links-requires t c =
    let chain = ap expr_depth (expr_tree-chain c.in-Chain.field-0 c.in-Chain.first c.in-Chain.links) in
    (search (rules, the_lemmas), omega (arith, chain, rw c.in-Chain.is at c.requires))

pub depth_of_expr-returns-in-Chain : goal.depth_of_expr-returns-in-Chain
depth_of_expr-returns-in-Chain t c =
    let chain = ap expr_depth (expr_tree-chain c.in-Chain.field-0 c.in-Chain.first c.in-Chain.links) in
    rw c.in-Chain.is (search (rules, chain))
