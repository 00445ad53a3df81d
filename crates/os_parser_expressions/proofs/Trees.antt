-- The trees of what was read.
use Rattle.os_ast.proofs.Rows.{expr_tree-call, expr_tree-chain, stmt_tree-block}

pub ruleset trees = (expr_tree-call, expr_tree-chain, stmt_tree-block)
