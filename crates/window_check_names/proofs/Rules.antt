-- What the proofs of expressions cite.
use Rattle.os_ast.proofs.Rows.{expr_tree-call, expr_tree-chain}
use Rattle.window_check_laws.proofs.Trees.{count_args-length, args_tree-drop, links_tree-drop}
use Rattle.window_check_names.proofs.Noted.{noted-append}

pub ruleset exprs = (expr_tree-call, expr_tree-chain, noted-append, count_args-length, args_tree-drop, links_tree-drop)
