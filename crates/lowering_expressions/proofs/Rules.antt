-- What proofs of the walk use: the parts of a tree one by one, and what a tree of the code holds as a row.
use Rattle.os_ast.proofs.Rows.{expr_tree-call, expr_tree-chain}
use Rattle.window_check_laws.proofs.Ascending.{is_in-append}
use Rattle.window_check_laws.proofs.Trees.{args_tree-drop, links_tree-drop, map-drop}

pub ruleset expressions = (expr_tree-call, expr_tree-chain, args_tree-drop, links_tree-drop)

pub ruleset mentions = (expr_tree-call, expr_tree-chain, args_tree-drop, links_tree-drop, is_in-append)

pub ruleset declarators = (map-drop)
