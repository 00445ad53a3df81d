-- What proofs of the walk use: the parts of a tree one by one, and what a tree of the code holds as a row.
use Rattle.lowering_draft.proofs.TaskParts.{block_tasks-listed}
use Rattle.os_ast.proofs.Rows.{stmt_tree-block}
use Rattle.window_check_laws.proofs.Trees.{map-drop, stmts_tree-drop}

pub ruleset statements = (stmt_tree-block, stmts_tree-drop)

pub ruleset tasks = (stmt_tree-block, stmts_tree-drop, map-drop, block_tasks-listed)

pub ruleset units = (map-drop)
