-- What proofs of the walks use: the parts of a tree one by one, and what a tree of the code holds as a row.
use Rattle.lowering_draft.proofs.Items.{site_items_visited, with_items-append, with_items_private}
use Rattle.lowering_draft.proofs.Sums.{capped_sum}
use Rattle.os_ast.proofs.Rows.{stmt_tree-block}
use Rattle.window_check_laws.proofs.Trees.{map-drop, members-drop, stmts_tree-drop}

pub ruleset visits = (map-drop, with_items-append, with_items_private, members-drop)

pub ruleset sites = (site_items_visited)

pub ruleset slots = (stmt_tree-block, stmts_tree-drop, map-drop, capped_sum)
