-- What reading a statement goes by: the readers below a depth, and the trees of what was read.
use Rattle.os_ast.proofs.Rows.{expr_tree-call, expr_tree-chain, stmt_tree-block}
use Rattle.os_parser_grammar.proofs.Depths.{readers_of-inner}

pub ruleset stmts = (readers_of-inner, expr_tree-call, expr_tree-chain, stmt_tree-block)
