-- What a tree of the code holds as a row or behind a box, read as a list or an option.
use Rattle.std.proofs.Common.{◌≡◌, List, refl, ap, ◌∙◌}
use Rattle.os_ast.specs.Trees as tree
use Rattle.os_ast.specs.Views.{expr_tree, args_row, args_tree, links_row, links_tree, stmt_tree, stmts_row, stmts_tree}
use Rattle.os_ast.specs.declared.expr.Call as call
use Rattle.os_ast.specs.declared.expr.Expr as expr
use Rattle.os_ast.specs.declared.expr.Expr.TheBlock as block
use Rattle.os_ast.specs.declared.expr.Expr.TheVariants as variant
use Rattle.os_ast.specs.declared.expr.Level as level
use Rattle.os_ast.specs.declared.expr.Link as link
use Rattle.os_ast.specs.declared.stmt.Stmt as stmt
use Rattle.os_ast.specs.declared.stmt.Stmt.TheBlock as stmt_block
use Rattle.os_ast.specs.declared.stmt.Stmt.TheVariants as stmt_variant
use Rattle.std.specs.declared.alloc.Global.{Global}
use Rattle.std.specs.declared.boxed.Box.{Box}

args_row-items : {n : _} (row : expr.Row_of-Expr n) → args_row row ≡ args_tree (expr.items-the_row-Expr n row)
args_row-items expr.end_of-Expr = refl
args_row-items (expr.more_of-Expr e rest) = ap (tree.arg (expr_tree e)) (args_row-items rest)

links_row-items : {n : _} (row : expr.Row_of-Link n) → links_row row ≡ links_tree (expr.items-the_row-Link n row)
links_row-items expr.end_of-Link = refl
links_row-items (expr.more_of-Link op m e rest) = ap (tree.link op m (expr_tree e)) (links_row-items rest)

stmts_row-items : {n : _} (row : stmt.Row_of-Stmt n) → stmts_row row ≡ stmts_tree (stmt.items-the_row-Stmt n row)
stmts_row-items stmt.end_of-Stmt = refl
stmts_row-items (stmt.more_of-Stmt s rest) = ap (tree.stmt (stmt_tree s)) (stmts_row-items rest)

-- a call and its arguments
pub expr_tree-call : (c : call.Call) → expr_tree (variant.Call c) ≡ tree.ExprTree.Call c.name (args_tree c.args)
expr_tree-call c =
    ap (tree.ExprTree.Call c.name)
    (args_row-items (block.hidden-the_row-Expr-0 c.args) ∙ ap args_tree (expr.items_hidden-the_row-Expr-0 c.args))

-- a chain and its links
pub expr_tree-chain : (l : level.Level) (b : Box expr.Expr Global) (links : List link.Link) →
    expr_tree (variant.Chain l b links) ≡ tree.Chain l (expr_tree b.value) (links_tree links)
expr_tree-chain l b links =
    ap (tree.Chain l (expr_tree b.value))
    (links_row-items (block.hidden-the_row-Link-1 links) ∙ ap links_tree (expr.items_hidden-the_row-Link-1 links))

-- a block and its statements
pub stmt_tree-block : (stmts : List stmt.Stmt) → stmt_tree (stmt_variant.Block stmts) ≡ tree.Block (stmts_tree stmts)
stmt_tree-block stmts =
    ap tree.Block
    (stmts_row-items (stmt_block.hidden-the_row-Stmt-0 stmts) ∙ ap stmts_tree (stmt.items_hidden-the_row-Stmt-0 stmts))

pub ruleset rows = (expr_tree-call, expr_tree-chain, stmt_tree-block)
