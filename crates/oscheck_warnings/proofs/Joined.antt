-- What parts name, one part after another.
use Rattle.std.proofs.Common.{◌≡◌, ℕ, ◌+◌, ◌<◌, List, [], ◌∷◌, ◌++◌, append_assoc, length, get_or, drop, add-one, map, ap}
use Rattle.std.proofs.Math.Seq.{drop-cons}
use Rattle.os_ast.proofs.Rows.{expr_tree-call, expr_tree-chain, stmt_tree-block}
use Rattle.os_ast.specs.Trees as tree
use Rattle.os_ast.specs.Views.{expr_tree, args_tree, links_tree, stmt_tree, stmts_tree}
use Rattle.os_ast.specs.declared.expr.Expr.{Expr}
use Rattle.os_ast.specs.declared.expr.Link.{Link}
use Rattle.os_ast.specs.declared.stmt.Stmt.{Stmt}

pub args_tree-drop : (es : List Expr) (i : ℕ) (e : Expr) → i < length es → e ≡ get_or es i e →
    args_tree (drop i es) ≡ tree.arg (expr_tree e) (args_tree (drop (i + 1) es))
args_tree-drop es i e h is = rw (drop-cons es i e h, ← is, add-one)

pub links_tree-drop : (ls : List Link) (i : ℕ) (l : Link) → i < length ls → l ≡ get_or ls i l →
    links_tree (drop i ls) ≡ tree.link l.op l.mark (expr_tree l.right) (links_tree (drop (i + 1) ls))
links_tree-drop ls i l h is = rw (drop-cons ls i l h, ← is, add-one)

pub stmts_tree-drop : (ss : List Stmt) (i : ℕ) (s : Stmt) → i < length ss → s ≡ get_or ss i s →
    stmts_tree (drop i ss) ≡ tree.stmt (stmt_tree s) (stmts_tree (drop (i + 1) ss))
stmts_tree-drop ss i s h is = rw (drop-cons ss i s h, ← is, add-one)

pub map-drop : {A B : Type 0} (view : A → B) (xs : List A) (i : ℕ) (x : A) → i < length xs → x ≡ get_or xs i x →
    map view (drop i xs) ≡ view x ∷ map view (drop (i + 1) xs)
map-drop view xs i x h is = rw (drop-cons xs i x h, ← is, add-one)

pub ruleset joining = (append_assoc, expr_tree-call, expr_tree-chain, stmt_tree-block, args_tree-drop, links_tree-drop, stmts_tree-drop, map-drop)
