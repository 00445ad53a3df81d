-- The depth of the rest of a list, one item at a time.
use Rattle.std.proofs.Common.{◌≡◌, ℕ, ◌+◌, ◌<◌, List, length, get_or, drop, max, add-one, map}
use Rattle.std.proofs.Math.Seq.{drop-cons}
use Rattle.os_ast.specs.Depth.{expr_depth, args_depth, links_depth, stmt_depth, stmts_depth, deepest}
use Rattle.os_ast.specs.Views.{expr_tree, args_tree, links_tree, stmt_tree, stmts_tree}
use Rattle.os_ast.specs.declared.expr.Expr.{Expr}
use Rattle.os_ast.specs.declared.expr.Link.{Link}
use Rattle.os_ast.specs.declared.stmt.Stmt.{Stmt}

pub args_depth-drop : (es : List Expr) (i : ℕ) (e : Expr) → i < length es → e ≡ get_or es i e →
    args_depth (args_tree (drop i es)) ≡ max (expr_depth (expr_tree e)) (args_depth (args_tree (drop (i + 1) es)))
args_depth-drop es i e h is = rw (drop-cons es i e h, ← is, add-one)

pub links_depth-drop : (ls : List Link) (i : ℕ) (l : Link) → i < length ls → l ≡ get_or ls i l →
    links_depth (links_tree (drop i ls)) ≡ max (expr_depth (expr_tree l.right)) (links_depth (links_tree (drop (i + 1) ls)))
links_depth-drop ls i l h is = rw (drop-cons ls i l h, ← is, add-one)

pub stmts_depth-drop : (ss : List Stmt) (i : ℕ) (s : Stmt) → i < length ss → s ≡ get_or ss i s →
    stmts_depth (stmts_tree (drop i ss)) ≡ max (stmt_depth (stmt_tree s)) (stmts_depth (stmts_tree (drop (i + 1) ss)))
stmts_depth-drop ss i s h is = rw (drop-cons ss i s h, ← is, add-one)

-- the same of any other list of parts
pub deepest-drop : {A B : Type 0} (depth : B → ℕ) (view : A → B) (xs : List A) (i : ℕ) (x : A) → i < length xs → x ≡ get_or xs i x →
    deepest depth (map view (drop i xs)) ≡ max (depth (view x)) (deepest depth (map view (drop (i + 1) xs)))
deepest-drop depth view xs i x h is = rw (drop-cons xs i x h, ← is, add-one)

pub ruleset drops = (args_depth-drop, links_depth-drop, stmts_depth-drop, deepest-drop)
