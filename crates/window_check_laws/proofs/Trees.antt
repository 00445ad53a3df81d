-- The rest of a list, one item at a time, and what a tree of the code holds as a row.
use Rattle.std.proofs.Common.{◌≡◌, ℕ, ◌+◌, ◌<◌, List, [], ◌∷◌, ◌++◌, ◌||◌, length, suc, get_or, drop, add-one, map, refl, ap}
use Rattle.std.proofs.Math.Seq.{drop-cons}
use Rattle.os_ast.proofs.Rows.{stmt_tree-block}
use Rattle.os_ast.specs.Trees as tree
use Rattle.os_ast.specs.Names.{Scope}
use Rattle.os_ast.specs.ClauseMembers.{members, clause_members}
use Rattle.os_ast.specs.Notes.Declarators.{after_declarator, after_declarators, declarator_notes, declarators_notes}
use Rattle.os_ast.specs.Notes.Expressions.{count_args}
use Rattle.os_ast.specs.Notes.Statements.{after_stmt, after_stmts, stmt_notes, stmts_notes}
use Rattle.os_ast.specs.Views.{expr_tree, args_tree, links_tree, declarator_tree, clause_kind_tree, clause_tree, stmt_tree, stmts_tree, item_tree}
use Rattle.os_ast.specs.Violations.{is_main, has_main}
use Rattle.os_ast.specs.declared.expr.Expr.{Expr}
use Rattle.os_ast.specs.declared.expr.Link.{Link}
use Rattle.os_ast.specs.declared.pragma.Clause.{Clause}
use Rattle.os_ast.specs.declared.program.Item.{Item}
use Rattle.os_ast.specs.declared.stmt.Declarator.{Declarator}
use Rattle.os_ast.specs.declared.stmt.Stmt.{Stmt}

pub count_args-length : (es : List Expr) → count_args (args_tree es) ≡ length es
count_args-length [] = refl
count_args-length (e ∷ es) = ap suc (count_args-length es)

pub args_tree-drop : (es : List Expr) (i : ℕ) (e : Expr) → i < length es → e ≡ get_or es i e →
    args_tree (drop i es) ≡ tree.arg (expr_tree e) (args_tree (drop (i + 1) es))
args_tree-drop es i e h is = rw (drop-cons es i e h, ← is, add-one)

pub links_tree-drop : (ls : List Link) (i : ℕ) (l : Link) → i < length ls → l ≡ get_or ls i l →
    links_tree (drop i ls) ≡ tree.link l.op l.mark (expr_tree l.right) (links_tree (drop (i + 1) ls))
links_tree-drop ls i l h is = rw (drop-cons ls i l h, ← is, add-one)

pub stmts_tree-drop : (ss : List Stmt) (i : ℕ) (s : Stmt) → i < length ss → s ≡ get_or ss i s →
    stmts_tree (drop i ss) ≡ tree.stmt (stmt_tree s) (stmts_tree (drop (i + 1) ss))
stmts_tree-drop ss i s h is = rw (drop-cons ss i s h, ← is, add-one)

pub map-drop : {A B : Type 0} (view : A → B) (xs : List A) (i : ℕ) (x : A) → i < length xs → x ≡ get_or xs i x →
    map view (drop i xs) ≡ view x ∷ map view (drop (i + 1) xs)
map-drop view xs i x h is = rw (drop-cons xs i x h, ← is, add-one)

pub members-drop : (cs : List Clause) (i : ℕ) (c : Clause) → i < length cs → c ≡ get_or cs i c →
    members (map clause_tree (drop i cs)) ≡ clause_members (clause_kind_tree c.kind) ++ members (map clause_tree (drop (i + 1) cs))
members-drop cs i c h is = rw (drop-cons cs i c h, ← is, add-one)

pub stmts_notes-drop : (s : Scope) (ss : List Stmt) (i : ℕ) (a : Stmt) → i < length ss → a ≡ get_or ss i a →
    stmts_notes s (stmts_tree (drop i ss)) ≡ stmt_notes s (stmt_tree a) ++ stmts_notes (after_stmt s (stmt_tree a)) (stmts_tree (drop (i + 1) ss))
stmts_notes-drop s ss i a h is = rw (drop-cons ss i a h, ← is, add-one)

pub after_stmts-drop : (s : Scope) (ss : List Stmt) (i : ℕ) (a : Stmt) → i < length ss → a ≡ get_or ss i a →
    after_stmts s (stmts_tree (drop i ss)) ≡ after_stmts (after_stmt s (stmt_tree a)) (stmts_tree (drop (i + 1) ss))
after_stmts-drop s ss i a h is = rw (drop-cons ss i a h, ← is, add-one)

pub declarators_notes-drop : (s : Scope) (ds : List Declarator) (i : ℕ) (d : Declarator) → i < length ds → d ≡ get_or ds i d →
    declarators_notes s (map declarator_tree (drop i ds))
    ≡ declarator_notes s (declarator_tree d) ++ declarators_notes (after_declarator s (declarator_tree d)) (map declarator_tree (drop (i + 1) ds))
declarators_notes-drop s ds i d h is = ap (declarators_notes s) (map-drop declarator_tree ds i d h is)

pub after_declarators-drop : (s : Scope) (ds : List Declarator) (i : ℕ) (d : Declarator) → i < length ds → d ≡ get_or ds i d →
    after_declarators s (map declarator_tree (drop i ds)) ≡ after_declarators (after_declarator s (declarator_tree d)) (map declarator_tree (drop (i + 1) ds))
after_declarators-drop s ds i d h is = rw (drop-cons ds i d h, ← is, add-one)

pub has_main-drop : (is : List Item) (i : ℕ) (x : Item) → i < length is → x ≡ get_or is i x →
    has_main (map item_tree (drop i is)) ≡ is_main (item_tree x) || has_main (map item_tree (drop (i + 1) is))
has_main-drop is i x h e = rw (drop-cons is i x h, ← e, add-one)

pub ruleset stmts = (stmt_tree-block, stmts_notes-drop, after_stmts-drop, members-drop)
