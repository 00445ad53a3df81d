-- The parts of a statement: that there is room for each, and that what they find is what the statement finds.
use Rattle.std.proofs.Common.{◌≡◌, ℕ, ◌+◌, ◌<◌, List, ◌++◌, length, get_or, drop, Option, Some, None, Box, Global, refl, ap, sym, subst, ◌∙◌, arith}
use Rattle.std.proofs.lemmas.List.{append-nil}
use Rattle.os_ast.proofs.Rows.{stmt_tree-block}
use Rattle.os_ast.specs.Names.{Scope, in_loop}
use Rattle.os_ast.specs.Notes.Expressions.{expr_notes}
use Rattle.os_ast.specs.Notes.Kinds.{Note}
use Rattle.os_ast.specs.Notes.Statements.{after_stmt, after_stmts, stmt_notes, stmts_notes}
use Rattle.os_ast.specs.Trees as tree
use Rattle.os_ast.specs.Views.{expr_tree, stmt_tree, stmts_tree}
use Rattle.os_ast.specs.declared.expr.Expr.{Expr}
use Rattle.os_ast.specs.declared.stmt.Stmt.{Stmt}
use Rattle.os_ast.specs.declared.stmt.Stmt.TheVariants as variant
use Rattle.window_check_names.specs.Findings.{noted}
use Rattle.window_check_laws.specs.Room.{HasRoom, stmt_weight, stmts_weight}
use Rattle.window_check.specs.Statements.{else_tree}
use Rattle.window_check_names.specs.declared.found.Found.{Found}
use Rattle.window_check_laws.proofs.HasRoom.{room_then, room_stmt}
use Rattle.window_check_names.proofs.Noted.{noted-append}
use Rattle.window_check_laws.proofs.Trees.{stmts_tree-drop}

-- what is found of two parts
pub found-two : (f g h : Found) (a b : List Note) → g ≡ noted f a → h ≡ noted g b → h ≡ noted f (a ++ b)
found-two f g h a b first second = second ∙ ap (λ (k : Found). noted k b) first ∙ sym (noted-append f a b)

-- a statement that has room is this one
pub room-same : (s : Scope) (a b : tree.StmtTree) → a ≡ b → HasRoom s (stmt_weight a) → HasRoom s (stmt_weight b)
room-same s a b same room = subst (λ (x : tree.StmtTree). HasRoom s (stmt_weight x)) same room

pub block-is : (a : Stmt) (list : List Stmt) → a ≡ variant.Block list → stmt_tree a ≡ tree.Block (stmts_tree list)
block-is a list is = ap stmt_tree is ∙ stmt_tree-block list

-- `if`, with an `else` or without
weight-if : (c : Expr) (a : Box Stmt Global) (other : Option (Box Stmt Global)) →
    stmt_weight (stmt_tree (variant.If c a other)) ≡ stmt_weight (stmt_tree a.value) + stmt_weight (else_tree other)
weight-if c a None = omega arith
weight-if c a (Some b) = refl

notes-if : (s : Scope) (c : Expr) (a : Box Stmt Global) (other : Option (Box Stmt Global)) →
    stmt_notes s (stmt_tree (variant.If c a other))
    ≡ expr_notes s (expr_tree c) ++ stmt_notes s (stmt_tree a.value) ++ stmt_notes (after_stmt s (stmt_tree a.value)) (else_tree other)
notes-if s c a None = sym (append-nil (expr_notes s (expr_tree c) ++ stmt_notes s (stmt_tree a.value)))
notes-if s c a (Some b) = refl

pub room-first : (s : Scope) (x : Stmt) (c : Expr) (a : Box Stmt Global) (other : Option (Box Stmt Global)) (d : Stmt) →
    x ≡ variant.If c a other → d ≡ a.value → HasRoom s (stmt_weight (stmt_tree x)) → HasRoom s (stmt_weight (stmt_tree d))
room-first s x c a other d is there room =
    let both = subst (λ (n : ℕ). HasRoom s n) (ap (λ (y : Stmt). stmt_weight (stmt_tree y)) is ∙ weight-if c a other) room in
    rw there (room_then s (stmt_tree a.value) (stmt_weight (else_tree other)) both)

pub room-other : (s t : Scope) (x : Stmt) (c : Expr) (a : Box Stmt Global) (other : Option (Box Stmt Global)) (d : Stmt) →
    x ≡ variant.If c a other → d ≡ a.value → t ≡ after_stmt s (stmt_tree d) →
    HasRoom s (stmt_weight (stmt_tree x)) → HasRoom t (stmt_weight (else_tree other))
room-other s t x c a other d is there after room =
    let both = subst (λ (n : ℕ). HasRoom s n) (ap (λ (y : Stmt). stmt_weight (stmt_tree y)) is ∙ weight-if c a other) room in
    rw (after, there) (room_stmt s (stmt_tree a.value) (stmt_weight (else_tree other)) both)

pub found-if : (f g h k : Found) (s t : Scope) (x : Stmt) (c : Expr) (a : Box Stmt Global) (other : Option (Box Stmt Global)) (d : Stmt) →
    x ≡ variant.If c a other → d ≡ a.value → t ≡ after_stmt s (stmt_tree d) →
    g ≡ noted f (expr_notes s (expr_tree c)) → h ≡ noted g (stmt_notes s (stmt_tree d)) → k ≡ noted h (stmt_notes t (else_tree other)) →
    k ≡ noted f (stmt_notes s (stmt_tree x))
found-if f g h k s t x c a other d is there after first second third =
    let inner = stmt_notes s (stmt_tree a.value) in
    let last = stmt_notes (after_stmt s (stmt_tree a.value)) (else_tree other) in
    let second_is : h ≡ noted g inner = second ∙ ap (λ (y : Stmt). noted g (stmt_notes s (stmt_tree y))) there in
    let after_is : t ≡ after_stmt s (stmt_tree a.value) = after ∙ ap (λ (y : Stmt). after_stmt s (stmt_tree y)) there in
    let third_is : k ≡ noted h last = third ∙ ap (λ (v : Scope). noted h (stmt_notes v (else_tree other))) after_is in
    let both = found-two f g h (expr_notes s (expr_tree c)) inner first second_is in
    found-two f h k (expr_notes s (expr_tree c) ++ inner) last both third_is
    ∙ ap (noted f) (sym (notes-if s c a other) ∙ ap (λ (y : Stmt). stmt_notes s (stmt_tree y)) (sym is))

-- `while`
pub found-while : (f g h : Found) (s : Scope) (x : Stmt) (c : Expr) (a : Box Stmt Global) (d : Stmt) → x ≡ variant.While c a → d ≡ a.value →
    g ≡ noted f (expr_notes s (expr_tree c)) → h ≡ noted g (stmt_notes (in_loop s) (stmt_tree d)) → h ≡ noted f (stmt_notes s (stmt_tree x))
found-while f g h s x c a d is there first second =
    let second_is : h ≡ noted g (stmt_notes (in_loop s) (stmt_tree a.value)) =
    second ∙ ap (λ (y : Stmt). noted g (stmt_notes (in_loop s) (stmt_tree y))) there in
    found-two f g h (expr_notes s (expr_tree c)) (stmt_notes (in_loop s) (stmt_tree a.value)) first second_is
    ∙ ap (λ (y : Stmt). noted f (stmt_notes s (stmt_tree y))) (sym is)

pub while-is : (x : Stmt) (c : Expr) (a : Box Stmt Global) (d : Stmt) → x ≡ variant.While c a → d ≡ a.value →
    stmt_tree x ≡ tree.While (expr_tree c) (stmt_tree d)
while-is x c a d is there = ap stmt_tree is ∙ ap (λ (y : Stmt). tree.While (expr_tree c) (stmt_tree y)) (sym there)

-- a statement of a block, and those behind it
pub room-next : (s : Scope) (ss : List Stmt) (i : ℕ) (a : Stmt) → i < length ss → a ≡ get_or ss i a →
    HasRoom s (stmts_weight (stmts_tree (drop i ss))) → HasRoom s (stmt_weight (stmt_tree a))
room-next s ss i a h is room =
    let split = stmts_tree-drop ss i a h is in
    room_then s (stmt_tree a) (stmts_weight (stmts_tree (drop (i + 1) ss)))
    (subst (λ (x : tree.Stmts). HasRoom s (stmts_weight x)) split room)

pub room-rest : (s t : Scope) (ss : List Stmt) (i : ℕ) (a : Stmt) → i < length ss → a ≡ get_or ss i a → t ≡ after_stmt s (stmt_tree a) →
    HasRoom s (stmts_weight (stmts_tree (drop i ss))) → HasRoom t (stmts_weight (stmts_tree (drop (i + 1) ss)))
room-rest s t ss i a h is after room =
    let split = stmts_tree-drop ss i a h is in
    rw after
    (room_stmt s (stmt_tree a) (stmts_weight (stmts_tree (drop (i + 1) ss)))
    (subst (λ (x : tree.Stmts). HasRoom s (stmts_weight x)) split room))

pub scopes-rest : (s t end : Scope) (ss : List Stmt) (i : ℕ) (a : Stmt) → i < length ss → a ≡ get_or ss i a → t ≡ after_stmt s (stmt_tree a) →
    after_stmts s (stmts_tree (drop i ss)) ≡ end → after_stmts t (stmts_tree (drop (i + 1) ss)) ≡ end
scopes-rest s t end ss i a h is after sofar =
    rw after (subst (λ (x : tree.Stmts). after_stmts s x ≡ end) (stmts_tree-drop ss i a h is) sofar)

pub found-rest : (f g end : Found) (s t : Scope) (ss : List Stmt) (i : ℕ) (a : Stmt) → i < length ss → a ≡ get_or ss i a →
    t ≡ after_stmt s (stmt_tree a) → g ≡ noted f (stmt_notes s (stmt_tree a)) →
    noted f (stmts_notes s (stmts_tree (drop i ss))) ≡ end → noted g (stmts_notes t (stmts_tree (drop (i + 1) ss))) ≡ end
found-rest f g end s t ss i a h is after noting sofar =
    let rest = stmts_notes (after_stmt s (stmt_tree a)) (stmts_tree (drop (i + 1) ss)) in
    rw (after, noting)
    (sym (noted-append f (stmt_notes s (stmt_tree a)) rest)
    ∙ subst (λ (x : tree.Stmts). noted f (stmts_notes s x) ≡ end) (stmts_tree-drop ss i a h is) sofar)
