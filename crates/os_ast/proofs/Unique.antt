-- A tree is leveled in one way at most: each production stands on what is in it.
use Rattle.std.proofs.Common.{◌≡◌, ℕ, ◌<◌, Bool, false, List, Option, refl, ap, ◌∙◌}
use Rattle.std.proofs.Math.Bridge.{le_prop}
use Rattle.std.proofs.Props.{props}
use Rattle.os_ast.specs.Leveled.{IsExpr, IsTarget, AreLinks, AreArgs, AreAll, AreListed, IsOptional, IsIndex, IsDeclarator, IsHeadDeclarator, IsChange, IsStart, IsClauseItem, IsClauseKind, IsClause, AreClauses, IsStmt, AreStmts, IsParams, IsItem, IsLeveled}
use Rattle.os_ast.specs.Operators.{IsAssign, HasAssigningForm}
use Rattle.os_ast.specs.Trees as tree
use Rattle.os_ast.specs.declared.expr.Binary.{Binary}
use Rattle.os_ast.specs.declared.expr.Level.{Level}
use Rattle.os_ast.specs.declared.program.Params.{Params}
use Rattle.os_ast.specs.declared.stmt.Assign.{Assign}
use Rattle.os_ast.specs.declared.ty.Ty.{Ty}

both : {A B C : Type 0} (f : A → B → C) {a c : A} {b d : B} → a ≡ c → b ≡ d → f a b ≡ f c d
both f {a} {c} {b} {d} h k = ap (λ x. f x b) h ∙ ap (λ y. f c y) k

three : {A B C D : Type 0} (f : A → B → C → D) {a d : A} {b e : B} {c g : C} → a ≡ d → b ≡ e → c ≡ g → f a b c ≡ f d e g
three f {a} {d} {b} {e} {c} {g} h k l = ap (λ x. f x b c) h ∙ both (f d) k l

four : {A B C D E : Type 0} (f : A → B → C → D → E) {a p : A} {b q : B} {c r : C} {d s : D} → a ≡ p → b ≡ q → c ≡ r → d ≡ s → f a b c d ≡ f p q r s
four f {a} {p} {b} {q} {c} {r} {d} {s} h k l m = ap (λ x. f x b c d) h ∙ three (f p) k l m

less_once : {n m : ℕ} → IsProp (n < m)
less_once = le_prop

level_once : {l k : Level} → IsProp (l ≡ k)
level_once = hlevel props

test_once : {b : Bool} → IsProp (b ≡ false)
test_once = hlevel props

mutual
  expr_once : {e : tree.ExprTree} (p q : IsExpr e) → p ≡ q
  expr_once (IsExpr.choice a b c d) (IsExpr.choice p q r s) = four IsExpr.choice (expr_once a p) (less_once b q) (expr_once c r) (expr_once d s)
  expr_once (IsExpr.chain a b c) (IsExpr.chain p q r) = three IsExpr.chain (expr_once a p) (less_once b q) (links_once c r)
  expr_once (IsExpr.unary a b) (IsExpr.unary p q) = both IsExpr.unary (expr_once a p) (le_prop b q)
  expr_once (IsExpr.number a) (IsExpr.number p) = ap IsExpr.number (less_once a p)
  expr_once (IsExpr.wide a) (IsExpr.wide p) = ap IsExpr.wide (less_once a p)
  expr_once (IsExpr.place a) (IsExpr.place p) = ap IsExpr.place (target_once a p)
  expr_once (IsExpr.call a) (IsExpr.call p) = ap IsExpr.call (args_once a p)
  expr_once (IsExpr.paren a) (IsExpr.paren p) = ap IsExpr.paren (expr_once a p)

  links_once : {l : Level} {ls : tree.Links} (p q : AreLinks l ls) → p ≡ q
  links_once AreLinks.no_links AreLinks.no_links = refl
  links_once (AreLinks.link a b c d) (AreLinks.link p q r s) = four AreLinks.link (level_once a p) (expr_once b q) (less_once c r) (links_once d s)

  target_once : {t : tree.TargetTree} (p q : IsTarget t) → p ≡ q
  target_once IsTarget.variable IsTarget.variable = refl
  target_once (IsTarget.element a) (IsTarget.element p) = ap IsTarget.element (expr_once a p)

  args_once : {es : tree.Args} (p q : AreArgs es) → p ≡ q
  args_once AreArgs.no_args AreArgs.no_args = refl
  args_once (AreArgs.arg a b) (AreArgs.arg p q) = both AreArgs.arg (expr_once a p) (args_once b q)

all_once : {A : Type 0} {P : A → Type 0} → ((x : A) (p q : P x) → p ≡ q) → {xs : List A} (p q : AreAll P xs) → p ≡ q
all_once once AreAll.nil AreAll.nil = refl
all_once once (AreAll.cons {x = x} a b) (AreAll.cons p q) = both AreAll.cons (once x a p) (all_once once b q)

listed_once : {A : Type 0} {P : A → Type 0} → ((x : A) (p q : P x) → p ≡ q) → {xs : List A} (p q : AreListed P xs) → p ≡ q
listed_once once (AreListed.listed {x = x} a b) (AreListed.listed p q) = both AreListed.listed (once x a p) (all_once once b q)

optional_once : {A : Type 0} {P : A → Type 0} → ((x : A) (p q : P x) → p ≡ q) → {o : Option A} (p q : IsOptional P o) → p ≡ q
optional_once once IsOptional.absent IsOptional.absent = refl
optional_once once (IsOptional.present {x = x} a) (IsOptional.present p) = ap IsOptional.present (once x a p)

index_once : {i : tree.IndexTree} (p q : IsIndex i) → p ≡ q
index_once (IsIndex.index a) (IsIndex.index p) = ap IsIndex.index (expr_once a p)

declarator_once : {d : tree.DeclaratorTree} (p q : IsDeclarator d) → p ≡ q
declarator_once (IsDeclarator.scalar a) (IsDeclarator.scalar p) = ap IsDeclarator.scalar (optional_once (λ x p q. expr_once p q) a p)
declarator_once (IsDeclarator.sized a) (IsDeclarator.sized p) = ap IsDeclarator.sized (index_once a p)
declarator_once (IsDeclarator.stream a) (IsDeclarator.stream p) = ap IsDeclarator.stream (optional_once (λ x p q. index_once p q) a p)

head_once : {d : tree.DeclaratorTree} (p q : IsHeadDeclarator d) → p ≡ q
head_once (IsHeadDeclarator.head a) (IsHeadDeclarator.head p) = ap IsHeadDeclarator.head (optional_once (λ x p q. expr_once p q) a p)

form_once : {op : Binary} (p q : HasAssigningForm op) → p ≡ q
form_once HasAssigningForm.add HasAssigningForm.add = refl
form_once HasAssigningForm.subtract HasAssigningForm.subtract = refl
form_once HasAssigningForm.multiply HasAssigningForm.multiply = refl
form_once HasAssigningForm.divide HasAssigningForm.divide = refl
form_once HasAssigningForm.remainder HasAssigningForm.remainder = refl
form_once HasAssigningForm.shift_left HasAssigningForm.shift_left = refl
form_once HasAssigningForm.shift_right HasAssigningForm.shift_right = refl
form_once HasAssigningForm.bit_and HasAssigningForm.bit_and = refl
form_once HasAssigningForm.bit_or HasAssigningForm.bit_or = refl
form_once HasAssigningForm.bit_xor HasAssigningForm.bit_xor = refl

assign_once : {a : Assign} (p q : IsAssign a) → p ≡ q
assign_once IsAssign.plain IsAssign.plain = refl
assign_once (IsAssign.with a) (IsAssign.with p) = ap IsAssign.with (form_once a p)

change_once : {c : tree.ChangeTree} (p q : IsChange c) → p ≡ q
change_once (IsChange.set a b c) (IsChange.set p q r) = three IsChange.set (target_once a p) (assign_once b q) (expr_once c r)
change_once (IsChange.after a) (IsChange.after p) = ap IsChange.after (target_once a p)
change_once (IsChange.before a) (IsChange.before p) = ap IsChange.before (target_once a p)

start_once : {s : tree.StartTree} (p q : IsStart s) → p ≡ q
start_once IsStart.empty IsStart.empty = refl
start_once (IsStart.declare a) (IsStart.declare p) = ap IsStart.declare (listed_once (λ x p q. head_once p q) a p)
start_once (IsStart.change a) (IsStart.change p) = ap IsStart.change (change_once a p)

item_once : {i : tree.ClauseItemTree} (p q : IsClauseItem i) → p ≡ q
item_once (IsClauseItem.joined a b) (IsClauseItem.joined p q) = both IsClauseItem.joined (target_once a p) (optional_once (λ x p q. index_once p q) b q)
item_once IsClauseItem.alone IsClauseItem.alone = refl

kind_once : {k : tree.ClauseKindTree} (p q : IsClauseKind k) → p ≡ q
kind_once (IsClauseKind.input a) (IsClauseKind.input p) = ap IsClauseKind.input (listed_once (λ x p q. item_once p q) a p)
kind_once (IsClauseKind.output a) (IsClauseKind.output p) = ap IsClauseKind.output (listed_once (λ x p q. item_once p q) a p)
kind_once IsClauseKind.firstprivate IsClauseKind.firstprivate = refl

clause_once : {c : tree.ClauseTree} (p q : IsClause c) → p ≡ q
clause_once (IsClause.clause a) (IsClause.clause p) = ap IsClause.clause (kind_once a p)

clauses_once : {cs : List tree.ClauseTree} (p q : AreClauses cs) → p ≡ q
clauses_once AreClauses.no_clauses AreClauses.no_clauses = refl
clauses_once (AreClauses.clauses a b) (AreClauses.clauses p q) = both AreClauses.clauses (kind_once a p) (all_once (λ x p q. clause_once p q) b q)

no_declaration : {t : Ty} {ds : List tree.DeclaratorTree} → IsStmt (tree.StmtTree.Declare t ds) → ⊥
no_declaration h = elim h [ ]

mutual
  stmt_once : {a : tree.StmtTree} (p q : IsStmt a) → p ≡ q
  stmt_once IsStmt.empty IsStmt.empty = refl
  stmt_once (IsStmt.block a) (IsStmt.block p) = ap IsStmt.block (stmts_once a p)
  stmt_once (IsStmt.change a) (IsStmt.change p) = ap IsStmt.change (change_once a p)
  stmt_once (IsStmt.call a) (IsStmt.call p) = ap IsStmt.call (args_once a p)
  stmt_once (IsStmt.if_alone a b) (IsStmt.if_alone p q) = both IsStmt.if_alone (expr_once a p) (stmt_once b q)
  stmt_once (IsStmt.if_else a b c d) (IsStmt.if_else p q r s) = four IsStmt.if_else (expr_once a p) (stmt_once b q) (test_once c r) (stmt_once d s)
  stmt_once (IsStmt.while a b) (IsStmt.while p q) = both IsStmt.while (expr_once a p) (stmt_once b q)
  stmt_once (IsStmt.for a b c d) (IsStmt.for p q r s) =
      four IsStmt.for (start_once a p) (optional_once (λ x p q. expr_once p q) b q) (optional_once (λ x p q. change_once p q) c r) (stmt_once d s)
  stmt_once IsStmt.break IsStmt.break = refl
  stmt_once IsStmt.continue IsStmt.continue = refl
  stmt_once (IsStmt.return a) (IsStmt.return p) = ap IsStmt.return (expr_once a p)
  stmt_once (IsStmt.task a b) (IsStmt.task p q) = both IsStmt.task (clauses_once a p) (stmt_once b q)
  stmt_once (IsStmt.tick a b) (IsStmt.tick p q) = both IsStmt.tick (target_once a p) (expr_once b q)
  stmt_once IsStmt.taskwait IsStmt.taskwait = refl

  stmts_once : {ss : tree.Stmts} (p q : AreStmts ss) → p ≡ q
  stmts_once AreStmts.no_stmts AreStmts.no_stmts = refl
  stmts_once (AreStmts.declare a b) (AreStmts.declare p q) = both AreStmts.declare (listed_once (λ x p q. declarator_once p q) a p) (stmts_once b q)
  stmts_once (AreStmts.declare a b) (AreStmts.stmt p q) = absurd (no_declaration p)
  stmts_once (AreStmts.stmt a b) (AreStmts.declare p q) = absurd (no_declaration a)
  stmts_once (AreStmts.stmt a b) (AreStmts.stmt p q) = both AreStmts.stmt (stmt_once a p) (stmts_once b q)

params_once : {ps : Params} (p q : IsParams ps) → p ≡ q
params_once IsParams.empty IsParams.empty = refl
params_once IsParams.void IsParams.void = refl
params_once IsParams.names IsParams.names = refl

program_item_once : {i : tree.ItemTree} (p q : IsItem i) → p ≡ q
program_item_once (IsItem.constant a) (IsItem.constant p) = ap IsItem.constant (less_once a p)
program_item_once (IsItem.wide_constant a) (IsItem.wide_constant p) = ap IsItem.wide_constant (less_once a p)
program_item_once (IsItem.function a b) (IsItem.function p q) = both IsItem.function (params_once a p) (stmts_once b q)

-- two proofs that a program is leveled are equal
pub leveled_once : (p : tree.ProgramTree) → IsProp (IsLeveled p)
leveled_once p h k =
    both (λ (x : AreAll IsItem p) (y : _). record { items = x; depth = y }) (all_once (λ x p q. program_item_once p q) h.items k.items) (le_prop h.depth k.depth)
