-- The numbers of a leveled program are those of the tokens.
use Rattle.std.proofs.Common.{◌≡◌, ◌^◌, true, ◌&&◌, List, Option, refl, lt-ltb}
use Rattle.cddf_meaning.specs.Fitting.{args_fit, change_fits, declarators_fit, index_fits, items_fit, links_fit, numbers_fit, start_fits, step_fits, stmt_fits, stmts_fit, target_fits, value_fits}
use Rattle.os_ast.specs.Leveled.{IsExpr, AreLinks, IsTarget, AreArgs, AreAll, AreListed, IsOptional, IsIndex, IsDeclarator, IsHeadDeclarator, IsChange, IsStart, IsStmt, AreStmts, IsItem, IsLeveled}
use Rattle.os_ast.specs.Leveled as leveled
use Rattle.os_ast.specs.Trees as tree
use Rattle.os_ast.specs.declared.expr.Level.{Level}
use Rattle.cddf_meaning.proofs.Ints.{joined}

mutual
  expr-fits : {e : tree.ExprTree} → IsExpr e → numbers_fit e ≡ true
  expr-fits (leveled.choice {c = c} {a = a} {b = b} ic above ia ib) =
      joined (numbers_fit c) (numbers_fit a && numbers_fit b) (expr-fits ic) (joined (numbers_fit a) (numbers_fit b) (expr-fits ia) (expr-fits ib))
  expr-fits (leveled.chain {first = first} {e = e} {op = op} {m = m} {rest = rest} ifirst above il) =
      joined (numbers_fit first) (links_fit (tree.link op m e rest)) (expr-fits ifirst) (links-fit il)
  expr-fits (leveled.unary ie above) = expr-fits ie
  expr-fits (leveled.number {n = n} small) = lt-ltb n (2 ^ 31) small
  expr-fits (leveled.wide {n = n} small) = lt-ltb n (2 ^ 32) small
  expr-fits (leveled.place it) = target-fits it
  expr-fits (leveled.IsExpr.call is) = args-fit is
  expr-fits (leveled.paren ie) = expr-fits ie

  links-fit : {l : Level} {ls : tree.Links} → AreLinks l ls → links_fit ls ≡ true
  links-fit leveled.no_links = refl
  links-fit (leveled.link {e = e} {rest = rest} same ie above il) = joined (numbers_fit e) (links_fit rest) (expr-fits ie) (links-fit il)

  target-fits : {t : tree.TargetTree} → IsTarget t → target_fits t ≡ true
  target-fits leveled.variable = refl
  target-fits (leveled.element ie) = expr-fits ie

  args-fit : {es : tree.Args} → AreArgs es → args_fit es ≡ true
  args-fit leveled.no_args = refl
  args-fit (leveled.arg {e = e} {es = es} ie is) = joined (numbers_fit e) (args_fit es) (expr-fits ie) (args-fit is)

value-fits : {o : Option tree.ExprTree} → IsOptional IsExpr o → value_fits o ≡ true
value-fits leveled.absent = refl
value-fits (leveled.present ie) = expr-fits ie

index-fits : {o : Option tree.IndexTree} → IsOptional IsIndex o → index_fits o ≡ true
index-fits leveled.absent = refl
index-fits (leveled.present (leveled.index ie)) = expr-fits ie

-- the numbers of a declarator
abbrev DeclaratorFits : tree.DeclaratorTree → Type 0
DeclaratorFits d = (index_fits d.size && value_fits d.first) ≡ true

declarator-fits : (d : tree.DeclaratorTree) → IsDeclarator d → DeclaratorFits d
declarator-fits _ (leveled.scalar io) = value-fits io
declarator-fits _ (leveled.sized (leveled.index {e = e} ie)) = joined (numbers_fit e) true (expr-fits ie) refl
declarator-fits _ (leveled.stream {size = size} io) = joined (index_fits size) true (index-fits io) refl

head-fits : (d : tree.DeclaratorTree) → IsHeadDeclarator d → DeclaratorFits d
head-fits _ (leveled.head io) = value-fits io

all-fit : {P : tree.DeclaratorTree → Type 0} {ds : List tree.DeclaratorTree} → ((d : tree.DeclaratorTree) → P d → DeclaratorFits d) →
    AreAll P ds → declarators_fit ds ≡ true
all-fit fits leveled.nil = refl
all-fit fits (leveled.cons {x = d} {xs = ds} is rest) =
    joined (index_fits d.size && value_fits d.first) (declarators_fit ds) (fits d is) (all-fit fits rest)

listed-fit : {P : tree.DeclaratorTree → Type 0} {ds : List tree.DeclaratorTree} → ((d : tree.DeclaratorTree) → P d → DeclaratorFits d) →
    AreListed P ds → declarators_fit ds ≡ true
listed-fit fits (leveled.listed {x = d} {xs = ds} is rest) =
    joined (index_fits d.size && value_fits d.first) (declarators_fit ds) (fits d is) (all-fit fits rest)

change-fits : {c : tree.ChangeTree} → IsChange c → change_fits c ≡ true
change-fits (leveled.set {t = t} {e = e} it assigns ie) = joined (target_fits t) (numbers_fit e) (target-fits it) (expr-fits ie)
change-fits (leveled.after it) = target-fits it
change-fits (leveled.before it) = target-fits it

start-fits : {s : tree.StartTree} → IsStart s → start_fits s ≡ true
start-fits leveled.IsStart.empty = refl
start-fits (leveled.IsStart.declare is) = listed-fit head-fits is
start-fits (leveled.IsStart.change ic) = change-fits ic

step-fits : {o : Option tree.ChangeTree} → IsOptional IsChange o → step_fits o ≡ true
step-fits leveled.absent = refl
step-fits (leveled.present ic) = change-fits ic

mutual
  stmt-fits : {a : tree.StmtTree} → IsStmt a → stmt_fits a ≡ true
  stmt-fits leveled.IsStmt.empty = refl
  stmt-fits (leveled.block is) = stmts-fit is
  stmt-fits (leveled.IsStmt.change ic) = change-fits ic
  stmt-fits (leveled.IsStmt.call is) = args-fit is
  stmt-fits (leveled.if_alone {c = c} {a = a} ic ia) = joined (numbers_fit c) (stmt_fits a) (expr-fits ic) (stmt-fits ia)
  stmt-fits (leveled.if_else {c = c} {a = a} {b = b} ic ia closed ib) =
      joined (numbers_fit c) (stmt_fits a && stmt_fits b) (expr-fits ic) (joined (stmt_fits a) (stmt_fits b) (stmt-fits ia) (stmt-fits ib))
  stmt-fits (leveled.while {c = c} {s = s} ic is) = joined (numbers_fit c) (stmt_fits s) (expr-fits ic) (stmt-fits is)
  stmt-fits (leveled.for {start = start} {test = test} {step = step} {s = s} ib it ip is) =
      joined (start_fits start && value_fits test) (step_fits step && stmt_fits s) (joined (start_fits start) (value_fits test) (start-fits ib) (value-fits it))
      (joined (step_fits step) (stmt_fits s) (step-fits ip) (stmt-fits is))
  stmt-fits leveled.break = refl
  stmt-fits leveled.continue = refl
  stmt-fits (leveled.return ie) = expr-fits ie
  stmt-fits (leveled.task clauses is) = stmt-fits is
  stmt-fits (leveled.tick {t = t} {e = e} it ie) = joined (target_fits t) (numbers_fit e) (target-fits it) (expr-fits ie)
  stmt-fits leveled.taskwait = refl

  stmts-fit : {ss : tree.Stmts} → AreStmts ss → stmts_fit ss ≡ true
  stmts-fit leveled.no_stmts = refl
  stmts-fit (leveled.AreStmts.declare {ds = ds} {ss = ss} is rest) = joined (declarators_fit ds) (stmts_fit ss) (listed-fit declarator-fits is) (stmts-fit rest)
  stmts-fit (leveled.stmt {s = s} {ss = ss} is rest) = joined (stmt_fits s) (stmts_fit ss) (stmt-fits is) (stmts-fit rest)

items-fit : {is : List tree.ItemTree} → AreAll IsItem is → items_fit is ≡ true
items-fit leveled.nil = refl
items-fit (leveled.cons (leveled.IsItem.constant small) rest) = items-fit rest
items-fit (leveled.cons (leveled.IsItem.wide_constant small) rest) = items-fit rest
items-fit (leveled.cons {xs = xs} (leveled.IsItem.function {body = body} params is) rest) =
    joined (stmts_fit body) (items_fit xs) (stmts-fit is) (items-fit rest)

pub program-fits : (p : tree.ProgramTree) → IsLeveled p → items_fit p ≡ true
program-fits p l = items-fit l.items
