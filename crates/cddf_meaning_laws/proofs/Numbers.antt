-- The numbers of each expression of a leveled program are those of the tokens.
use Rattle.std.proofs.Common.{◌≡◌, ◌^◌, true, ◌&&◌, List, [], ◌∷◌, ◌++◌, All, Option, refl, lt-ltb}
use Rattle.std.specs.List.{flat_map}
use Rattle.std.proofs.lemmas.List.Elements.{All-append, All-cons, All-nil}
use Rattle.cddf_meaning.proofs.Ints.{joined}
use Rattle.cddf_meaning.specs.Fitting.{args_fit, links_fit, numbers_fit, target_fits}
use Rattle.os_ast.specs.Leveled.{IsExpr, AreLinks, IsTarget, AreArgs, AreAll, AreListed, IsOptional, IsIndex, IsDeclarator, IsHeadDeclarator, IsChange, IsStart, IsClauseItem, IsClauseKind, IsClause, AreClauses, IsStmt, AreStmts, IsItem, IsLeveled}
use Rattle.os_ast.specs.Leveled as leveled
use Rattle.os_ast.specs.Trees as tree
use Rattle.os_ast.specs.declared.expr.Level.{Level}
use Rattle.cddf_meaning_laws.specs.Expressions.{ExpressionsHaveTheirNumbers, args_expressions, change_expressions, clause_expressions, declarator_expressions, index_expressions, item_expressions, kind_expressions, program_expressions, start_expressions, step_expressions, stmt_expressions, stmts_expressions, target_expressions, value_expressions}

mutual
  expr-fits : {e : tree.ExprTree} → IsExpr e → numbers_fit e ≡ true
  expr-fits (leveled.choice {c = c} {a = a} {b = b} ic above ia ib) =
      joined (numbers_fit c) (numbers_fit a && numbers_fit b) (expr-fits ic) (joined (numbers_fit a) (numbers_fit b) (expr-fits ia) (expr-fits ib))
  expr-fits (leveled.chain {first = first} {e = e} {op = op} {m = m} {rest = rest} ifirst above il) =
      joined (numbers_fit first) (links_fit (tree.link op m e rest)) (expr-fits ifirst) (links-fit il)
  expr-fits (leveled.unary ie above) = expr-fits ie
  expr-fits (leveled.number {n = n} small) = lt-ltb n (2 ^ 31) small
  expr-fits (leveled.wide {n = n} small) = lt-ltb n (2 ^ 32) small
  expr-fits (leveled.place it) = target-fits it
  expr-fits (leveled.IsExpr.call is) = args-fit is
  expr-fits (leveled.paren ie) = expr-fits ie

  links-fit : {l : Level} {ls : tree.Links} → AreLinks l ls → links_fit ls ≡ true
  links-fit leveled.no_links = refl
  links-fit (leveled.link {e = e} {rest = rest} same ie above il) = joined (numbers_fit e) (links_fit rest) (expr-fits ie) (links-fit il)

  target-fits : {t : tree.TargetTree} → IsTarget t → target_fits t ≡ true
  target-fits leveled.variable = refl
  target-fits (leveled.element ie) = expr-fits ie

  args-fit : {es : tree.Args} → AreArgs es → args_fit es ≡ true
  args-fit leveled.no_args = refl
  args-fit (leveled.arg {e = e} {es = es} ie is) = joined (numbers_fit e) (args_fit es) (expr-fits ie) (args-fit is)

-- each of these expressions has its numbers
abbrev Numbered : List tree.ExprTree → Type 0
Numbered es = All (λ e. numbers_fit e ≡ true) es

none : Numbered []
none = All-nil (λ e. numbers_fit e ≡ true)

behind : (e : tree.ExprTree) (es : List tree.ExprTree) → IsExpr e → Numbered es → Numbered (e ∷ es)
behind e es ie rest = All-cons (λ e. numbers_fit e ≡ true) e es (expr-fits ie) rest

together : (xs ys : List tree.ExprTree) → Numbered xs → Numbered ys → Numbered (xs ++ ys)
together xs ys first rest = All-append (λ e. numbers_fit e ≡ true) xs ys first rest

targets : {t : tree.TargetTree} → IsTarget t → Numbered (target_expressions t)
targets leveled.variable = none
targets (leveled.element {e = e} ie) = behind e [] ie none

args : {es : tree.Args} → AreArgs es → Numbered (args_expressions es)
args leveled.no_args = none
args (leveled.arg {e = e} {es = es} ie is) = behind e (args_expressions es) ie (args is)

values : {o : Option tree.ExprTree} → IsOptional IsExpr o → Numbered (value_expressions o)
values leveled.absent = none
values (leveled.present {x = e} ie) = behind e [] ie none

indices : {o : Option tree.IndexTree} → IsOptional IsIndex o → Numbered (index_expressions o)
indices leveled.absent = none
indices (leveled.present (leveled.index {e = e} ie)) = behind e [] ie none

declarator : (d : tree.DeclaratorTree) → IsDeclarator d → Numbered (declarator_expressions d)
declarator _ (leveled.scalar io) = values io
declarator _ (leveled.sized (leveled.index {e = e} ie)) = behind e [] ie none
declarator _ (leveled.stream {size = size} io) = together (index_expressions size) [] (indices io) none

head : (d : tree.DeclaratorTree) → IsHeadDeclarator d → Numbered (declarator_expressions d)
head _ (leveled.head io) = values io

-- lists of parts, by what holds of each part
each : {A : Type 0} {P : A → Type 0} (expressions : A → List tree.ExprTree) → ((x : A) → P x → Numbered (expressions x)) → {xs : List A} → AreAll P xs
    → Numbered (flat_map expressions xs)
each expressions one leveled.nil = none
each expressions one (leveled.cons {x = x} {xs = xs} is rest) =
    together (expressions x) (flat_map expressions xs) (one x is) (each expressions one rest)

each_listed : {A : Type 0} {P : A → Type 0} (expressions : A → List tree.ExprTree) → ((x : A) → P x → Numbered (expressions x)) → {xs : List A} → AreListed P xs
    → Numbered (flat_map expressions xs)
each_listed expressions one (leveled.listed {x = x} {xs = xs} is rest) =
    together (expressions x) (flat_map expressions xs) (one x is) (each expressions one rest)

changes : {c : tree.ChangeTree} → IsChange c → Numbered (change_expressions c)
changes (leveled.set {t = t} {e = e} it assigns ie) = together (target_expressions t) (e ∷ []) (targets it) (behind e [] ie none)
changes (leveled.after it) = targets it
changes (leveled.before it) = targets it

starts : {s : tree.StartTree} → IsStart s → Numbered (start_expressions s)
starts leveled.IsStart.empty = none
starts (leveled.IsStart.declare is) = each_listed declarator_expressions head is
starts (leveled.IsStart.change ic) = changes ic

steps : {o : Option tree.ChangeTree} → IsOptional IsChange o → Numbered (step_expressions o)
steps leveled.absent = none
steps (leveled.present ic) = changes ic

-- the clauses of a task
clause_item : (i : tree.ClauseItemTree) → IsClauseItem i → Numbered (item_expressions i)
clause_item _ (leveled.joined {t = t} {burst = burst} it ib) = together (target_expressions t) (index_expressions burst) (targets it) (indices ib)
clause_item _ leveled.alone = none

clause_kind : (kind : tree.ClauseKindTree) → IsClauseKind kind → Numbered (kind_expressions kind)
clause_kind _ (leveled.input is) = each_listed item_expressions clause_item is
clause_kind _ (leveled.output is) = each_listed item_expressions clause_item is
clause_kind _ leveled.firstprivate = none

clause : (c : tree.ClauseTree) → IsClause c → Numbered (clause_expressions c)
clause _ (leveled.clause {kind = kind} is) = clause_kind kind is

clauses : {cs : List tree.ClauseTree} → AreClauses cs → Numbered (flat_map clause_expressions cs)
clauses leveled.no_clauses = none
clauses (leveled.clauses {kind = kind} {cs = cs} first rest) =
    together (kind_expressions kind) (flat_map clause_expressions cs) (clause_kind kind first) (each clause_expressions clause rest)

mutual
  stmts : {a : tree.StmtTree} → IsStmt a → Numbered (stmt_expressions a)
  stmts leveled.IsStmt.empty = none
  stmts (leveled.block is) = all_stmts is
  stmts (leveled.IsStmt.change ic) = changes ic
  stmts (leveled.IsStmt.call is) = args is
  stmts (leveled.if_alone {c = c} {a = a} ic ia) = behind c (stmt_expressions a) ic (stmts ia)
  stmts (leveled.if_else {c = c} {a = a} {b = b} ic ia closed ib) =
      behind c (stmt_expressions a ++ stmt_expressions b) ic (together (stmt_expressions a) (stmt_expressions b) (stmts ia) (stmts ib))
  stmts (leveled.while {c = c} {s = s} ic is) = behind c (stmt_expressions s) ic (stmts is)
  stmts (leveled.for {start = start} {test = test} {step = step} {s = s} ib it ip is) =
      together (start_expressions start ++ value_expressions test ++ step_expressions step) (stmt_expressions s)
      (together (start_expressions start ++ value_expressions test) (step_expressions step)
      (together (start_expressions start) (value_expressions test) (starts ib) (values it)) (steps ip))
      (stmts is)
  stmts leveled.break = none
  stmts leveled.continue = none
  stmts (leveled.return {e = e} ie) = behind e [] ie none
  stmts (leveled.task {cs = cs} {s = s} are is) = together (flat_map clause_expressions cs) (stmt_expressions s) (clauses are) (stmts is)
  stmts (leveled.tick {t = t} {e = e} it ie) = together (target_expressions t) (e ∷ []) (targets it) (behind e [] ie none)
  stmts leveled.taskwait = none

  all_stmts : {ss : tree.Stmts} → AreStmts ss → Numbered (stmts_expressions ss)
  all_stmts leveled.no_stmts = none
  all_stmts (leveled.AreStmts.declare {ds = ds} {ss = ss} is rest) =
      together (flat_map declarator_expressions ds) (stmts_expressions ss) (each_listed declarator_expressions declarator is) (all_stmts rest)
  all_stmts (leveled.stmt {s = s} {ss = ss} is rest) = together (stmt_expressions s) (stmts_expressions ss) (stmts is) (all_stmts rest)

items : {is : List tree.ItemTree} → AreAll IsItem is → Numbered (program_expressions is)
items leveled.nil = none
items (leveled.cons (leveled.IsItem.constant small) rest) = items rest
items (leveled.cons (leveled.IsItem.wide_constant small) rest) = items rest
items (leveled.cons {xs = xs} (leveled.IsItem.function {body = body} params is) rest) =
    together (stmts_expressions body) (program_expressions xs) (all_stmts is) (items rest)

pub numbered : ExpressionsHaveTheirNumbers
numbered p l = items l.items
