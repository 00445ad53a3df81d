-- Streams are declared in the outermost block of `main` alone, so that no other part of a lawful program counts one.
use Rattle.std.proofs.Common.{◌≡◌, ℕ, ◌≤◌, ◌&&◌, Bool, true, false, not, List, [], ◌∷◌, ◌++◌, Option, Some, None, refl, sym, ◌∙◌, arith, ne_eqb}
use Rattle.os_ast.specs.Captured.{captured, slots_of}
use Rattle.os_ast.specs.Leveled.{IsStmt, AreStmts}
use Rattle.os_ast.specs.Names.{Scope, enter, in_loop, in_unit, typed}
use Rattle.os_ast.specs.Notes.Clauses.{in_task, captured_in, in_task_body, clauses_notes}
use Rattle.os_ast.specs.Notes.Declarators.{sized_form, form_with, size_of, taken, after_declarator, after_declarators, declarator_notes, declarators_notes, after_start, start_notes}
use Rattle.os_ast.specs.Notes.Expressions.{expr_notes, value_notes, step_notes}
use Rattle.os_ast.specs.Notes.Programs.{owner_of, param_list, round_body, after_param, after_params, after_item, after_items, in_body}
use Rattle.os_ast.specs.Notes.Programs as programs
use Rattle.os_ast.specs.Notes.Statements.{after_stmt, after_stmts, stmt_notes, stmts_notes}
use Rattle.os_ast.specs.ClauseMembers.{members}
use Rattle.os_ast.specs.Rules.{is_outermost}
use Rattle.os_ast.specs.Trees as tree
use Rattle.os_ast.specs.declared.names.Owner.{Owner}
use Rattle.os_ast.specs.declared.names.Owner.TheVariants as owner
use Rattle.os_ast.specs.declared.program.Param.{Param}
use Rattle.lowering_relation.proofs.NoTasks.{items_owner}
use Rattle.lowering_relation.proofs.Static.{items_streams, declarator_onward, declarators_onward, start_onward, stmt_onward, stmts_onward}
use Rattle.window_check_laws.specs.Told.{AreLawful}
use Rattle.window_check_laws.proofs.Told.{lawful-first, lawful-rest}

-- in `main` at least `depth` scopes are round it
abbrev pub AtLeast : ℕ → Scope → Type 0
AtLeast depth s = s.owner ≡ owner.OfMain → depth ≤ s.depth

not_outermost : (s : Scope) → AtLeast 3 s → is_outermost s.owner s.depth ≡ false
not_outermost s deep = by_owner s.owner refl
  where
    by_owner : (o : Owner) → s.owner ≡ o → is_outermost o s.depth ≡ false
    by_owner owner.OfMain own = let d = deep own in ne_eqb s.depth 2 (λ e. omega (arith, d, e))
    by_owner owner.OfFunction own = refl
    by_owner owner.OfTask own = refl

pub sized_streams : (o : Owner) (s : Scope) (size : Option ℕ) → (taken s (sized_form o size)).streams ≡ s.streams
sized_streams owner.OfMain s size = refl
sized_streams owner.OfFunction s size = refl
sized_streams owner.OfTask s size = refl

form_streams : (s : Scope) (stream outermost : Bool) (size : Option tree.IndexTree) → outermost ≡ false → (stream && not outermost) ≡ false → (taken s (form_with s stream size)).streams ≡ s.streams
form_streams s false outermost None off h = refl
form_streams s false outermost (Some i) off h = sized_streams s.owner s (size_of s i.value)
form_streams s true true size off h = absurd (cc)
form_streams s true false size off h = absurd (cc)

on : (depth : ℕ) (s t : Scope) → t.owner ≡ s.owner → t.depth ≡ s.depth → AtLeast depth s → AtLeast depth t
on depth s t own same deep e = let d = deep (sym own ∙ e) in omega (arith, d, same)

declarators_streams : (ds : List tree.DeclaratorTree) (s : Scope) → AtLeast 3 s → AreLawful (declarators_notes s ds) → (after_declarators s ds).streams ≡ s.streams
declarators_streams [] s deep h = refl
declarators_streams (d ∷ ds) s deep h =
    let s1 = after_declarator s d in
    let o = declarator_onward s d in
    let own = lawful-first (declarator_notes s d) (declarators_notes s1 ds) h in
    declarators_streams ds s1 (on 3 s s1 o.owner o.depth deep) (lawful-rest (declarator_notes s d) (declarators_notes s1 ds) h)
    ∙ form_streams s d.stream (is_outermost s.owner s.depth) d.size (not_outermost s deep) own.0.1.1.1.1.1.1.1.0

start_streams : (t : tree.StartTree) (s : Scope) → AtLeast 3 s → AreLawful (start_notes s t) → (after_start s t).streams ≡ s.streams
start_streams tree.StartTree.Empty s deep h = refl
start_streams (tree.StartTree.Declare ty ds) s deep h = declarators_streams ds (typed ty s) deep h
start_streams (tree.StartTree.Change c) s deep h = refl

within : (s : Scope) → AtLeast 2 s → AtLeast 3 (enter s)
within s deep e = let d = deep e in omega (arith, d)

less : (s : Scope) → AtLeast 3 s → AtLeast 2 s
less s deep e = let d = deep e in omega (arith, d)

mutual
  pub stmt_streams : {a : tree.StmtTree} → IsStmt a → (s : Scope) → AtLeast 2 s → AreLawful (stmt_notes s a) → (after_stmt s a).streams ≡ s.streams
  stmt_streams IsStmt.empty s deep h = refl
  stmt_streams (IsStmt.block is) s deep h = stmts_streams is (enter s) (within s deep) h
  stmt_streams (IsStmt.change _) s deep h = refl
  stmt_streams (IsStmt.call _) s deep h = refl
  stmt_streams (IsStmt.if_alone {c = c} {a = a} _ is) s deep h = stmt_streams is s deep (lawful-rest (expr_notes s c) (stmt_notes s a) h)
  stmt_streams (IsStmt.if_else {c = c} {a = a} {b = b} _ is _ is2) s deep h =
      let x = expr_notes s c ++ stmt_notes s a in
      let s1 = after_stmt s a in
      let o = stmt_onward a s in
      stmt_streams is2 s1 (on 2 s s1 o.owner o.depth deep) (lawful-rest x (stmt_notes s1 b) h)
      ∙ stmt_streams is s deep (lawful-rest (expr_notes s c) (stmt_notes s a) (lawful-first x (stmt_notes s1 b) h))
  stmt_streams (IsStmt.while {c = c} {s = a} _ is) s deep h = stmt_streams is (in_loop s) deep (lawful-rest (expr_notes s c) (stmt_notes (in_loop s) a) h)
  stmt_streams (IsStmt.for {start = start} {test = test} {step = step} {s = a} _ _ _ is) s deep h =
      let head = after_start (enter s) start in
      let x = start_notes (enter s) start in
      let z = x ++ value_notes head test ++ step_notes head step in
      let o = start_onward start (enter s) in
      stmt_streams is (in_loop head) (less head (on 3 (enter s) head o.owner o.depth (within s deep))) (lawful-rest z (stmt_notes (in_loop head) a) h)
      ∙ start_streams start (enter s) (within s deep) (lawful-first x (value_notes head test) (lawful-first (x ++ value_notes head test) (step_notes head step) (lawful-first z (stmt_notes (in_loop head) a) h)))
  stmt_streams IsStmt.break s deep h = refl
  stmt_streams IsStmt.continue s deep h = refl
  stmt_streams (IsStmt.return _) s deep h = refl
  stmt_streams (IsStmt.task {m = m} {cs = cs} {s = a} _ is) s deep h =
      let inner = in_task_body s (members cs) a in
      let round = in_task s (captured_in s.owner (slots_of (captured s.entries (members cs) a))) in
      let own : inner.owner ≡ owner.OfTask = items_owner (members cs) s round 0 in
      stmt_streams is inner (λ e. let z : owner.OfTask ≡ owner.OfMain = sym own ∙ e in absurd (cc)) (lawful-rest (clauses_notes s m (members cs) a) (stmt_notes inner a) h)
      ∙ items_streams s round 0 (members cs)
  stmt_streams (IsStmt.tick _ _) s deep h = refl
  stmt_streams IsStmt.taskwait s deep h = refl

  pub stmts_streams : {ss : tree.Stmts} → AreStmts ss → (s : Scope) → AtLeast 3 s → AreLawful (stmts_notes s ss) → (after_stmts s ss).streams ≡ s.streams
  stmts_streams AreStmts.no_stmts s deep h = refl
  stmts_streams (AreStmts.declare {t = ty} {ds = ds} {ss = ss} _ rest) s0 deep h =
      let s = typed ty s0 in
      let s1 = after_declarators s ds in
      let o = declarators_onward ds s in
      stmts_streams rest s1 (on 3 s s1 o.owner o.depth deep) (lawful-rest (declarators_notes s ds) (stmts_notes s1 ss) h)
      ∙ declarators_streams ds s deep (lawful-first (declarators_notes s ds) (stmts_notes s1 ss) h)
  stmts_streams (AreStmts.stmt {s = a} {ss = ss} is rest) s deep h =
      let s1 = after_stmt s a in
      let o = stmt_onward a s in
      stmts_streams rest s1 (on 3 s s1 o.owner o.depth deep) (lawful-rest (stmt_notes s a) (stmts_notes s1 ss) h)
      ∙ stmt_streams is s (less s deep) (lawful-first (stmt_notes s a) (stmts_notes s1 ss) h)

-- A body begins with the streams before it.
round_streams : (o : Owner) (s : Scope) → (enter (round_body o (enter (in_unit o s)))).streams ≡ s.streams
round_streams owner.OfMain s = refl
round_streams owner.OfFunction s = refl
round_streams owner.OfTask s = refl

params_streams : (ns : List Param) (s : Scope) → (after_params s ns).streams ≡ s.streams
params_streams [] s = refl
params_streams (n ∷ ns) s = params_streams ns (after_param s n)

pub body_streams : (s : Scope) (f : tree.FunctionTree) → (in_body s f).streams ≡ s.streams
body_streams s f = params_streams (param_list f.params) (programs.in_function s f.name.id) ∙ round_streams (owner_of f.name.id) s

-- Items never take streams away.
pub items_more : (is : List tree.ItemTree) (s : Scope) → s.streams ≤ (after_items s is).streams
items_more [] s = omega arith
items_more (tree.Constant c ∷ is) s = items_more is (after_item s (tree.Constant c))
items_more (tree.Function f ∷ is) s =
    let more = items_more is (after_item s (tree.Function f)) in
    let body = stmts_onward f.body (in_body s f) in
    let begin = body_streams s f in
    omega (arith, more, body.streams, begin)
