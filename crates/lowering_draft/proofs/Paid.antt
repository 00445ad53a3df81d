-- The slots of bodies are paid by what they declare and by the elements of arrays.
use Rattle.std.proofs.Common.{◌≡◌, ℕ, ◌+◌, ◌≤◌, ◌==◌, Bool, true, false, if◌then◌else◌, List, [], ◌∷◌, ◌++◌, length, ap, refl, arith}
use Rattle.lowering_draft.proofs.TasksInMain.{function_owner, lawful_body, main_owner}
use Rattle.os_ast.specs.Captured.{captured, slots_of}
use Rattle.os_ast.specs.Names.{Scope, enter, in_loop, main_id, typed}
use Rattle.os_ast.specs.Notes.Clauses.{captured_in, clauses_notes, in_task, in_task_body}
use Rattle.os_ast.specs.Notes.Declarators.{after_start, start_notes}
use Rattle.os_ast.specs.Notes.Expressions.{expr_notes, step_notes, value_notes}
use Rattle.os_ast.specs.Notes.Kinds.{Global, Note}
use Rattle.os_ast.specs.Notes.Programs.{after_item, after_items, in_body, in_function, item_notes, items_notes, param_list, params_notes}
use Rattle.os_ast.specs.Notes.Statements.{after_stmt, after_stmts, stmt_notes, stmts_notes}
use Rattle.os_ast.specs.ClauseMembers.{members}
use Rattle.os_ast.specs.Trees as tree
use Rattle.os_ast.specs.declared.names.Owner.{Owner}
use Rattle.os_ast.specs.declared.names.Owner.TheVariants as owner
use Rattle.os_ast.specs.declared.names.Resolved.{Resolved}
use Rattle.lowering_relation.proofs.NoTasks.{items_owner}
use Rattle.lowering_relation.proofs.Sizes.{stmt_sizes, stmts_sizes}
use Rattle.lowering_relation.specs.Names.{told_at}
use Rattle.lowering_relation.specs.Programs.{size_by}
use Rattle.lowering_relation.specs.Tasks.{TaskTree, all_tasks_of, program_tasks, tasks_of}
use Rattle.window_check_laws.proofs.DeclaredSlots.{items_arrays, declarators_paid, start_paid, params_paid, body_arrays}
use Rattle.window_check_laws.proofs.NameCounts.{declared_in, declared_in-append}
use Rattle.window_check_laws.proofs.Summed.{summed-stmt, summed-stmts}
use Rattle.window_check_laws.proofs.Told.{lawful-first, lawful-rest, tells-first, tells-rest}
use Rattle.window_check_laws.specs.Globals.{count_functions}
use Rattle.window_check_laws.specs.Order.{InOrder}
use Rattle.window_check_laws.specs.Sums.{stmt_slots, stmts_slots}
use Rattle.window_check_laws.specs.Told.{AreLawful, Tells}

module _ (rs : List Resolved) (ordered : InOrder rs) where
  abbrev pub size : tree.ExprTree → ℕ
  size = size_by (told_at rs)

  -- the slots that the bodies of tasks declare
  abbrev pub bodies : List TaskTree → ℕ
  bodies [] = 0
  bodies (t ∷ ts) = stmt_slots owner.OfTask size t.body + bodies ts

  bodies-append : (ts us : List TaskTree) → bodies (ts ++ us) ≡ bodies ts + bodies us
  bodies-append [] us = omega arith
  bodies-append (t ∷ ts) us = omega (arith, bodies-append ts us)

  mutual
    stmt_paid : (a : tree.StmtTree) (s : Scope) → AreLawful (stmt_notes s a) → Tells rs (stmt_notes s a) →
        (after_stmt s a).slots + bodies (tasks_of a) + s.arrays ≤ s.slots + declared_in (stmt_notes s a) + (after_stmt s a).arrays
    stmt_paid tree.StmtTree.Empty s lawful tells = omega arith
    stmt_paid (tree.Block ss) s lawful tells = stmts_paid ss (enter s) lawful tells
    stmt_paid (tree.StmtTree.Declare ty ds) s lawful tells = omega (arith, declarators_paid ds (typed ty s))
    stmt_paid (tree.StmtTree.Change c) s lawful tells = omega arith
    stmt_paid (tree.StmtTree.Call f args) s lawful tells = omega arith
    stmt_paid (tree.If c a) s lawful tells =
        let x = expr_notes s c in
        let y = stmt_notes s a in
        omega (arith, stmt_paid a s (lawful-rest x y lawful) (tells-rest rs x y tells), declared_in-append x y)
    stmt_paid (tree.IfElse c a b) s lawful tells =
        let w = expr_notes s c in
        let v = stmt_notes s a in
        let x = w ++ v in
        let y = stmt_notes (after_stmt s a) b in
        omega (
          arith,
          stmt_paid a s (lawful-rest w v (lawful-first x y lawful)) (tells-rest rs w v (tells-first rs x y tells)),
          stmt_paid b (after_stmt s a) (lawful-rest x y lawful) (tells-rest rs x y tells),
          declared_in-append w v,
          declared_in-append x y,
          bodies-append (tasks_of a) (tasks_of b),
        )
    stmt_paid (tree.While c a) s lawful tells =
        let x = expr_notes s c in
        let y = stmt_notes (in_loop s) a in
        omega (arith, stmt_paid a (in_loop s) (lawful-rest x y lawful) (tells-rest rs x y tells), declared_in-append x y)
    stmt_paid (tree.For start test step a) s lawful tells =
        let head = after_start (enter s) start in
        let w = start_notes (enter s) start in
        let v = w ++ value_notes head test in
        let x = v ++ step_notes head step in
        let y = stmt_notes (in_loop head) a in
        omega (
          arith,
          start_paid start (enter s),
          stmt_paid a (in_loop head) (lawful-rest x y lawful) (tells-rest rs x y tells),
          declared_in-append w (value_notes head test),
          declared_in-append v (step_notes head step),
          declared_in-append x y,
        )
    stmt_paid (tree.Break m) s lawful tells = omega arith
    stmt_paid (tree.Continue m) s lawful tells = omega arith
    stmt_paid (tree.Return m e) s lawful tells = omega arith
    stmt_paid (tree.Task m cs a) s lawful tells =
        let ps = members cs in
        let slots = captured_in s.owner (slots_of (captured s.entries ps a)) in
        let inner = in_task_body s ps a in
        let x = clauses_notes s m ps a in
        let y = stmt_notes inner a in
        let l = lawful-rest x y lawful in
        let t = tells-rest rs x y tells in
        let own : inner.owner ≡ owner.OfTask = items_owner ps s (in_task s slots) 0 in
        let same : stmt_slots inner.owner size a ≡ stmt_slots owner.OfTask size a = ap (λ o. stmt_slots o size a) own in
        omega (
          arith,
          summed-stmt size inner a (stmt_sizes rs ordered a inner l t),
          stmt_paid a inner l t,
          same,
          declared_in-append x y,
          items_arrays ps s (in_task s slots) 0,
        )
    stmt_paid (tree.Tick m t arrow e) s lawful tells = omega arith
    stmt_paid (tree.Taskwait m) s lawful tells = omega arith

    stmts_paid : (ss : tree.Stmts) (s : Scope) → AreLawful (stmts_notes s ss) → Tells rs (stmts_notes s ss) →
        (after_stmts s ss).slots + bodies (all_tasks_of ss) + s.arrays ≤ s.slots + declared_in (stmts_notes s ss) + (after_stmts s ss).arrays
    stmts_paid tree.no_stmts s lawful tells = omega arith
    stmts_paid (tree.stmt a rest) s lawful tells =
        let x = stmt_notes s a in
        let y = stmts_notes (after_stmt s a) rest in
        omega (
          arith,
          stmt_paid a s (lawful-first x y lawful) (tells-first rs x y tells),
          stmts_paid rest (after_stmt s a) (lawful-rest x y lawful) (tells-rest rs x y tells),
          declared_in-append x y,
          bodies-append (tasks_of a) (all_tasks_of rest),
        )

  -- functions
  abbrev pub function_slots : (is_main : Bool) → tree.FunctionTree → ℕ
  function_slots true f = 1 + stmts_slots owner.OfMain size f.body
  function_slots false f = length (param_list f.params) + stmts_slots owner.OfFunction size f.body

  abbrev pub functions_slots : List tree.ItemTree → ℕ
  functions_slots [] = 0
  functions_slots (tree.Constant c ∷ is) = functions_slots is
  functions_slots (tree.Function f ∷ is) = function_slots (f.name.id == main_id) f + functions_slots is

  body_paid : (s : Scope) (f : tree.FunctionTree) (o : Owner) → (in_body s f).owner ≡ o → AreLawful (stmts_notes (in_body s f) f.body)
      → Tells rs (stmts_notes (in_body s f) f.body) →
      stmts_slots o size f.body + bodies (all_tasks_of f.body) + s.arrays ≤ declared_in
      (stmts_notes (in_body s f) f.body) + (after_stmts (in_body s f) f.body).arrays
  body_paid s f o own lawful tells =
      omega (
        arith,
        stmts_paid f.body (in_body s f) lawful tells,
        summed-stmts size (in_body s f) f.body (stmts_sizes rs ordered f.body (in_body s f) lawful tells),
        ap (λ w. stmts_slots w size f.body) own,
        body_arrays s f,
      )

  pub items_paid : (is : List tree.ItemTree) (s : Scope) → AreLawful (items_notes s is) → Tells rs (items_notes s is) →
      functions_slots is + bodies (program_tasks is) + s.arrays ≤ declared_in (items_notes s is) + count_functions is + (after_items s is).arrays
  items_paid [] s lawful tells = omega arith
  items_paid (tree.Constant c ∷ is) s lawful tells =
      let i = tree.Constant c in
      let rest = items_notes (after_item s i) is in
      omega (arith, items_paid is (after_item s i) (lawful-rest (item_notes s i) rest lawful) (tells-rest rs (item_notes s i) rest tells))
  items_paid (tree.Function f ∷ is) s lawful tells =
      by_case (f.name.id == main_id) refl
      (items_paid is (after_item s (tree.Function f)) (lawful-rest (item_notes s (tree.Function f)) (items_notes (after_item s (tree.Function f)) is) lawful)
      (tells-rest rs (item_notes s (tree.Function f)) (items_notes (after_item s (tree.Function f)) is) tells))
    where
      i : tree.ItemTree
      i = tree.Function f

      rest : List Note
      rest = items_notes (after_item s i) is

      front : List Note
      front = Global s f.name ∷ params_notes (in_function s f.name.id) (param_list f.params)

      own : List Note
      own = stmts_notes (in_body s f) f.body

      tells_own : Tells rs own
      tells_own = tells-rest rs front own (tells-first rs (item_notes s i) rest tells)

      by_case : (t : Bool) → (f.name.id == main_id) ≡ t →
          functions_slots is + bodies (program_tasks is) + (after_item s i).arrays ≤ declared_in rest + count_functions
          is + (after_items (after_item s i) is).arrays →
          function_slots t f + functions_slots is + bodies (if t then all_tasks_of f.body else program_tasks is) + s.arrays
          ≤ declared_in (item_notes s i ++ rest) + count_functions (i ∷ is) + (after_items s (i ∷ is)).arrays
      by_case true e later =
          omega (
            arith,
            later,
            body_paid s f owner.OfMain (main_owner s f e) (lawful_body s f rest lawful) tells_own,
            declared_in-append (item_notes s i) rest,
            declared_in-append front own,
          )
      by_case false e later =
          omega (
            arith,
            later,
            body_paid s f owner.OfFunction (function_owner s f e) (lawful_body s f rest lawful) tells_own,
            declared_in-append (item_notes s i) rest,
            declared_in-append front own,
            params_paid (param_list f.params) (in_function s f.name.id),
          )
