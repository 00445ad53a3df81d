-- The units of a lawful program have few slots in all: each is paid by what is declared, by a name that is used, or by
-- an element of an array.
use Rattle.std.proofs.Common.{◌≡◌, ◌≤◌, ℕ, ◌+◌, List, [], ◌∷◌, ◌++◌, length, refl, ap, sym, ◌∙◌, arith}
use Rattle.std.proofs.lemmas.List.{length-map}
use Rattle.os_ast.specs.Captured.{captured, slots_of}
use Rattle.os_ast.specs.Marks.{HasPlaces}
use Rattle.os_ast.specs.Names.{Scope, enter, in_loop, typed}
use Rattle.os_ast.specs.Notes.Clauses.{captured_in, clauses_notes, in_task, in_task_body}
use Rattle.os_ast.specs.Notes.Declarators.{after_start, start_notes}
use Rattle.os_ast.specs.Notes.Expressions.{expr_notes, step_notes, value_notes}
use Rattle.os_ast.specs.Notes.Kinds.{Global, Note}
use Rattle.os_ast.specs.Notes.Programs.{after_item, after_items, file, in_body, in_function, item_notes, items_notes, owner_of, param_list, params_notes}
use Rattle.os_ast.specs.Notes.Statements.{after_stmt, after_stmts, stmt_notes, stmts_notes}
use Rattle.os_ast.specs.ClauseMembers.{members}
use Rattle.os_ast.specs.Spelling.{kind_of, symbols, spell}
use Rattle.os_ast.specs.Trees as tree
use Rattle.os_ast.specs.Violations.{violations}
use Rattle.os_ast.specs.declared.names.Owner.{Owner}
use Rattle.os_ast.specs.declared.names.Owner.TheVariants as owner
use Rattle.window_check_laws.proofs.CaughtFew.{caught_few}
use Rattle.window_check_laws.proofs.HasRoom.{owner_item, room_enter, room_for_body, room_in_for, room_in_loop, room_item, room_less, room_stmt}
use Rattle.window_check_laws.proofs.NameCounts.{declared_in, declared_in-append, names_few, used_in, used_in-append}
use Rattle.window_check_laws.proofs.Owners.{owner_items}
use Rattle.window_check_laws.proofs.DeclaredSlots.{body_arrays, declarators_paid, items_arrays, params_paid, start_paid}
use Rattle.window_check_laws.proofs.Owners.{owner_start, owner_stmt}
use Rattle.window_check_laws.proofs.Summed.{slots-in_body, slots-in_task}
use Rattle.window_check_laws.proofs.Told.{lawful-program}
use Rattle.window_check_laws.proofs.Weights.{functions_few, room}
use Rattle.window_check_laws.proofs.Within.{within-items_of_file}
use Rattle.window_check_laws.specs.Globals.{count_functions}
use Rattle.window_check_laws.specs.Room.{HasRoom, item_weight, items_weight, stmt_weight, stmts_weight}
use Rattle.window_check_laws.specs.Sums.{slots_round}
use Rattle.window_check_laws.specs.UnitSlots.{tasks_slots, all_tasks_slots, items_slots, program_slots}

-- the names that tasks of this owner's body may capture
abbrev used_for : Owner → List Note → ℕ
used_for owner.OfMain ns = used_in ns
used_for owner.OfFunction ns = 0
used_for owner.OfTask ns = 0

used_for-append : (o : Owner) (xs ys : List Note) → used_for o (xs ++ ys) ≡ used_for o xs + used_for o ys
used_for-append owner.OfMain xs ys = used_in-append xs ys
used_for-append owner.OfFunction xs ys = refl
used_for-append owner.OfTask xs ys = refl

used_for-all : (o : Owner) (ns : List Note) → used_for o ns ≤ used_in ns
used_for-all owner.OfMain ns = omega arith
used_for-all owner.OfFunction ns = omega arith
used_for-all owner.OfTask ns = omega arith

-- what is said of a part that leads from one scope to another
abbrev IsPaid : Scope → Scope → (tasks : ℕ) → List Note → Type 0
IsPaid s t tasks ns = t.slots + tasks + s.arrays ≤ s.slots + declared_in ns + used_for s.owner ns + t.arrays

-- Room is asked for in `main` alone.
abbrev RoomInMain : Scope → ℕ → Type 0
RoomInMain s n = s.owner ≡ owner.OfMain → HasRoom s n

captured-paid : (o : Owner) (caught : List ℕ) (x y : List Note) → (o ≡ owner.OfMain → length caught ≤ used_in x + used_in y) →
    length (captured_in o caught) ≤ used_for o (x ++ y)
captured-paid owner.OfMain caught x y h = omega (arith, h refl, used_in-append x y)
captured-paid owner.OfFunction caught x y h = omega arith
captured-paid owner.OfTask caught x y h = omega arith

mutual
  stmt-paid : (a : tree.StmtTree) (s : Scope) → RoomInMain s (stmt_weight a) → IsPaid s (after_stmt s a) (tasks_slots s a) (stmt_notes s a)
  stmt-paid tree.StmtTree.Empty s room = omega arith
  stmt-paid (tree.Block ss) s room = stmts-paid ss (enter s) (λ main. room_enter s (stmts_weight ss) (room main))
  stmt-paid (tree.StmtTree.Declare t ds) s room = omega (arith, declarators_paid ds (typed t s))
  stmt-paid (tree.StmtTree.Change c) s room = omega arith
  stmt-paid (tree.StmtTree.Call f args) s room = omega arith
  stmt-paid (tree.If c a) s room =
      let x = expr_notes s c in
      let y = stmt_notes s a in
      omega (arith, stmt-paid a s room, declared_in-append x y, used_for-append s.owner x y)
  stmt-paid (tree.IfElse c a b) s room =
      let after = after_stmt s a in
      let w = expr_notes s c in
      let v = stmt_notes s a in
      let y = stmt_notes after b in
      let own : after.owner ≡ s.owner = owner_stmt s a in
      let same : used_for after.owner y ≡ used_for s.owner y = ap (λ (o : Owner). used_for o y) own in
      let one = stmt-paid a s (λ main. room_less s (stmt_weight a + stmt_weight b) (stmt_weight a) (room main) (omega arith)) in
      let two = stmt-paid b after (λ main. room_stmt s a (stmt_weight b) (room (sym own ∙ main))) in
      omega (
        arith,
        one,
        two,
        same,
        declared_in-append w v,
        declared_in-append (w ++ v) y,
        used_for-append s.owner w v,
        used_for-append s.owner (w ++ v) y,
      )
  stmt-paid (tree.While c a) s room =
      let x = expr_notes s c in
      let y = stmt_notes (in_loop s) a in
      omega (arith, stmt-paid a (in_loop s) (λ main. room_in_loop s (stmt_weight a) (room main)), declared_in-append x y, used_for-append s.owner x y)
  stmt-paid (tree.For start test step a) s room =
      let head = after_start (enter s) start in
      let w = start_notes (enter s) start in
      let v = w ++ value_notes head test in
      let x = v ++ step_notes head step in
      let y = stmt_notes (in_loop head) a in
      let own : head.owner ≡ s.owner = owner_start (enter s) start in
      let same : used_for head.owner y ≡ used_for s.owner y = ap (λ (o : Owner). used_for o y) own in
      omega (
        arith,
        start_paid start (enter s),
        stmt-paid a (in_loop head) (λ main. room_in_for s start (stmt_weight a) (room (sym own ∙ main))),
        same,
        declared_in-append w (value_notes head test),
        declared_in-append v (step_notes head step),
        declared_in-append x y,
        used_for-append s.owner x y,
      )
  stmt-paid (tree.Break m) s room = omega arith
  stmt-paid (tree.Continue m) s room = omega arith
  stmt-paid (tree.Return m e) s room = omega arith
  stmt-paid (tree.Task m cs a) s room =
      let ps = members cs in
      let caught = slots_of (captured s.entries ps a) in
      let round = in_task s (captured_in s.owner caught) in
      let inner = in_task_body s ps a in
      let x = clauses_notes s m ps a in
      let y = stmt_notes inner a in
      let own : inner.owner ≡ owner.OfTask = owner_items s round 0 ps in
      let none : used_for inner.owner y ≡ 0 = ap (λ (o : Owner). used_for o y) own in
      omega (
        arith,
        stmt-paid a inner (λ main. let z : owner.OfTask ≡ owner.OfMain = sym own ∙ main in absurd (cc)),
        none,
        slots-in_task s ps a,
        captured-paid s.owner caught x y (λ main. caught_few s (stmt_weight (tree.Task m cs a)) m ps a (room main)),
        declared_in-append x y,
        items_arrays ps s round 0,
      )
  stmt-paid (tree.Tick m t arrow e) s room = omega arith
  stmt-paid (tree.Taskwait m) s room = omega arith

  stmts-paid : (ss : tree.Stmts) (s : Scope) → RoomInMain s (stmts_weight ss) → IsPaid s (after_stmts s ss) (all_tasks_slots s ss) (stmts_notes s ss)
  stmts-paid tree.no_stmts s room = omega arith
  stmts-paid (tree.stmt a rest) s room =
      let after = after_stmt s a in
      let x = stmt_notes s a in
      let y = stmts_notes after rest in
      let own : after.owner ≡ s.owner = owner_stmt s a in
      let same : used_for after.owner y ≡ used_for s.owner y = ap (λ (o : Owner). used_for o y) own in
      let one = stmt-paid a s (λ main. room_less s (stmt_weight a + stmts_weight rest) (stmt_weight a) (room main) (omega arith)) in
      let two = stmts-paid rest after (λ main. room_stmt s a (stmts_weight rest) (room (sym own ∙ main))) in
      omega (arith, one, two, same, declared_in-append x y, used_for-append s.owner x y)

round-few : (o : Owner) → slots_round o ≤ 1
round-few owner.OfMain = omega arith
round-few owner.OfFunction = omega arith
round-few owner.OfTask = omega arith

-- a function has one more than its parameters at most, before its body
items-paid : (is : List tree.ItemTree) (s : Scope) → s.owner ≡ owner.OfFunction → HasRoom s (items_weight is) →
    items_slots s is + s.arrays ≤ declared_in (items_notes s is) + used_in (items_notes s is) + count_functions is + (after_items s is).arrays
items-paid [] s own room = omega arith
items-paid (tree.Constant c ∷ is) s own room =
    let i = tree.Constant c in
    let x = item_notes s i in
    let y = items_notes (after_item s i) is in
    omega (
      arith,
      items-paid is (after_item s i) (owner_item s i ∙ own) (room_item s i (items_weight is) own room),
      declared_in-append x y,
      used_in-append x y,
    )
items-paid (tree.Function f ∷ is) s own room =
    let i = tree.Function f in
    let ns = param_list f.params in
    let inside = in_body s f in
    let given = params_notes (in_function s f.name.id) ns in
    let front = Global s f.name ∷ given in
    let body = stmts_notes inside f.body in
    let x = item_notes s i in
    let y = items_notes (after_item s i) is in
    omega (
      arith,
      items-paid is (after_item s i) (owner_item s i ∙ own) (room_item s i (items_weight is) own room),
      stmts-paid f.body inside (λ main. room_for_body s f own (room_less s (item_weight i + items_weight is) (item_weight i) room (omega arith))),
      slots-in_body s f,
      round-few (owner_of f.name.id),
      params_paid ns (in_function s f.name.id),
      body_arrays s f,
      used_for-all inside.owner body,
      declared_in-append front body,
      used_in-append front body,
      declared_in-append x y,
      used_in-append x y,
    )

pub units-few : (p : tree.ProgramTree) → HasPlaces p → violations p ≡ [] → length (spell p) ≤ 262144 → program_slots p ≤ 2097152
units-few p places none few =
    let lawful = lawful-program p none in
    omega (
      arith,
      items-paid p file refl (room p few),
      names_few p places lawful,
      functions_few p,
      length-map (symbols p) kind_of,
      (within-items_of_file file p (record { streams = omega arith; arrays = omega arith }) lawful).arrays,
      few,
    )
