-- What tasks capture is no more than the names that they use.
use Rattle.std.proofs.Common.{◌≡◌, ◌∙◌, ℕ, ◌+◌, ◌≤◌, List, [], ◌∷◌, ◌++◌, length, ap, sym, refl, arith}
use Rattle.os_ast.specs.Captured.{captured, slots_of}
use Rattle.os_ast.specs.Names.{Scope, enter, in_loop, typed}
use Rattle.os_ast.specs.Notes.Clauses.{captured_in, clauses_notes, in_task, in_task_body, members_notes}
use Rattle.os_ast.specs.Notes.Declarators.{after_start, declarators_notes, start_notes}
use Rattle.os_ast.specs.Notes.Expressions.{expr_notes, step_notes, value_notes}
use Rattle.os_ast.specs.Notes.Kinds.{Global, Note, Task}
use Rattle.os_ast.specs.Notes.Programs.{after_item, in_body, in_function, item_notes, items_notes, param_list, params_notes, after_param}
use Rattle.os_ast.specs.Notes.Statements.{after_stmt, stmt_notes, stmts_notes}
use Rattle.os_ast.specs.ClauseMembers.{count_items, members}
use Rattle.os_ast.specs.Trees as tree
use Rattle.os_ast.specs.Violations.{captures, main_task}
use Rattle.os_ast.specs.declared.expr.Mark.{Mark}
use Rattle.os_ast.specs.declared.names.Owner.{Owner}
use Rattle.os_ast.specs.declared.names.Owner.TheVariants as owner
use Rattle.os_ast.specs.declared.program.Param.{Param}
use Rattle.lowering_relation.proofs.NoTasks.{IsOther, captures_both, items_owner, none_args, none_both, none_change, none_declarators, none_expr, none_parts, none_start, none_step, none_stmt, none_value}
use Rattle.window_check_laws.proofs.CaughtFew.{caught_few}
use Rattle.window_check_laws.proofs.HasRoom.{owner_item, room_enter, room_for_body, room_in_for, room_in_loop, room_item, room_less, room_stmt}
use Rattle.window_check_laws.proofs.NameCounts.{used_in, used_in-append}
use Rattle.window_check_laws.specs.Room.{HasRoom, item_weight, items_weight, stmt_weight, stmts_weight}

-- how many slots are captured in all
abbrev pub total : List (List ℕ) → ℕ
total [] = 0
total (xs ∷ xss) = length xs + total xss

total-append : (xs ys : List (List ℕ)) → total (xs ++ ys) ≡ total xs + total ys
total-append [] ys = omega arith
total-append (x ∷ xs) ys = omega (arith, total-append xs ys)

abbrev ArePaid : List Note → Type 0
ArePaid ns = total (captures ns) ≤ used_in ns

both_paid : (xs ys : List Note) → ArePaid xs → ArePaid ys → ArePaid (xs ++ ys)
both_paid xs ys a b = omega (arith, a, b, ap total (captures_both xs ys), total-append (captures xs) (captures ys), used_in-append xs ys)

none_paid : (ns : List Note) → captures ns ≡ [] → ArePaid ns
none_paid ns none = omega (arith, ap total none)

own_total : (o : Owner) (slots : List ℕ) → total (main_task o slots ++ []) ≤ length slots
own_total owner.OfMain slots = omega arith
own_total owner.OfFunction slots = omega arith
own_total owner.OfTask slots = omega arith

none_tick : (m : Mark) (t : tree.TargetTree) (arrow : Mark) (e : tree.ExprTree) (s : Scope) → captures (stmt_notes s (tree.Tick m t arrow e)) ≡ []
none_tick m (tree.Variable n) arrow e s = none_expr e s
none_tick m (tree.Element n k i) arrow e s = none_both (expr_notes s i) (expr_notes s e) (none_expr i s) (none_expr e s)

mutual
  stmt_uses : (a : tree.StmtTree) (s : Scope) → HasRoom s (stmt_weight a) → ArePaid (stmt_notes s a)
  stmt_uses tree.StmtTree.Empty s room = omega arith
  stmt_uses (tree.Block ss) s room = stmts_use ss (enter s) (room_enter s (stmts_weight ss) room)
  stmt_uses (tree.StmtTree.Declare ty ds) s room = none_paid (declarators_notes (typed ty s) ds) (none_declarators ds (typed ty s))
  stmt_uses (tree.StmtTree.Change c) s room = none_paid (stmt_notes s (tree.StmtTree.Change c)) (none_change c s)
  stmt_uses (tree.StmtTree.Call f args) s room = none_paid (stmt_notes s (tree.StmtTree.Call f args)) (none_args args s)
  stmt_uses (tree.If c a) s room = both_paid (expr_notes s c) (stmt_notes s a) (none_paid (expr_notes s c) (none_expr c s)) (stmt_uses a s room)
  stmt_uses (tree.IfElse c a b) s room =
      both_paid (expr_notes s c ++ stmt_notes s a) (stmt_notes (after_stmt s a) b)
      (both_paid (expr_notes s c) (stmt_notes s a) (none_paid (expr_notes s c) (none_expr c s))
      (stmt_uses a s (room_less s (stmt_weight a + stmt_weight b) (stmt_weight a) room (omega arith))))
      (stmt_uses b (after_stmt s a) (room_stmt s a (stmt_weight b) room))
  stmt_uses (tree.While c a) s room =
      both_paid (expr_notes s c) (stmt_notes (in_loop s) a) (none_paid (expr_notes s c) (none_expr c s))
      (stmt_uses a (in_loop s) (room_in_loop s (stmt_weight a) room))
  stmt_uses (tree.For start test step a) s room =
      let head = after_start (enter s) start in
      let x = start_notes (enter s) start in
      let z = x ++ value_notes head test ++ step_notes head step in
      both_paid z (stmt_notes (in_loop head) a)
      (none_paid z (none_both (x ++ value_notes head test) (step_notes head step)
      (none_both x (value_notes head test) (none_start start (enter s)) (none_value test head)) (none_step step head)))
      (stmt_uses a (in_loop head) (room_in_for s start (stmt_weight a) room))
  stmt_uses (tree.Break m) s room = omega arith
  stmt_uses (tree.Continue m) s room = omega arith
  stmt_uses (tree.Return m e) s room = none_paid (stmt_notes s (tree.Return m e)) (none_expr e s)
  stmt_uses (tree.Task m cs a) s room =
      let ps = members cs in
      let inner = in_task_body s ps a in
      let x = clauses_notes s m ps a in
      let y = stmt_notes inner a in
      let slots = slots_of (captured s.entries ps a) in
      let note = Task s m (count_items ps) (captured s.entries ps a) ∷ [] in
      let task : inner.owner ≡ owner.OfTask = items_owner ps s (in_task s (captured_in s.owner slots)) 0 in
      let other : IsOther inner.owner = λ e. let z : owner.OfTask ≡ owner.OfMain = sym task ∙ e in absurd (cc) in
      let own : captures x ≡ main_task s.owner slots ++ [] = captures_both (members_notes s [] ps) note ∙ ap (λ cs. cs ++ captures note) (none_parts ps s []) in
      omega (
        arith,
        caught_few s (stmt_weight (tree.Task m cs a)) m ps a room,
        ap total (captures_both x y),
        total-append (captures x) (captures y),
        ap total own,
        own_total s.owner slots,
        ap total (none_stmt a inner other),
        used_in-append x y,
      )
  stmt_uses (tree.Tick m t arrow e) s room = none_paid (stmt_notes s (tree.Tick m t arrow e)) (none_tick m t arrow e s)
  stmt_uses (tree.Taskwait m) s room = omega arith

  stmts_use : (ss : tree.Stmts) (s : Scope) → HasRoom s (stmts_weight ss) → ArePaid (stmts_notes s ss)
  stmts_use tree.no_stmts s room = omega arith
  stmts_use (tree.stmt a rest) s room =
      both_paid (stmt_notes s a) (stmts_notes (after_stmt s a) rest)
      (stmt_uses a s (room_less s (stmt_weight a + stmts_weight rest) (stmt_weight a) room (omega arith)))
      (stmts_use rest (after_stmt s a) (room_stmt s a (stmts_weight rest) room))

none_front : (s : Scope) (ns : List Param) → captures (params_notes s ns) ≡ []
none_front s [] = refl
none_front s (n ∷ ns) = none_front (after_param s n) ns

pub items_use : (is : List tree.ItemTree) (s : Scope) → s.owner ≡ owner.OfFunction → HasRoom s (items_weight is) → ArePaid (items_notes s is)
items_use [] s own room = omega arith
items_use (tree.Constant c ∷ is) s own room =
    let i = tree.Constant c in
    both_paid (item_notes s i) (items_notes (after_item s i) is) (omega arith)
    (items_use is (after_item s i) (owner_item s i ∙ own) (room_item s i (items_weight is) own room))
items_use (tree.Function f ∷ is) s own room =
    let i = tree.Function f in
    let front = Global s f.name ∷ params_notes (in_function s f.name.id) (param_list f.params) in
    both_paid (item_notes s i) (items_notes (after_item s i) is)
    (both_paid front (stmts_notes (in_body s f) f.body) (none_paid front (none_front (in_function s f.name.id) (param_list f.params)))
    (stmts_use f.body (in_body s f) (room_for_body s f own (room_less s (item_weight i + items_weight is) (item_weight i) room (omega arith)))))
    (items_use is (after_item s i) (owner_item s i ∙ own) (room_item s i (items_weight is) own room))
