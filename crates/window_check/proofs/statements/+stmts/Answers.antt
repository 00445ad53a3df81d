use Rattle.std.proofs.Common.{◌≡◌, ◌<◌, ◌++◌, [], arith, rules, length, map, ap, ◌∙◌}
use Rattle.std.specs.Option.{option_map}
use Rattle.std.proofs.lemmas.Result.{on_ok_weaker, IfOk-equal}
use Rattle.os_ast.specs.Notes.Declarators.{after_start, start_notes}
use Rattle.os_ast.specs.Notes.Expressions.{value_notes, step_notes}
use Rattle.os_ast.specs.Notes.Statements.{stmt_notes}
use Rattle.os_ast.specs.Names.{Scope, enter, in_loop}
use Rattle.os_ast.specs.ClauseMembers.{members}
use Rattle.os_ast.specs.Views.{expr_tree, change_tree, start_tree, stmt_tree, stmts_tree, clause_tree}
use Rattle.os_ast.specs.declared.stmt.Stmt.{the_lemmas}
use Rattle.window_check_laws.specs.Room.{stmt_weight}
use Rattle.window_check_laws.proofs.HasRoom.{room_in_for}
use Rattle.window_check.proofs.Restored.{returned_block, returned_for, ended_task}
use Rattle.window_check.proofs.Steps as step
use Rattle.window_check.proofs.Tasks.{room-named, slots-captured, body-slots, few-captured, few-slots, task-scopes, task-found}
use Rattle.window_check_names.specs.Members.{after_names}
use Rattle.window_check.specs.Statements.{in_named_task}
use Rattle.window_check.proofs.statements.+stmts.Goals as goal

pub block-returns-clause-scopes : goal.block-returns-clause-scopes
block-returns-clause-scopes t c =
    let s = c.args.scopes.now in
    c.leave.ensures
    ∙ rw (c.enter-outer.ensures.outer, c.in_ok-stmts.ensures.scopes, c.enter-outer.ensures.scope) (returned_block s (stmts_tree c.args.list.now))

pub for_loop-stmt-requires : goal.for_loop-stmt-requires
for_loop-stmt-requires t c =
    let s = c.args.scopes.now in
    let start = start_tree c.args.head.now.start in
    let head = after_start (enter s) start in
    let scope : c.enter_loop.new.self ≡ in_loop head =
    c.enter_loop.ensures.scope ∙ ap in_loop (c.in_ok-start.ensures.scopes ∙ ap (λ (x : Scope). after_start x start) c.enter-outer.ensures.scope) in
    (search (rules, the_lemmas), rw scope (room_in_for s start (stmt_weight (stmt_tree c.args.body.now)) c.requires))

pub for_loop-returns-clause-scopes : goal.for_loop-returns-clause-scopes
for_loop-returns-clause-scopes t c =
    let s = c.args.scopes.now in
    c.leave.ensures
    ∙ rw (c.enter-outer.ensures.outer, c.in_ok-stmt.ensures.scopes, c.enter_loop.ensures.scope, c.in_ok-start.ensures.scopes, c.enter-outer.ensures.scope)
    (returned_for s (start_tree c.args.head.now.start) (stmt_tree c.args.body.now))

pub for_loop-returns-clause-found : goal.for_loop-returns-clause-found
for_loop-returns-clause-found t c =
    let s = c.args.scopes.now in
    let f = c.args.found.now in
    let start = start_tree c.args.head.now.start in
    let head = after_start (enter s) start in
    let at_start : c.start.new.scopes ≡ head =
    c.in_ok-start.ensures.scopes ∙ ap (λ (x : Scope). after_start x start) c.enter-outer.ensures.scope in
    let at_body : c.enter_loop.new.self ≡ in_loop head = c.enter_loop.ensures.scope ∙ ap in_loop at_start in
    let first = start_notes (enter s) start in
    let second = value_notes head (option_map expr_tree c.args.head.now.test) in
    let third = step_notes head (option_map change_tree c.args.head.now.step) in
    let last = stmt_notes (in_loop head) (stmt_tree c.args.body.now) in
    let one = rw c.enter-outer.ensures.scope at c.in_ok-start.ensures.found in
    let two =
    step.found-two f c.start.new.found c.value.new.found first second one (rw at_start at c.in_ok-value.ensures) in
    let three =
    step.found-two f c.value.new.found c.step.new.found (first ++ second) third two (rw at_start at c.in_ok-step.ensures) in
    step.found-two f c.step.new.found c.stmt.new.found (first ++ second ++ third) last three (rw at_body at c.in_ok-stmt.ensures.found)

pub stmt-block-requires : goal.stmt-block-requires
stmt-block-requires t c =
    let same = step.block-is c.args.stmt.now c.in-Block.list c.in-Block.is in
    (search (rules, the_lemmas), step.room-same c.args.scopes.now (stmt_tree c.args.stmt.now) _ same c.requires)

pub stmt-returns-in-Block-clause-scopes : goal.stmt-returns-in-Block-clause-scopes
stmt-returns-in-Block-clause-scopes t c =
    rw (step.block-is c.args.stmt.now c.in-Block.list c.in-Block.is) c.block.ensures.scopes

pub stmt-returns-in-Block-clause-found : goal.stmt-returns-in-Block-clause-found
stmt-returns-in-Block-clause-found t c =
    rw (step.block-is c.args.stmt.now c.in-Block.list c.in-Block.is) c.block.ensures.found

pub stmts-stmt-requires : goal.stmts-stmt-requires
stmts-stmt-requires t c =
    let same = c.as_slice-next-items.ensures in (
      search (rules, the_lemmas),
      step.room-next c.loop-next.scopes c.args.stmts.now c.loop-next.next-index c.next-item.result (omega (arith, ap length same)) (rw same at c.next-item.is) c.loop-next.invariant.room,
    )

pub stmts-loop-next-preserved : goal.stmts-loop-next-preserved
stmts-loop-next-preserved t c =
    let same = c.as_slice-next-items.ensures in
    let h : c.loop-next.next-index < length c.args.stmts.now = omega (arith, ap length same) in
    let is = rw same at c.next-item.is in
    let s = c.loop-next.scopes in
    record {
      room = step.room-rest s c.stmt.new.scopes c.args.stmts.now c.loop-next.next-index c.next-item.result h is c.in_ok-stmt.ensures.scopes c.loop-next.invariant.room;
      scopes = step.scopes-rest s c.stmt.new.scopes _ c.args.stmts.now c.loop-next.next-index c.next-item.result h is c.in_ok-stmt.ensures.scopes c.loop-next.invariant.scopes;
      found = step.found-rest c.loop-next.found c.stmt.new.found _ s c.stmt.new.scopes c.args.stmts.now c.loop-next.next-index c.next-item.result h is c.in_ok-stmt.ensures.scopes c.in_ok-stmt.ensures.found c.loop-next.invariant.found;
    }

pub stmt-stmt-requires : goal.stmt-stmt-requires
stmt-stmt-requires t c =
    (search (rules, the_lemmas), step.room-first c.args.scopes.now c.args.stmt.now c.in-If.condition c.in-If.first c.in-If.second c.deref.result.now c.in-If.is c.deref.ensures c.requires)

pub stmt-otherwise-requires : goal.stmt-otherwise-requires
stmt-otherwise-requires t c = (
  search (rules, the_lemmas),
  step.room-other c.args.scopes.now c.stmt.new.scopes c.args.stmt.now c.in-If.condition c.in-If.first c.in-If.second c.deref.result.now c.in-If.is c.deref.ensures c.in_ok-stmt-in-If.ensures.scopes c.requires,
)

pub stmt-repeated-requires : goal.stmt-repeated-requires
stmt-repeated-requires t c =
    let same =
    step.while-is c.args.stmt.now c.in-While.condition c.in-While.body c.deref-in-While.result.now c.in-While.is c.deref-in-While.ensures in
    (search (rules, the_lemmas), step.room-same c.args.scopes.now (stmt_tree c.args.stmt.now) _ same c.requires)

pub stmt-returns-in_ok-stmt-in-If-clause-found : goal.stmt-returns-in_ok-stmt-in-If-clause-found
stmt-returns-in_ok-stmt-in-If-clause-found t c =
    on_ok_weaker c.otherwise.result
    (step.found-if c.args.found.now c.expr.new.found c.stmt.new.found c.otherwise.new.found c.args.scopes.now c.stmt.new.scopes c.args.stmt.now c.in-If.condition c.in-If.first c.in-If.second c.deref.result.now c.in-If.is c.deref.ensures c.in_ok-stmt-in-If.ensures.scopes c.in_ok-expr-in-If.ensures c.in_ok-stmt-in-If.ensures.found)
    c.otherwise.ensures.found

pub stmt-returns-in_ok-expr-in-While-clause-found : goal.stmt-returns-in_ok-expr-in-While-clause-found
stmt-returns-in_ok-expr-in-While-clause-found t c =
    on_ok_weaker c.repeated.result
    (step.found-while c.args.found.now c.expr-in-While.new.found c.repeated.new.found c.args.scopes.now c.args.stmt.now c.in-While.condition c.in-While.body c.deref-in-While.result.now c.in-While.is c.deref-in-While.ensures c.in_ok-expr-in-While.ensures)
    c.repeated.ensures.found

pub body-stmt-requires : goal.body-stmt-requires
body-stmt-requires t c =
    let scope : c.declare_items.new.scopes ≡ in_named_task c.args.scopes.now c.args.captured c.args.items.now =
    c.in_ok-declare_items.ensures ∙ ap (λ (x : Scope). after_names x c.args.items.now) c.begin_task-around.ensures.scope in
    (search (rules, the_lemmas), rw scope c.requires.room)

pub body-returns-clause-scopes : goal.body-returns-clause-scopes
body-returns-clause-scopes t c =
    let scope : c.declare_items.new.scopes ≡ in_named_task c.args.scopes.now c.args.captured c.args.items.now =
    c.in_ok-declare_items.ensures ∙ ap (λ (x : Scope). after_names x c.args.items.now) c.begin_task-around.ensures.scope in
    c.end.ensures
    ∙ rw (c.begin_task-around.ensures.around, c.in_ok-stmt.ensures.scopes, scope)
    (ended_task c.args.scopes.now c.args.captured c.args.items.now (stmt_tree c.args.body.now))

pub task-captured-requires : goal.task-captured-requires
task-captured-requires t c =
    let s = c.args.scopes.now in
    let ps = members (map clause_tree c.args.site.now.clauses) in
    let w = stmt_weight (stmt_tree c.args.site.now.body) in (
      search (rules, the_lemmas),
      (
        room-named s [] c.in_ok-clauses.field-0 ps c.into_parts-items.result.0 w c.in_ok-clauses.ensures.listed c.into_parts-items.ensures.items (omega arith) c.requires,
        omega (arith, c.requires.depth),
      ),
    )

pub task-body-requires : goal.task-body-requires
task-body-requires t c =
    let s = c.args.scopes.now in
    let ps = members (map clause_tree c.args.site.now.clauses) in
    let a = stmt_tree c.args.site.now.body in
    let l = c.in_ok-clauses.field-0 in
    let items = c.into_parts-items.result.0 in
    let g = c.clauses.new.found in
    let given =
    slots-captured g s l ps a _ c.in_ok-captured.captured c.into_parts-items.result.1 items c.requires c.in_ok-clauses.ensures.listed c.into_parts-items.ensures.items c.into_parts-items.ensures.captured c.in_ok-captured.ensures.captured in
    let slots = c.in_ok-slots.slots in
    let of = body-slots g s c.captured.new.scopes c.owner-2.result ps a slots c.in_ok-captured.captured c.in_ok-captured.ensures.scopes c.owner-2.ensures given c.in_ok-slots.ensures in
    let few = few-captured s ps a slots of in (
      search (rules, the_lemmas),
      rw c.in_ok-captured.ensures.scopes (
        room-named s slots l ps items (stmt_weight a) c.in_ok-clauses.ensures.listed c.into_parts-items.ensures.items few c.requires,
        (omega (arith, c.requires.depth), few-slots s _ (length slots) few c.requires),
      ),
    )

pub task-returns-clause-scopes : goal.task-returns-clause-scopes
task-returns-clause-scopes t c =
    let s = c.args.scopes.now in
    let ps = members (map clause_tree c.args.site.now.clauses) in
    let a = stmt_tree c.args.site.now.body in
    let l = c.in_ok-clauses.field-0 in
    let items = c.into_parts-items.result.0 in
    let g = c.clauses.new.found in
    let given =
    slots-captured g s l ps a _ c.in_ok-captured.captured c.into_parts-items.result.1 items c.requires c.in_ok-clauses.ensures.listed c.into_parts-items.ensures.items c.into_parts-items.ensures.captured c.in_ok-captured.ensures.captured in
    let slots = c.in_ok-slots.slots in
    let of = body-slots g s c.captured.new.scopes c.owner-2.result ps a slots c.in_ok-captured.captured c.in_ok-captured.ensures.scopes c.owner-2.ensures given c.in_ok-slots.ensures in
    IfOk-equal c.body.result _ _ _ c.body.ensures.scopes
    (task-scopes s c.captured.new.scopes l ps a slots items c.in_ok-captured.ensures.scopes c.in_ok-clauses.ensures.listed c.into_parts-items.ensures.items of)

pub task-returns-clause-found : goal.task-returns-clause-found
task-returns-clause-found t c =
    let s = c.args.scopes.now in
    let ps = members (map clause_tree c.args.site.now.clauses) in
    let a = stmt_tree c.args.site.now.body in
    let l = c.in_ok-clauses.field-0 in
    let items = c.into_parts-items.result.0 in
    let g = c.clauses.new.found in
    let given =
    slots-captured g s l ps a _ c.in_ok-captured.captured c.into_parts-items.result.1 items c.requires c.in_ok-clauses.ensures.listed c.into_parts-items.ensures.items c.into_parts-items.ensures.captured c.in_ok-captured.ensures.captured in
    let slots = c.in_ok-slots.slots in
    let of = body-slots g s c.captured.new.scopes c.owner-2.result ps a slots c.in_ok-captured.captured c.in_ok-captured.ensures.scopes c.owner-2.ensures given c.in_ok-slots.ensures in
    IfOk-equal c.body.result _ _ _ c.body.ensures.found
    (task-found c.args.found.now g c.task.new.self s c.captured.new.scopes c.args.site.now.mark c.owner.result c.len.result l ps a
    c.in_ok-captured.captured slots items
    c.in_ok-captured.ensures.scopes c.owner.ensures c.in_ok-clauses.ensures.listed c.into_parts-items.ensures.items c.len.ensures
    given of c.in_ok-clauses.ensures.found c.in_ok-task.ensures)
