use Rattle.std.proofs.Common.{◌≡◌, ◌∙◌, ◌+◌, ◌-◌, ◌<◌, List, Some, None, length, drop, get_or, option_map, ap, sym, subst, arith}
use Rattle.lowering.proofs.Blocks.{tail_all, tail_next}
use Rattle.lowering.proofs.Loops.{for_made, for_with_step_made}
use Rattle.lowering_draft.specs.Emission.Statements.{stmt_code, tail_code}
use Rattle.os_ast.specs.Trees as tree
use Rattle.os_ast.specs.Views.{change_tree, expr_tree, start_tree, stmt_tree, stmts_tree}
use Rattle.os_ast.specs.declared.stmt.Head.{Head}
use Rattle.os_ast.specs.declared.stmt.Stmt.{Stmt}
use Rattle.lowering_relation.specs.Names.{told_at}
use Rattle.lowering.proofs.statements.+statements.Goals as goal

pub emit_block-loop-stmt-init : goal.emit_block-loop-stmt-init
emit_block-loop-stmt-init t c =
    let count = c.len-behind.ensures in
    record {
      behind = omega (arith, count);
      so_far = tail_all (told_at c.args.told.now.names.now) c.args.stmts.now c.args.exits c.args.next c.args.draft.now
          (λ none. c.if-behind-eq0.false (count ∙ none));
    }

pub emit_block-loop-stmt-preserved : goal.emit_block-loop-stmt-preserved
emit_block-loop-stmt-preserved t c =
    let tells = told_at c.args.told.now.names.now in
    let ss = c.args.stmts.now in
    let i = c.loop-stmt.stmt-index in
    let within : i < length ss = subst (λ (xs : List Stmt). i < length xs) c.as_slice-stmt-items.ensures c.loop-stmt-test.true in
    let is : c.stmt-item.result ≡ get_or ss i c.stmt-item.result =
    subst (λ (xs : List Stmt). c.stmt-item.result ≡ get_or xs i c.stmt-item.result) c.as_slice-stmt-items.ensures c.stmt-item.is in
    let one_less : c.loop-stmt.behind - 1 + (i + 1) ≡ length ss = omega (arith, c.loop-stmt.invariant.behind, within) in
    record {
      behind = one_less;
      so_far = ap (tail_code tells (stmts_tree (drop (i + 1) ss)) c.args.exits c.args.next)
          (c.in_ok-emit_stmt.ensures
          ∙ ap (λ to. stmt_code tells (stmt_tree c.stmt-item.result) c.args.exits to c.loop-stmt.draft) c.next_behind.ensures)
          ∙ sym (tail_next tells ss i (c.loop-stmt.behind - 1) c.stmt-item.result c.args.exits c.args.next c.loop-stmt.draft within is one_less)
          ∙ c.loop-stmt.invariant.so_far;
    }

pub emit_stmt-returns-in_ok-emit_stmt-in-None : goal.emit_stmt-returns-in_ok-emit_stmt-in-None
emit_stmt-returns-in_ok-emit_stmt-in-None t c =
    let tells = told_at c.args.told.now.names.now in
    let head = c.deref-in-For.result.now in
    let body = stmt_tree c.deref-in-None.result.now in
    let step : head.step ≡ None = ap (λ (h : Head). h.step) (c.deref-in-For.ensures ∙ sym c.deref-in-For-2.ensures) ∙ c.in-None.is in
    let is_for : stmt_tree c.args.stmt.now ≡ tree.For (start_tree head.start) (option_map expr_tree head.test) None body =
    ap stmt_tree c.in-For.is
    ∙ ap (λ b. tree.For (start_tree c.in-For.head.value.start) (option_map expr_tree c.in-For.head.value.test) (option_map change_tree c.in-For.head.value.step) (stmt_tree b)) (sym c.deref-in-None.ensures)
    ∙ ap (λ (h : Head). tree.For (start_tree h.start) (option_map expr_tree h.test) (option_map change_tree h.step) body) (sym c.deref-in-For.ensures)
    ∙ ap (λ s. tree.For (start_tree head.start) (option_map expr_tree head.test) (option_map change_tree s) body) step in
    let made = for_made tells (start_tree head.start) (option_map expr_tree head.test) body c.args.exits c.args.next _ _ _ _ _ _
    c.in_ok-end-in-For.ensures.0 c.in_ok-end-in-For.ensures.1 c.in_ok-again-in-For.ensures.0 c.in_ok-again-in-For.ensures.1
    (c.in_ok-emit_stmt-in-None.ensures ∙ ap (λ x. stmt_code tells body x (Some c.in_ok-again-in-For.again) c.begin_for.new.draft) c.in_loop-in-None.ensures) in
    rw (is_for, ← made) c.close-in-None.ensures

pub emit_stmt-returns-in_ok-emit_step-in-Some : goal.emit_stmt-returns-in_ok-emit_step-in-Some
emit_stmt-returns-in_ok-emit_step-in-Some t c =
    let tells = told_at c.args.told.now.names.now in
    let head = c.deref-in-For.result.now in
    let body = stmt_tree c.deref-in-Some.result.now in
    let step : head.step ≡ Some c.in-Some.change = ap (λ (h : Head). h.step) (c.deref-in-For.ensures ∙ sym c.deref-in-For-2.ensures) ∙ c.in-Some.is in
    let is_for : stmt_tree c.args.stmt.now ≡ tree.For (start_tree head.start) (option_map expr_tree head.test) (Some (change_tree c.in-Some.change)) body =
    ap stmt_tree c.in-For.is
    ∙ ap (λ b. tree.For (start_tree c.in-For.head.value.start) (option_map expr_tree c.in-For.head.value.test) (option_map change_tree c.in-For.head.value.step) (stmt_tree b)) (sym c.deref-in-Some.ensures)
    ∙ ap (λ (h : Head). tree.For (start_tree h.start) (option_map expr_tree h.test) (option_map change_tree h.step) body) (sym c.deref-in-For.ensures)
    ∙ ap (λ s. tree.For (start_tree head.start) (option_map expr_tree head.test) (option_map change_tree s) body) step in
    let made = for_with_step_made tells (start_tree head.start) (option_map expr_tree head.test) body c.args.exits c.args.next (change_tree c.in-Some.change) _ _ _ _ _ _ _ _ _
    c.in_ok-end-in-For.ensures.0 c.in_ok-end-in-For.ensures.1 c.in_ok-again-in-For.ensures.0 c.in_ok-again-in-For.ensures.1
    c.in_ok-step-in-Some.ensures.0 c.in_ok-step-in-Some.ensures.1
    (c.in_ok-emit_stmt-in-Some.ensures ∙ ap (λ x. stmt_code tells body x None c.label-in-Some.new.self) c.in_loop-in-Some.ensures)
    c.in_ok-emit_step-in-Some.ensures in
    rw (is_for, ← made) c.close-in-Some.ensures
