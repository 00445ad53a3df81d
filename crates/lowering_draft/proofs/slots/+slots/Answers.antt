use Rattle.std.proofs.Common.{◌≤◌, List, drop, length, ap, subst}
use Rattle.std.proofs.Math.ListN.{drop_of_length-le}
use Rattle.lowering_draft.proofs.Sums.{sum_done}
use Rattle.os_ast.specs.Views.{stmts_tree}
use Rattle.os_ast.specs.declared.stmt.Stmt.{Stmt}
use Rattle.lowering_relation.specs.Names.{told_at}
use Rattle.lowering_relation.specs.Programs.{size_by}
use Rattle.window_check_laws.specs.Sums.{stmts_slots}
use Rattle.lowering_draft.proofs.slots.+slots.Goals as goal

pub stmts_slots-returns : goal.stmts_slots-returns
stmts_slots-returns t c =
    let all = c.args.stmts.now in
    let i = c.loop-stmt.stmt-index in
    let slots = λ (ss : List Stmt). stmts_slots c.args.owner (size_by (told_at c.args.told.now.names.now)) (stmts_tree ss) in
    let past : length all ≤ i = subst (λ (ss : List Stmt). length ss ≤ i) c.as_slice-stmt-items.ensures c.loop-stmt-test.false in
    sum_done c.loop-stmt.sum (slots (drop i all)) (slots all) c.loop-stmt.invariant.small (ap slots (drop_of_length-le all past)) c.loop-stmt.invariant.so_far
