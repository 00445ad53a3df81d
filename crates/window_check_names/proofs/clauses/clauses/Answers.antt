use Rattle.std.proofs.Common.{List, ◌+◌, arith, drop, map, length, length-append, ap}
use Rattle.os_ast.specs.ClauseMembers.{ClauseMember, members, clause_members}
use Rattle.os_ast.specs.Views.{clause_kind_tree, clause_tree}
use Rattle.window_check_names.specs.Members.{ListedMembers}
use Rattle.window_check_names.proofs.Lists.{items-members, found-members, listed-members}
use Rattle.window_check_laws.proofs.Trees.{members-drop}
use Rattle.window_check_names.proofs.clauses.clauses.Goals as goal

pub loop-next-preserved : goal.loop-next-preserved
loop-next-preserved c =
    let split = members-drop c.args.clauses.now c.loop-next.next-index c.next-item.result (omega (arith, ap length c.as_slice-next-items.ensures)) (rw c.as_slice-next-items.ensures at c.next-item.is) in
    let s = c.args.scopes.now in
    let l = c.loop-next.listed in
    let here = clause_members (clause_kind_tree c.next-item.result.kind) in
    let rest = members (map clause_tree (drop (c.loop-next.next-index + 1) c.args.clauses.now)) in
    record {
      found = found-members s c.loop-next.found c.clause.new.found l c.clause.new.listed here rest _ _ split c.in_ok-clause.ensures.found c.in_ok-clause.ensures.listed c.loop-next.invariant.found;
      listed = listed-members s l c.clause.new.listed here rest _ _ split c.in_ok-clause.ensures.listed c.loop-next.invariant.listed;
      count = omega (
        arith,
        items-members s l here,
        ap (λ (l : ListedMembers). length l.items) c.in_ok-clause.ensures.listed,
        simp length-append at (ap (λ (ps : List ClauseMember). length ps) split),
      );
    }
