use Rattle.std.proofs.Common.{◌+◌, arith, length, ap, drop, map}
use Rattle.os_ast.specs.ClauseMembers.{Item}
use Rattle.os_ast.specs.Views.{clause_item_tree}
use Rattle.window_check_names.specs.Members.{ListedMembers}
use Rattle.window_check_names.proofs.Lists.{items-drop, items-member, found-member, listed-member}
use Rattle.window_check_names.proofs.clauses.items.Goals as goal

pub loop-next-preserved : goal.loop-next-preserved
loop-next-preserved c =
    let split = items-drop c.args.direction c.args.items.now c.loop-next.next-index c.next-item.result (omega (arith, ap length c.as_slice-next-items.ensures)) (rw c.as_slice-next-items.ensures at c.next-item.is) in
    let s = c.args.scopes.now in
    let l = c.loop-next.listed in
    let part = Item c.args.direction (clause_item_tree c.next-item.result) in
    let rest = map (Item c.args.direction) (map clause_item_tree (drop (c.loop-next.next-index + 1) c.args.items.now)) in
    record {
      found = found-member s c.loop-next.found c.item.new.found l c.item.new.listed part rest _ _ split c.in_ok-item.ensures.found c.in_ok-item.ensures.listed c.loop-next.invariant.found;
      listed = listed-member s l c.item.new.listed part rest _ _ split c.in_ok-item.ensures.listed c.loop-next.invariant.listed;
      count = omega (
        arith,
        items-member s l part,
        ap (λ (l : ListedMembers). length l.items) c.in_ok-item.ensures.listed,
      );
    }
