use Rattle.std.proofs.Common.{◌<◌, ◌+◌, ◌≡◌, ◌∷◌, length, get_or, drop, map, ap, arith}
use Rattle.os_ast.specs.Views.{item_tree}
use Rattle.window_check.proofs.Bodies.{items_room-first, items_room-rest, items_leveled-first, items_leveled-rest, items_scopes-rest, items_found-rest, items_owner-rest}
use Rattle.window_check_laws.proofs.Trees.{map-drop}
use Rattle.window_check.proofs.functions.items.Goals as goal

pub item-requires-clause-room : goal.item-requires-clause-room
item-requires-clause-room c =
    let is = c.args.items.now in
    let i = c.loop-next.next-index in
    let x = c.next-item.result in
    let h : i < length is = omega (arith, ap length c.as_slice-next-items.ensures) in
    let at : x ≡ get_or is i x = cc in
    items_room-first c.loop-next.scopes _ _ (item_tree x) (map-drop item_tree is i x h at) c.loop-next.invariant.room

pub item-requires-clause-leveled : goal.item-requires-clause-leveled
item-requires-clause-leveled c =
    let is = c.args.items.now in
    let i = c.loop-next.next-index in
    let x = c.next-item.result in
    let h : i < length is = omega (arith, ap length c.as_slice-next-items.ensures) in
    let at : x ≡ get_or is i x = cc in
    items_leveled-first _ _ (item_tree x) (map-drop item_tree is i x h at) c.loop-next.invariant.leveled

pub loop-next-preserved : goal.loop-next-preserved
loop-next-preserved c =
    let is = c.args.items.now in
    let i = c.loop-next.next-index in
    let x = c.next-item.result in
    let h : i < length is = omega (arith, ap length c.as_slice-next-items.ensures) in
    let at : x ≡ get_or is i x = cc in
    let split : map item_tree (drop i is) ≡ item_tree x ∷ map item_tree (drop (i + 1) is) = map-drop item_tree is i x h at in
    let s = c.loop-next.scopes in
    let before = c.loop-next.invariant in
    let step = c.in_ok-item.ensures in
    record {
      room = items_room-rest s c.item.new.scopes _ _ (item_tree x) split before.outside before.room step.scopes;
      outside = items_owner-rest s c.item.new.scopes (item_tree x) before.outside step.scopes;
      leveled = items_leveled-rest _ _ (item_tree x) split before.leveled;
      scopes = items_scopes-rest s c.item.new.scopes _ _ _ (item_tree x) split before.scopes step.scopes;
      found = items_found-rest s c.item.new.scopes c.loop-next.found c.item.new.found _ _ _ (item_tree x) split before.found step.scopes step.found;
    }
