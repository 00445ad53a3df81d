use Rattle.std.proofs.Common.{◌<◌, ◌≡◌, length, get_or, ap, arith}
use Rattle.window_check.proofs.Loops.{declarators_room-first, declarators_room-next, declarators_scopes-next, declarators_found-next}
use Rattle.window_check.proofs.declarators.declarators.Goals as goal

pub loop-next-preserved : goal.loop-next-preserved
loop-next-preserved c =
    let ds = c.args.declarators.now in
    let i = c.loop-next.next-index in
    let d = c.next-item.result in
    let s = c.loop-next.scopes in
    let before = c.loop-next.invariant in
    let step = c.in_ok-declarator.ensures in
    let h : i < length ds = omega (arith, ap length c.as_slice-next-items.ensures) in
    let is : d ≡ get_or ds i d = cc in
    record {
      room = declarators_room-next s c.declarator.new.scopes ds i d h is before.room step.scopes;
      scopes = declarators_scopes-next s c.declarator.new.scopes _ ds i d h is before.scopes step.scopes;
      found = declarators_found-next s c.declarator.new.scopes c.loop-next.found c.declarator.new.found _ ds i d h is before.found step.scopes step.found;
    }

pub declarator-requires : goal.declarator-requires
declarator-requires c =
    let ds = c.args.declarators.now in
    let i = c.loop-next.next-index in
    let d = c.next-item.result in
    let h : i < length ds = omega (arith, ap length c.as_slice-next-items.ensures) in
    let is : d ≡ get_or ds i d = cc in
    declarators_room-first c.loop-next.scopes ds i d h is c.loop-next.invariant.room
