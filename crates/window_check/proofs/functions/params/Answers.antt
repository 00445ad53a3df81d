use Rattle.std.proofs.Common.{arith}
use Rattle.window_check.proofs.Loops.{params_room-next, params_scopes-next, params_found-next}
use Rattle.window_check.proofs.functions.params.Goals as goal

pub loop-next-preserved : goal.loop-next-preserved
loop-next-preserved c =
    let s = c.loop-next.scopes in
    let ns = c.args.list.now in
    let i = c.loop-next.next-index in
    let before = c.loop-next.invariant in
    let step = c.in_ok-param.ensures in
    record {
      room = params_room-next s c.param.new.scopes ns i _ (omega arith) before.room step.scopes;
      scopes = params_scopes-next s c.param.new.scopes _ ns i _ (omega arith) before.scopes step.scopes;
      found = params_found-next s c.param.new.scopes c.loop-next.found c.param.new.found _ ns i _ (omega arith) before.found step.scopes step.found;
    }
