use Rattle.std.proofs.Common.{arith}
use Rattle.epoch_run.proofs.PortionedOut.{grows_by, laid_on, same_whole}
use Rattle.epoch_run.proofs.portioning.lay_out_first.Goals as goal

pub stretches-preserved : goal.stretches-preserved
stretches-preserved c =
    let e = c.in_ok-create_stretch.ensures in
    let was = c.stretches.invariant in
    let n = c.stretch_of-next.result in
    let after = c.create_stretch.new.standing in
    let few = c.stretch_of-next.ensures.few in
    let counted = was.counted in
    let within = was.within in
    let grew = grows_by n c.stretches.standing.control after.control after.activations e.created (omega (arith, counted, within, few)) in
    let same = same_whole n c.stretches.standing.control after.control after.activations e.created in
    record {
      laid = record { code = was.laid.code; input = was.laid.input; budgets = was.laid.budgets; are = laid_on was.laid.code was.laid.input was.laid.budgets c.stretches.standing after n was.laid.are e.created e.laid e.streams e.input };
      keeps = λ code input budgets laid. laid_on code input budgets c.stretches.standing after n (was.keeps code input budgets laid) e.created e.laid e.streams e.input;
      counted = omega (arith, grew, counted, few);
      within = omega (arith, same, within);
    }
