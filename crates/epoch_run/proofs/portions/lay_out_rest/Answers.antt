use Rattle.epoch_run.proofs.PortionedOut.{laid_on}
use Rattle.epoch_run.proofs.portions.lay_out_rest.Goals as goal

pub stretches-preserved : goal.stretches-preserved
stretches-preserved c =
    let e = c.in_ok-create_stretch.ensures in
    let was = c.stretches.invariant in
    record {
      laid = record { code = was.laid.code; input = was.laid.input; budgets = was.laid.budgets; are = laid_on was.laid.code was.laid.input was.laid.budgets c.stretches.standing c.create_stretch.new.standing 256 was.laid.are e.created e.laid e.streams e.input };
      keeps = λ code input budgets laid. laid_on code input budgets c.stretches.standing c.create_stretch.new.standing 256 (was.keeps code input budgets laid) e.created e.laid e.streams e.input;
    }

pub returns-clause-laid : goal.returns-clause-laid
returns-clause-laid c = λ code input budgets laid.
    let e = c.in_ok-create_stretch.ensures in
    laid_on code input budgets c.stretches.standing c.create_stretch.new.standing 256 (c.stretches.invariant.keeps code input budgets laid) e.created e.laid e.streams e.input
