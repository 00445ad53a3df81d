use Rattle.std.proofs.Common.{ap, arith, length}
use Rattle.control_run.specs.Stretches.{RunSoFar, created_so_far, whole}
use Rattle.epoch_run.proofs.PortionedOut.{none_laid_out}
use Rattle.epoch_run.proofs.portioning.create_anew.Goals as goal

pub lay_out_first-requires : goal.lay_out_first-requires
lay_out_first-requires c = record {
  laid = record {
    code = c.args.code.now;
    input = c.args.input.now;
    budgets = c.args.budgets;
    are = none_laid_out c.args.code.now c.args.input.now c.args.budgets c.in_ok-control.control c.in_ok-layout.layout c.in_ok-control.ensures c.args.code.now.valid.sites.streams_enough
        c.in_ok-layout.ensures.empty c.in_ok-layout.ensures.streams c.in_ok-layout.ensures.input;
  };
  none = ap (λ (r : RunSoFar). length (created_so_far r)) c.in_ok-control.ensures;
  within = let l = ap (λ (r : RunSoFar). length (whole r).activations) c.in_ok-control.ensures in let w = c.requires.within in omega (arith, l, w);
}

pub returns-clause-laid : goal.returns-clause-laid
returns-clause-laid c =
    c.in_ok-lay_out_first.ensures.laid c.args.code.now c.args.input.now c.args.budgets
    (none_laid_out c.args.code.now c.args.input.now c.args.budgets c.in_ok-control.control c.in_ok-layout.layout c.in_ok-control.ensures c.args.code.now.valid.sites.streams_enough
    c.in_ok-layout.ensures.empty c.in_ok-layout.ensures.streams c.in_ok-layout.ensures.input)
