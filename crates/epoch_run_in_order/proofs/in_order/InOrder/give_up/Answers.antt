use Rattle.std.proofs.Common.{◌∙◌, refl}
use Rattle.epoch_run_in_order.proofs.GivenUp.{still_stands}
use Rattle.epoch_run_in_order.proofs.in_order.InOrder.give_up.Goals as goal

pub returns-clause-ready : goal.returns-clause-ready
returns-clause-ready c = λ code ready. record {
  scratch = ready.scratch;
  streams = c.in_ok-give_up.ensures.elements ∙ ready.streams;
  firsts = c.in_ok-give_up.ensures.firsts ∙ ready.firsts;
}

pub returns-clause-stands : goal.returns-clause-stands
returns-clause-stands c = λ code all given input budget is many stands.
    still_stands code all given input budget c.args.layout.now c.as_slice.result.now c.args.self.now _ c.in_ok-give_up.ensures.held c.as_slice.ensures refl is many stands
