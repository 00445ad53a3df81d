use Rattle.std.proofs.Common.{refl}
use Rattle.epoch_run_in_order.proofs.HeldStreams.{held_of}
use Rattle.epoch_run_in_order.proofs.in_order.InOrder.hold.Goals as goal

pub returns-clause-held : goal.returns-clause-held
returns-clause-held c = λ code all before input budget lawful stands.
    held_of c.in_order_and_in_epochs.ensures.held code all before input budget c.args.self _ _ _ refl c.in_ok-kept.ensures c.take_output-output.ensures lawful stands
