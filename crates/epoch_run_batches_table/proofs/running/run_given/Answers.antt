use Rattle.std.proofs.Common.{refl, sym, subst}
use Rattle.epoch_run_batches.specs.Workload.{IsWorkload}
use Rattle.epoch_run_batches.proofs.Batches.{serves_from}
use Rattle.epoch_run_batches_table.specs.Running.{run_of}
use Rattle.epoch_run_batches_table.proofs.running.run_given.Goals as goal

pub run_batches_of-requires-clause-workload : goal.run_batches_of-requires-clause-workload
run_batches_of-requires-clause-workload g c κs within =
    let activations = c.args.activations.now in
    let layout = c.args.layout.now in
    let outcome = g.B.Bodies.outcome c.args.bodies.now in
    let takes = g.B.Bodies.takes c.args.bodies.now in
    subst (λ run. IsWorkload run 0 layout outcome takes) (sym c.requires.run)
    (record {
      is_layout = c.requires.layout;
      is_of = c.requires.laid;
      runs = refl;
      serves = serves_from 0 activations outcome takes c.requires.served;
    })
