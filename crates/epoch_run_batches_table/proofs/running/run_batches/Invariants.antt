use Rattle.epoch_run_batches_table.specs.Running.{run_of}
use Rattle.epoch_run_batches_table.proofs.running.run_batches.Given as goal

abbrev pub ghosts-run_given : goal.ghosts-run_given
ghosts-run_given g a = record { run = run_of a.activations.now a.input.now (g.B.Bodies.outcome a.bodies.now) }
