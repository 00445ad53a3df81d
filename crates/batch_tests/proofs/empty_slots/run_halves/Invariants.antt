use Rattle.std.proofs.Common.{false}
use Rattle.epoch_run_batches_table.specs.Running.{run_of}
use Rattle.lawful_layouts.specs.Lasts.{last_outcome}
use Rattle.batch_tests.proofs.empty_slots.run_halves.Given as goal

abbrev pub ghosts-halves : goal.ghosts-halves
ghosts-halves a = record { run = run_of a.activations.now a.input.now (last_outcome a.plan.now false) }
