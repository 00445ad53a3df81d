use Rattle.std.proofs.Common.{◌≡◌, ◌≤◌, length}
use Rattle.flow_core_epochs.specs.Epoch.{open_in}
use Rattle.epoch_run.proofs.unended.with_new.Given as goal

abbrev pub invariant-loop-activation : goal.invariant-loop-activation
invariant-loop-activation l = record {
  past : length l.ends ≤ l.activation;
  same : l.listed ≡ open_in l.ends l.activation;
}
