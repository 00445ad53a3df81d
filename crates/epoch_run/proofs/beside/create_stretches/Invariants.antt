use Rattle.std.proofs.Common.{◌≡◌, ◌+◌, ◌-◌, ◌≤◌, length}
use Rattle.std.specs.Prelude.{nat_lt}
use Rattle.control_run.specs.Stretches.{remaining}
use Rattle.epoch_run.specs.Standing.{HasCreated}
use Rattle.epoch_run.proofs.beside.create_stretches.Given as goal

abbrev pub invariant-stretches : goal.invariant-stretches
invariant-stretches l = record {
  some : l.left + 1 ≤ l.size.activations;
  created : HasCreated (l.size.activations - l.left) l.fn.control l.control l.fn.next l.next;
  told : l.ended ≡ nat_lt (length (remaining l.fn.control)) (l.size.activations - l.left);
}

abbrev pub decreases-stretches : goal.decreases-stretches
decreases-stretches l = l.left
