use Rattle.std.proofs.Common.{◌≡◌, ◌≤◌, drop, length, map}
use Rattle.stream_match.specs.Kept.{kept_of}
use Rattle.epoch_run_in_order.specs.Behind.{with_all_kept}
use Rattle.epoch_run_in_order.proofs.streams_behind.put_all.Given as goal

abbrev pub invariant-putting : goal.invariant-putting
invariant-putting l = record {
  few : l.left ≤ length l.kept;
  put : l.elements ≡ with_all_kept l.firsts l.initial.elements (map kept_of (drop l.left l.kept));
}

abbrev pub decreases-putting : goal.decreases-putting
decreases-putting l = l.left
