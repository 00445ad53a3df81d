use Rattle.std.proofs.Common.{◌≡◌, ◌*◌, ◌≤◌, take}
use Rattle.std.specs.Prelude.{sum}
use Rattle.osview_steps.specs.Tallies.{all_steps}
use Rattle.osview_steps.proofs.tally.total.Given as goal

abbrev pub invariant-loop-run : goal.invariant-loop-run
invariant-loop-run l = record {
  so_far : l.total ≡ sum (all_steps (take l.run-index l.runs));
  small : l.total ≤ l.run-index * 18446744073709551615;
}
