use Rattle.std.proofs.Common.{◌≡◌, ℕ, get_or, length, take}
use Rattle.std.specs.Prelude.{fold}
use Rattle.osview_steps.specs.Counting.{IsSmall, nothing_counted}
use Rattle.osview_steps.proofs.Counting.{step}
use Rattle.osview_steps.proofs.tally.tallies.Given as goal

-- the activations before this one are counted
abbrev pub invariant-loop-run : goal.invariant-loop-run
invariant-loop-run l = record {
  many : length l.tallies ≡ l.tasks;
  so_far : (t : ℕ) → get_or l.tallies t nothing_counted ≡ fold (step t) nothing_counted (take l.run-index l.runs);
  small : (t : ℕ) → IsSmall l.run-index (get_or l.tallies t nothing_counted);
}
