use Rattle.std.proofs.Common.{◌≡◌, length}
use Rattle.osview_outcomes.proofs.running.empty_lists.Given as goal

abbrev pub invariant-loop : goal.invariant-loop
invariant-loop l = length l.lists ≡ l.counter
