use Rattle.std.proofs.Common.{◌≡◌, ◌≤◌, ◌++◌, length}
use Rattle.task_workers_crew.specs.Crew.{lists_of}
use Rattle.task_workers_crew.proofs.running.gather_lists.Given as goal

abbrev pub invariant-loop-crew : goal.invariant-loop-crew
invariant-loop-crew g l = record {
  gathered : l.lists.items ++ lists_of l.crew.items ≡ lists_of l.fn.crew.items;
  room : length l.crew.items ≤ l.lists.spare;
}

abbrev pub decreases-loop-crew : goal.decreases-loop-crew
decreases-loop-crew g l = length l.crew.items
