use Rattle.std.proofs.Common.{◌≡◌, ◌+◌}
use Rattle.frame_table.specs.Tokens.{IsSeatOf, view_of}
use Rattle.task_workers_worker.specs.Turns.{Idled}
use Rattle.task_workers_worker.proofs.finding.search.Given as goal

abbrev pub invariant-loop : goal.invariant-loop
invariant-loop l = IsSeatOf l.table l.seat × Idled (view_of l.fn.seat) (view_of l.seat) × ((view_of l.seat).looks ≡ (view_of l.fn.seat).looks + l.counter)
