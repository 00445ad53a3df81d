use Rattle.std.proofs.Common.{◌≡◌, length}
use Rattle.task_workers_worker.specs.Logs.{holds_up_to}
use Rattle.task_workers_worker.proofs.windows.fill.Given as goal

abbrev pub invariant-loop : goal.invariant-loop
invariant-loop l = (length l.room.items ≡ l.counter) × (holds_up_to l.room ≡ holds_up_to l.fn.room)
