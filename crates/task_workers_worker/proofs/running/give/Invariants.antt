use Rattle.std.proofs.Common.{◌≡◌, ◌≤◌, Some}
use Rattle.flow_core_laws.specs.Plans.{frame_at}
use Rattle.frame_table.specs.Seats.{at}
use Rattle.frame_table.specs.Tokens.{IsSeatOf, view_of, known_of}
use Rattle.steal_pool.specs.Hands.{pushed_by, asks_of, KeepsDeques}
use Rattle.task_workers_worker.specs.Ready.{frames_of, HandServes}
use Rattle.task_workers_worker.specs.Turns.{Gave}
use Rattle.task_workers_worker.proofs.running.give.Given as goal

abbrev pub invariant-loop-piece : goal.invariant-loop-piece
invariant-loop-piece l = IsSeatOf l.table l.seat × ((view_of l.seat).run ≡ Some (at l.frame l.piece 0)) × Gave (frames_of l.table) (view_of l.fn.seat) (view_of l.seat) (pushed_by l.fn.hand) (pushed_by l.hand)
    × HandServes l.table l.seat l.hand × (asks_of l.hand ≡ asks_of l.fn.hand) × ((frame_at (known_of l.table).plan l.frame).piece ≤ l.piece) × KeepsDeques l.fn.hand l.hand
