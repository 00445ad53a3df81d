use Rattle.std.proofs.Common.{◌≡◌, ◌*◌, ◌≤◌, ℕ}
use Rattle.os_io.specs.Counts.{raised}
use Rattle.frame_table.specs.Tokens.{view_of}
use Rattle.steal_pool.specs.Hands.{pushed_by, asks_of, KeepsDeques}
use Rattle.task_workers_worker.specs.Ready.{frames_of, MayWork}
use Rattle.task_workers_worker.specs.Turns.{to_do}
use Rattle.task_workers_worker.specs.Worked.{Worked}
use Rattle.task_workers_worker.proofs.working.work.Given as goal

abbrev pub invariant-loop-seat : goal.invariant-loop-seat
invariant-loop-seat g l = g.B.Bodies.fits l.bodies l.scratch × MayWork l.table l.seat l.hand l.log
    × Worked (frames_of l.table) (view_of l.fn.seat) (view_of l.seat) (pushed_by l.fn.hand) (pushed_by l.hand) l.fn.log.frames.items l.log.frames.items
    × (l.log.worker ≡ l.fn.log.worker) × (times : ℕ) × (raised (asks_of l.fn.hand) times ≤ asks_of l.hand) × ((view_of l.fn.seat).looks ≡ 0 → (view_of l.seat).looks ≤ 65 * times) × KeepsDeques l.fn.hand l.hand

abbrev pub decreases-loop-seat : goal.decreases-loop-seat
decreases-loop-seat g l = to_do l.table l.most l.seat
