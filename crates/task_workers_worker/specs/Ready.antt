-- What a worker needs.
use Rattle.std.specs.Prelude.{◌≡◌, ℕ, ◌*◌, ◌<◌, ◌≤◌, ◌^◌, None, length, max}
use Rattle.frame_table.specs.declared.seat.FrameSeat.{FrameSeat}
use Rattle.frame_table.specs.declared.table.FrameTable.{FrameTable}
use Rattle.frame_table.specs.Tokens.{IsSeatOf, view_of, known_of}
use Rattle.steal_pool.specs.declared.hand.Hand.{Hand}
use Rattle.steal_pool.specs.Hands.{bound_of, spare_of}
use Rattle.task_workers_worker.specs.Left.{left_of}
use Rattle.task_workers_worker.specs.declared.log.WorkLog.{WorkLog}
use Rattle.task_workers_worker.specs.Logs.{FitsWindows}
use Rattle.task_workers_worker.specs.Worked.{unmade}

abbrev pub frames_of : FrameTable → ℕ
frames_of table = length (known_of table).plan.frames

-- how many counted looks in a row it takes at least for a worker to leave
abbrev pub least_looks : ℕ
least_looks = 65536

-- how many counted looks in a row it takes for a worker to leave: four for each frame, and at least `least_looks`
abbrev pub looks_of : FrameTable → ℕ
looks_of table = max (4 * frames_of table) least_looks

-- The hand's numbers are frames, and it has room for each that waited at opening and that the seat didn't open yet.
pub record HandServes (table : FrameTable) (seat : FrameSeat) (hand : Hand) : Type 0 where
  pub bounded : bound_of hand ≡ frames_of table
  pub room : unmade (known_of table).plan (frames_of table) (view_of seat).made ≤ spare_of hand

-- The log has room for each frame that the seat didn't run yet, and for the windows of each frame.
pub record LogServes (table : FrameTable) (seat : FrameSeat) (log : WorkLog) : Type 0 where
  pub frames : left_of (frames_of table) (view_of seat).ran ≤ log.frames.spare
  pub windows : FitsWindows (known_of table).plan log

-- A worker may begin to work: it runs nothing, and its seat, its hand and its log are of this table and have room enough.
pub record MayWork (table : FrameTable) (seat : FrameSeat) (hand : Hand) (log : WorkLog) : Type 0 where
  pub is_of_it : IsSeatOf table seat
  pub runs_nothing : (view_of seat).run ≡ None
  pub has_looks : (view_of seat).looks < 2 ^ 63
  pub hand_serves : HandServes table seat hand
  pub log_serves : LogServes table seat log
