-- Workers before and after they work.
use Rattle.std.specs.Prelude.{◌≡◌, ℕ, ◌+◌, ◌≤◌, List, [], length, map, sum_by, Option, Some, None}
use Rattle.flow_core_laws.specs.declared.plan.Plan.{Plan}
use Rattle.flow_core_concurrent.specs.States.{times}
use Rattle.frame_table.specs.declared.seat.FrameSeat.{FrameSeat}
use Rattle.frame_table.specs.declared.table.FrameTable.{FrameTable}
use Rattle.frame_table.specs.Tokens.{view_of}
use Rattle.steal_pool.specs.declared.hand.Hand.{Hand}
use Rattle.steal_pool.specs.Hands.{bound_of, spare_of}
use Rattle.task_workers_worker.specs.declared.log.WorkLog.{WorkLog}
use Rattle.task_workers_worker.specs.Logs.{FitsWindows}
use Rattle.task_workers_worker.specs.Worked.{unmade}
use Rattle.task_workers_worker.specs.Ready.{MayWork, frames_of, looks_of}
use Rattle.task_workers_crew.specs.declared.crew.Worker.{Worker}

-- A hand takes the numbers of frames. Of the frames from a number on it takes each, and of those below it each that
-- waits at opening.
pub record TakesFrom (plan : Plan) (frame : ℕ) (hand : Hand) : Type 0 where
  pub bounded : bound_of hand ≡ length plan.frames
  pub room : length plan.frames + unmade plan frame [] ≤ spare_of hand + frame

-- A worker's hand takes each frame that waits at opening; its log takes each frame, and the windows of each.
pub record IsEquipped (plan : Plan) (hand : Hand) (log : WorkLog) : Type 0 where
  pub takes_waiting : TakesFrom plan (length plan.frames) hand
  pub takes_frames : length plan.frames ≤ log.frames.spare
  pub fits_windows : FitsWindows plan log

-- A worker has a seat, with `shares` shares, on which it may work.
abbrev pub IsSeated : FrameTable → ℕ → Option FrameSeat → Hand → WorkLog → Type 0
IsSeated table shares None hand log = ⊥
IsSeated table shares (Some seat) hand log = MayWork table seat hand log × ((view_of seat).shares ≡ shares)

-- A worker looked for frames until it may leave.
abbrev pub HasLooked : FrameTable → Option FrameSeat → Type 0
HasLooked table None = ⊥
HasLooked table (Some seat) = 1 ≤ frames_of table → looks_of table ≤ (view_of seat).looks

-- the frames that the worker of a seat ran, in order; none without a seat
abbrev pub ran_of : Option FrameSeat → List ℕ
ran_of None = []
ran_of (Some seat) = (view_of seat).ran

-- A worker's log has exactly what it ran on its seat, in order.
abbrev pub HasLogged : Option FrameSeat → WorkLog → Type 0
HasLogged seat log = log.frames.items ≡ ran_of seat

-- the logs of a crew, worker by worker
abbrev pub logs_of : {S : Type 0} → List (Worker S) → List WorkLog
logs_of {S} crew = map (λ (w : Worker S). w.log) crew

-- the frames that the workers of a crew logged, worker by worker, each in order
abbrev pub lists_of : {S : Type 0} → List (Worker S) → List (List ℕ)
lists_of {S} crew = map (λ (w : Worker S). w.log.frames.items) crew

-- what the bodies work on, worker by worker
abbrev pub scratches_of : {S : Type 0} → List (Worker S) → List S
scratches_of {S} crew = map (λ (w : Worker S). w.scratch) crew

-- how often a frame stands in all lists put together
abbrev pub times_in : List (List ℕ) → ℕ → ℕ
times_in lists frame = sum_by (λ list. times frame list) lists
