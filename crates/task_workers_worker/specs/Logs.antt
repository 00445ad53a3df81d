-- The room of a worker's log.
use Rattle.std.specs.Prelude.{ℕ, ◌+◌, ◌<◌, ◌≤◌, length}
use Rattle.os_io.specs.RoomStates.{RoomState}
use Rattle.flow_core_laws.specs.declared.plan.Plan.{Plan}
use Rattle.flow_core_laws.specs.Plans.{frame_at}
use Rattle.task_workers_worker.specs.declared.log.WorkLog.{WorkLog}

-- how many items a room takes, those that it holds included
abbrev pub holds_up_to : {T : Type 0} → RoomState T → ℕ
holds_up_to room = length room.items + room.spare

-- A log takes the input elements and the output elements of each frame.
pub record FitsWindows (plan : Plan) (log : WorkLog) : Type 0 where
  pub inputs : (f : ℕ) → f < length plan.frames → (frame_at plan f).inputs ≤ holds_up_to log.inputs
  pub outputs : (f : ℕ) → f < length plan.frames → (frame_at plan f).outputs ≤ holds_up_to log.outputs
