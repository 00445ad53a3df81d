-- What a part of a round is run with.
use Rattle.std.specs.Prelude.{◌≡◌, ℕ, ℤ, ◌<◌, ◌≤◌, List, All, length}
use Rattle.flow_core.specs.declared.board.Board.{Board}
use Rattle.flow_core_laws.specs.Limits.{activations_limit, positions_limit, workers_limit}
use Rattle.flow_core_laws.specs.declared.outcome.Outcome.{Outcome}
use Rattle.flow_core_laws.specs.declared.plan.Plan.{Plan}
use Rattle.flow_core_laws.specs.declared.task_end.TaskEnd.{TaskEnd}
use Rattle.flow_core.specs.declared.waits.Waits.{Waits}
use Rattle.flow_core_laws.specs.Plans.{plan_meaning}
use Rattle.flow_core_laws.specs.IsSound.{IsSound}
use Rattle.flow_core_laws.specs.Serves.{Serves}
use Rattle.flow_core.specs.Counted.{IsCounted}
use Rattle.flow_core.specs.Shows.{Shows}
use Rattle.task_workers_round.specs.Results.{MayRun, room_of}

-- What all workers share: a sound plan, bodies that serve it, and a board that shows what they mean.
pub record IsShared (plan : Plan) (outcome : ℕ → List ℤ → Outcome) (takes : ℕ → ℕ → ℕ → Type 0) (board : Board) : Type 0 where
  pub sound : IsSound plan
  pub served : Serves plan outcome takes
  pub counted : IsCounted plan board.cells.items board.waits
  pub shows : Shows plan (plan_meaning plan outcome) board.cells.items board.ends.items

-- A part of a round: frames that may run, room for what each comes to, and 1 to 64 workers whose
-- scratches fit the bodies.
pub record IsPartOfRound {W : Type 0} (plan : Plan) (waits : Waits) (fits : W → Type 0) (frames : List ℕ) (ends : List TaskEnd) (outputs : List ℤ)
    (workers : List W) : Type 0 where
  pub may_run : All (MayRun plan waits) frames
  pub end_each : length ends ≡ length frames
  pub room : length outputs ≡ room_of plan frames
  pub few : room_of plan frames ≤ positions_limit
  pub frames_are_few : length frames ≤ activations_limit
  pub some : 0 < length workers
  pub at_most : length workers ≤ workers_limit
  pub fitting : All fits workers
