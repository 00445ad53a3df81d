-- What the frames of a round came to.
use Rattle.std.specs.Prelude.{◌≡◌, ℕ, ℤ, ◌+◌, ◌<◌, List, length, slice_index, slice_index_or, slice_range, sum_by, take}
use Rattle.flow_core_laws.specs.declared.plan.Plan.{Plan}
use Rattle.flow_core_laws.specs.declared.task_end.TaskEnd.{TaskEnd}
use Rattle.flow_core_laws.specs.declared.task_end.TaskEnd.TheVariants.{Done}
use Rattle.flow_core.specs.declared.waits.Waits.{Waits}
use Rattle.flow_core_laws.specs.Outcome.{State}
use Rattle.flow_core_laws.specs.Plans.{frame_at}
use Rattle.flow_core.specs.Shows.{HasOutcome}

-- How many elements a frame writes.
abbrev pub outputs_of : Plan → ℕ → ℕ
outputs_of plan frame = (frame_at plan frame).outputs

-- How many elements frames write together.
abbrev pub room_of : Plan → List ℕ → ℕ
room_of plan frames = sum_by (outputs_of plan) frames

-- A frame may run: it exists, and misses nothing.
abbrev pub MayRun : Plan → Waits → ℕ → Type 0
MayRun plan waits frame = (frame < length plan.frames) × (slice_index waits.missing.items frame ≡ 0)

-- The outputs of the frame at a place of a list, where those of all frames stand one behind the other.
abbrev pub outputs_at : Plan → List ℕ → List ℤ → ℕ → List ℤ
outputs_at plan frames outputs k = slice_range outputs (room_of plan (take k frames)) (room_of plan (take k frames) + outputs_of plan (slice_index frames k))

-- Frames came to these ends, in their order, and those that are Done to these outputs.
pub record AreResults (plan : Plan) (meaning : State) (frames : List ℕ) (ends : List TaskEnd) (outputs : List ℤ) : Type 0 where
  pub gives : (k : ℕ) → k < length frames → HasOutcome meaning (slice_index frames k) (slice_index_or ends k Done) (outputs_at plan frames outputs k)
