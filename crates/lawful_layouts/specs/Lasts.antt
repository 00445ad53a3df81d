-- Bodies that write their last input, as often as the plan says; where some fail, each fifth traps and each fifth runs over its budget.
use Rattle.std.specs.Prelude.{ℕ, ℤ, pos, ◌-◌, ◌%◌, ◌==◌, ◌&&◌, if◌then◌else◌, Bool, List, length, replicate, slice_index_or}
use Rattle.flow_core_laws.specs.declared.plan.Plan.{Plan}
use Rattle.flow_core_laws.specs.declared.outcome.Outcome.{Outcome}
use Rattle.flow_core_laws.specs.declared.task_end.TaskEnd.{TaskEnd}
use Rattle.flow_core_laws.specs.declared.task_end.TaskEnd.TheVariants.{Done, Trapped, OverBudget}
use Rattle.flow_core_laws.specs.Outcome.{outcome_of}
use Rattle.flow_core_laws.specs.Plans.{frame_at}

abbrev pub end_of : Bool → ℕ → TaskEnd
end_of some_fail frame = if some_fail && (frame % 5 == 1) then Trapped 3 frame else (if some_fail && (frame % 5 == 2) then OverBudget else Done)

abbrev pub last_of : List ℤ → ℤ
last_of inputs = slice_index_or inputs (length inputs - 1) (pos 41)

abbrev pub last_outcome : Plan → Bool → ℕ → List ℤ → Outcome
last_outcome plan some_fail frame inputs = outcome_of (end_of some_fail frame) (replicate (frame_at plan frame).outputs (last_of inputs))
