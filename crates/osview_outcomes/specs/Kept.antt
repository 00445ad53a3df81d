-- What is kept of a run so far.
use Rattle.std.specs.Prelude.{◌≡◌, ◌<◌, ℕ, ℤ, List, [], Option, Some, true, is_some, length, slice_index, slice_index_or}
use Rattle.flow_core_laws.specs.Outcome.{State, outcome_at}
use Rattle.flow_core_laws.specs.Plans.{plan_reads}
use Rattle.flow_core_laws.specs.declared.outcome.Outcome.{Outcome}
use Rattle.flow_core_laws.specs.declared.plan.Plan.{Plan}
use Rattle.flow_core_laws.specs.declared.task_end.TaskEnd.{TaskEnd}
use Rattle.flow_core_laws.specs.declared.task_end.TaskEnd.TheVariants.{Done}
use Rattle.flow_core.specs.Shows.{Reads, end_at}
use Rattle.osview_outcomes.specs.Order.{WaitsFor}

-- Of each frame that has an end so far it is kept what it read, and what it wrote if it is Done.
pub record AreKept (plan : Plan) (meaning : State) (ends : List (Option TaskEnd)) (inputs outputs : List (List ℤ)) : Type 0 where
  pub read : (f : ℕ) → is_some (end_at ends f) ≡ true → Reads plan meaning f (slice_index_or inputs f [])
  pub written : (f : ℕ) (o : Outcome) → is_some (end_at ends f) ≡ true → outcome_at meaning f ≡ Some o → o.end ≡ Done
      → slice_index_or outputs f [] ≡ o.outputs

-- Of the opened frames those before a turn stand behind those that they wait for.
pub record StandBehind (plan : Plan) (opened : List ℕ) (turn : ℕ) : Type 0 where
  pub behind : (k f : ℕ) → k < turn → k < length opened → WaitsFor (plan_reads plan) (slice_index opened k) f → (j : ℕ) × (j < k) × (slice_index opened j ≡ f)
