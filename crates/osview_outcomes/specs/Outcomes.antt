-- What the frames of a plan came to, as a meaning has it.
use Rattle.std.specs.Prelude.{◌≡◌, ◌<◌, ℕ, [], Some, length, slice_index, slice_index_or}
use Rattle.flow_core_laws.specs.Outcome.{State, ends_of, outcome_at}
use Rattle.flow_core_laws.specs.Plans.{plan_reads}
use Rattle.flow_core_laws.specs.declared.outcome.Outcome.{Outcome}
use Rattle.flow_core_laws.specs.declared.plan.Plan.{Plan}
use Rattle.flow_core_laws.specs.declared.task_end.TaskEnd.TheVariants.{Done}
use Rattle.flow_core.specs.Shows.{Reads}
use Rattle.osview_outcomes.specs.Order.{IsInOrder}
use Rattle.osview_outcomes.specs.declared.kept.Outcomes.{Outcomes}

-- The ends are those of the meaning, and what each frame wrote that is Done is what the meaning says.
pub record AreOutcomesOf (outcomes : Outcomes) (meaning : State) : Type 0 where
  pub ends : outcomes.ends.items ≡ ends_of meaning
  pub outputs : (f : ℕ) (o : Outcome) → outcome_at meaning f ≡ Some o → o.end ≡ Done → slice_index_or outcomes.outputs f [] ≡ o.outputs

-- Of each frame with an outcome it is kept what it read.
pub record HasInputs (outcomes : Outcomes) (plan : Plan) (meaning : State) : Type 0 where
  pub inputs : (f : ℕ) (o : Outcome) → outcome_at meaning f ≡ Some o → Reads plan meaning f (slice_index_or outcomes.inputs f [])

-- The frames with an outcome are kept in an order in which each stands behind those that it waits for.
pub record HasOrder (outcomes : Outcomes) (plan : Plan) (meaning : State) : Type 0 where
  pub in_order : IsInOrder (plan_reads plan) (length plan.frames) outcomes.order.items
  pub has_all : (f : ℕ) (o : Outcome) → outcome_at meaning f ≡ Some o
      → (k : ℕ) × (k < length outcomes.order.items) × (slice_index outcomes.order.items k ≡ f)
