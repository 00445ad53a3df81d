-- What a run shows of the meaning.
use Rattle.std.specs.Prelude.{◌≡◌, ℕ, ℤ, ◌<◌, List, Option, Some, None, is_some, if◌then◌else◌, length, map, slice_index_or}
use Rattle.std.specs.Option.{option_map}
use Rattle.flow_core_laws.specs.Outcome.{outcome_at, State}
use Rattle.flow_core_laws.specs.declared.elem.Elem.{Elem}
use Rattle.flow_core_laws.specs.declared.plan.Plan.{Plan}
use Rattle.flow_core_laws.specs.declared.task_end.TaskEnd.{TaskEnd}
use Rattle.flow_core_laws.specs.declared.task_end.TaskEnd.TheVariants.{Done}
use Rattle.flow_core_laws.specs.declared.outcome.Outcome.{Outcome}
use Rattle.flow_core_laws.specs.Element.{Source, initial, fed, nobody, output_at}
use Rattle.flow_core_laws.specs.Plans.{number_at, held_at, cell_source, plan_element, plan_reads}
use Rattle.flow_core_laws.specs.Poisoning.{values_of}
use Rattle.flow_core_laws.specs.Round.{gathered}

-- the end of a frame so far
abbrev pub end_at : List (Option TaskEnd) → ℕ → Option TaskEnd
end_at ends frame = slice_index_or ends frame None

-- The element of a source that a run shows: an initial one, or one of a frame that has an end.
abbrev pub shown : (ℕ → ℕ) → List (Option TaskEnd) → State → Source → Option Elem
shown numbers ends meaning (initial elem) = Some elem
shown numbers ends meaning (fed frame place) = if is_some (end_at ends frame) then output_at numbers meaning frame place else None
shown numbers ends meaning nobody = None

-- The ends are the meaning's, and the cells hold what the frames with an end gave.
pub record Shows (plan : Plan) (meaning : State) (cells : List (Option Elem)) (ends : List (Option TaskEnd)) : Type 0 where
  pub ends_of_plan : length ends ≡ length plan.frames
  pub ends_are_meant : (f : ℕ) (e : TaskEnd) → end_at ends f ≡ Some e → option_map (λ (o : Outcome). o.end) (outcome_at meaning f) ≡ Some e
  pub cells_are_shown : (c : ℕ) → c < length cells → held_at cells c ≡ shown (number_at plan) ends meaning (cell_source plan c)

-- The meaning gives a frame an end, with these outputs where it is Done.
abbrev pub HasOutcome : State → ℕ → TaskEnd → List ℤ → Type 0
HasOutcome meaning frame end outputs = (o : Outcome) × (outcome_at meaning frame ≡ Some o) × (o.end ≡ end) × (end ≡ Done → outputs ≡ o.outputs)

-- All inputs of a frame are there in the meaning, and these are the values among them.
pub record Reads (plan : Plan) (meaning : State) (frame : ℕ) (values : List ℤ) : Type 0 where
  pub elements : List Elem
  pub are_there : gathered (map (plan_element plan meaning) (plan_reads plan frame)) ≡ Some elements
  pub values_are : values ≡ values_of elements
