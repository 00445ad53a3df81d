-- Which elements an activation gives, by the outcomes that are kept of a run.
use Rattle.std.specs.Prelude.{ℕ, [], None, Option, option_and_then, slice_index_or}
use Rattle.flow_core_laws.specs.Element.{output_element}
use Rattle.flow_core_laws.specs.Outcome.{root_of}
use Rattle.flow_core_laws.specs.declared.elem.Elem.{Elem}
use Rattle.flow_core_laws.specs.declared.task_end.TaskEnd.{TaskEnd}
use Rattle.osview_outcomes.specs.declared.kept.Outcomes.{Outcomes}

-- the element that an activation gives at a place of its outputs, if it has an end
abbrev pub element_given : Outcomes → (activation place : ℕ) → Option Elem
element_given outcomes activation place =
    option_and_then (λ (end : TaskEnd). output_element (root_of activation end) (slice_index_or outcomes.outputs activation []) place)
    (slice_index_or outcomes.ends.items activation None)
