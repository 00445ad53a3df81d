-- What a frame's body makes of its inputs, and which frames are taken.
use Rattle.std.specs.Prelude.{◌≡◌, ℕ, ℤ, ◌≤◌, List, Some, slice_get}
use Rattle.std.specs.Option.{option_map_or}
use Rattle.flow_core_laws.specs.Limits.{budget_limit}
use Rattle.flow_core_laws.specs.Outcome.{over_budget}
use Rattle.flow_core_laws.specs.Streams.{meant_ends, output_count}
use Rattle.flow_core_laws.specs.declared.activation.Activation.{Activation}
use Rattle.flow_core_laws.specs.declared.ends.Ends.{Ends}
use Rattle.flow_core_laws.specs.declared.outcome.Outcome.{Outcome}
use Rattle.os_code.specs.Outcomes.{code_outcome}
use Rattle.os_code.specs.Tasks.{Fits, input_count}
use Rattle.os_code.specs.declared.parts.Parts.{Parts}

-- The outcome of a frame is the machine's of its activation. A number that no activation has counts as one over budget.
abbrev pub frame_outcome : Parts → List Activation → (budget frame : ℕ) → List ℤ → Outcome
frame_outcome code activations budget frame inputs =
    option_map_or (λ (a : Activation). code_outcome code a inputs budget) (slice_get activations frame) over_budget

-- What activations come to over an input: the data-flow meaning of their streams, where the machine runs the task of each.
abbrev pub code_ends : Parts → List Activation → (input : List ℕ) → (budget : ℕ) → Ends
code_ends code activations input budget = meant_ends activations input (frame_outcome code activations budget)

-- A frame is taken with `inputs` inputs and `outputs` outputs where its activation is there, fits the code and has as many.
pub record TakesFrame (code : Parts) (activations : List Activation) (budget frame inputs outputs : ℕ) : Type 0 where
  pub small : budget ≤ budget_limit
  pub activation : Activation
  pub is_there : slice_get activations frame ≡ Some activation
  pub fits : Fits code activation
  pub as_many_inputs : inputs ≡ input_count activation
  pub as_many_outputs : outputs ≡ output_count activation
