-- Where an element comes from, and whether it is there in a state, as a value or as poison.
use Rattle.std.specs.Prelude.{ℕ, ℤ, List, Option, Some, None, slice_get, option_and_then}
use Rattle.std.specs.Option.{option_map}
use Rattle.flow_core_laws.specs.Outcome.{outcome_at, State, root_of}
use Rattle.flow_core_laws.specs.declared.elem.Elem.{Elem}
use Rattle.flow_core_laws.specs.declared.elem.Elem.TheVariants.{Value, Poison}
use Rattle.flow_core_laws.specs.declared.outcome.Outcome.{Outcome}

-- An element is initial, there from the start, is fed by an output element of an activation, or comes from nobody.
pub data Source : Type 0 where
  initial : Elem → Source
  fed : ℕ → ℕ → Source
  nobody : Source

-- The output element at a place, by the root of an end and by the outputs: poison where there is a root, and else
-- the value that was written there.
abbrev pub output_element : Option ℕ → List ℤ → ℕ → Option Elem
output_element (Some root) outputs place = Some (Poison root)
output_element None outputs place = option_map Value (slice_get outputs place)

-- What an activation with a number and an outcome wrote at a place of its outputs: its value where it is Done, and
-- else poison with the root of its end.
abbrev pub element_written : ℕ → Outcome → ℕ → Option Elem
element_written number outcome place = output_element (root_of number outcome.end) outcome.outputs place

-- An output element of an activation in a state: it is there where the activation has an end. The numbers by
-- which poison names its roots are given for each activation.
abbrev pub output_at : (ℕ → ℕ) → State → ℕ → ℕ → Option Elem
output_at numbers state activation place = option_and_then (λ (o : Outcome). element_written (numbers activation) o place) (outcome_at state activation)

-- The element of a source in a state, if it is there.
abbrev pub element : (ℕ → ℕ) → State → Source → Option Elem
element numbers state (initial elem) = Some elem
element numbers state (fed activation place) = output_at numbers state activation place
element numbers state nobody = None
