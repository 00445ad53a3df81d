-- The states whose output is written.
use Rattle.std.specs.Prelude.{◌≡◌, ℕ, List, Option, Some, None, Bool, true, false, not, ◌==◌, if◌then◌else◌, is_some, length, map, slice_index_or}
use Rattle.std.specs.Option.{option_map_or}
use Rattle.flow_core_laws.specs.declared.activation.Activation.{Activation}
use Rattle.flow_core_laws.specs.Place.{output_places}
use Rattle.flow_core_laws.specs.Window.{Window, producer}
use Rattle.flow_core_laws.specs.declared.elem.Elem.{Elem}
use Rattle.flow_core_laws.specs.declared.elem.Elem.TheVariants.{Value, Poison}
use Rattle.flow_core_laws.specs.declared.task_end.TaskEnd.{TaskEnd}
use Rattle.flow_core_laws.specs.declared.ends.Ends.{Ends}
use Rattle.flow_core_laws.specs.declared.place.Place.{Place}
use Rattle.flow_core_laws.specs.Outcome.{is_done}
use Rattle.flow_core_laws.specs.There.{is_there}

-- whether an element is there and is poison
abbrev pub is_poison : Option Elem → Bool
is_poison None = false
is_poison (Some (Value value)) = false
is_poison (Some (Poison root)) = true

-- whether an activation has an end by a list of ends, and that one isn't Done
abbrev pub is_undone_at : List (Option TaskEnd) → ℕ → Bool
is_undone_at ends activation = option_map_or (λ (e : TaskEnd). not (is_done e)) (slice_index_or ends activation None) false

-- Whether the element at a place is poison, by the ends of the activations: the activation of its producer has an end
-- that isn't Done. No element of the input is.
abbrev pub is_poisoned : List Activation → List (Option TaskEnd) → Place → Bool
is_poisoned activations ends place =
    if place.stream == 0 then false
    else option_map_or (λ (w : Window). is_undone_at ends w.activation) (producer activations place.stream place.position) false

-- The ends and the output of a state: an end, or none, for each activation, and an element, or none, for each
-- position of the output that is claimed for writing, none exactly where it isn't there in that state, and poison
-- exactly where that state has poison there.
pub record AreOfState (activations : List Activation) (input_len : ℕ) (ends : Ends) : Type 0 where
  pub one_each : length ends.ends ≡ length activations
  pub output : map is_some ends.output ≡ map (is_there activations input_len ends.ends) (output_places activations)
  pub poison : map is_poison ends.output ≡ map (is_poisoned activations ends.ends) (output_places activations)
