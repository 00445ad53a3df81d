-- Which elements are there, by the ends of the activations and the length of the input.
use Rattle.std.specs.Prelude.{ℕ, ◌==◌, Bool, not, false, nat_lt, if◌then◌else◌, List, Option, find}
use Rattle.std.specs.Option.{option_map_or}
use Rattle.flow_core_laws.specs.declared.activation.Activation.{Activation}
use Rattle.flow_core_laws.specs.declared.place.Place.{Place}
use Rattle.flow_core_laws.specs.Window.{Window, producer}
use Rattle.flow_core_laws.specs.Place.{input_places}
use Rattle.flow_core_laws.specs.declared.task_end.TaskEnd.{TaskEnd}
use Rattle.flow_core_laws.specs.Outcome.{has_end_at}

-- Whether the element at a place is there, as a value or as poison: an element of the input where its position is
-- below the length, any other where the activation of its producer has an end.
abbrev pub is_there : List Activation → ℕ → List (Option TaskEnd) → Place → Bool
is_there activations input_len ends place = if place.stream == 0 then nat_lt place.position input_len
    else option_map_or (λ (w : Window). has_end_at ends w.activation) (producer activations place.stream place.position) false

-- The first missing element of an activation: the first place of its input windows, in clause order
-- and then by position, whose element isn't there.
abbrev pub missing_place : List Activation → ℕ → List (Option TaskEnd) → ℕ → Option Place
missing_place activations input_len ends a = find (λ place. not (is_there activations input_len ends place)) (input_places activations a)
