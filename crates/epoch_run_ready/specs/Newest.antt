-- The activations from a number on, and those before it, where all of them wait.
use Rattle.std.specs.Prelude.{◌≡◌, ℕ, None, ◌-◌, ◌<◌, ◌≤◌, ◌++◌, Bool, true, false, List, [], Option, Contains, length, replicate}
use Rattle.flow_core_epochs.specs.Epoch.{CannotCome}
use Rattle.flow_core_laws.specs.Outcome.{outcome_at}
use Rattle.flow_core_laws.specs.Place.{input_places}
use Rattle.flow_core_laws.specs.Streams.{stream_source}
use Rattle.flow_core_laws.specs.declared.activation.Activation.{Activation}
use Rattle.flow_core_laws.specs.declared.place.Place.{Place}
use Rattle.flow_core_laws.specs.declared.task_end.TaskEnd.{TaskEnd}

-- Each activation from a number on reads an element that can't come where none runs: nobody writes it, or its producer has no end.
abbrev pub WaitFrom : List Activation → List ℕ → List (Option TaskEnd) → ℕ → Type 0
WaitFrom activations input ends first =
    (a : ℕ) → first ≤ a → a < length activations
    → (p : Place) × (Contains (input_places activations a) p) × CannotCome ends [] (stream_source activations input p)

-- Each activation before a number that has no end reads such an element too.
abbrev pub WaitBefore : List Activation → List ℕ → List (Option TaskEnd) → ℕ → Type 0
WaitBefore activations input ends first =
    (a : ℕ) → a < first → outcome_at ends a ≡ None
    → (p : Place) × (Contains (input_places activations a) p) × CannotCome ends [] (stream_source activations input p)

-- marks of those from a number on
abbrev pub marked_from : ℕ → ℕ → List Bool
marked_from first count = replicate first false ++ replicate (count - first) true
