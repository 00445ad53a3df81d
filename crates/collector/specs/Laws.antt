-- The laws of what is written and missing, as statements.
use Rattle.std.specs.Prelude.{◌≡◌, ◌≢◌, ℕ, ℤ, ◌<◌, ◌⊎◌, true, false, List, [], Option, Some, None, IsSome, All, length, slice_get, slice_index_or}
use Rattle.flow_core_laws.specs.declared.activation.Activation.{Activation}
use Rattle.flow_core_laws.specs.declared.control.ControlEnd.{ControlEnd}
use Rattle.flow_core_laws.specs.Place.{input_places, written_count}
use Rattle.flow_core_laws.specs.declared.elem.Elem.{Elem}
use Rattle.flow_core_laws.specs.declared.elem.Elem.TheVariants.{Value, Poison}
use Rattle.flow_core_laws.specs.declared.ends.Ends.{Ends}
use Rattle.flow_core_laws.specs.declared.outcome.Outcome.{Outcome}
use Rattle.flow_core_laws.specs.declared.place.Place.{Place}
use Rattle.flow_core_laws.specs.declared.task_end.TaskEnd.{TaskEnd}
use Rattle.flow_core_laws.specs.Laws.{IsFilled}
use Rattle.flow_core_laws.specs.Outcome.{has_end_at}
use Rattle.flow_core_laws.specs.Streams.{meant_ends, stream_meaning}
use Rattle.flow_core_laws.specs.There.{is_there}
use Rattle.collector.specs.declared.missing.Missing.{Missing}
use Rattle.collector.specs.Missing.{missing_at, missing}
use Rattle.collector.specs.Written.{byte_of, written}
use Rattle.collector.specs.Report.{activation_line}
use Rattle.collector.specs.Reported.{AreOfState, is_poisoned}
use Rattle.collector.specs.Status.{done_status, has_done, status}

-- The bytes are the longest prefix of the elements that has values alone: all of it are values, and behind it nothing is
-- there, or poison, or it goes to the end.
pub record IsLongestPrefix (elements : List (Option Elem)) (bytes : List ℕ) : Type 0 where
  pub has_values : (k : ℕ) → k < length bytes → (value : ℤ) × (slice_get elements k ≡ Some (Some (Value value)))
      × (slice_get bytes k ≡ Some (byte_of value))
  pub is_longest : (slice_get elements (length bytes) ≡ Some None) ⊎ ((root : ℕ) × (slice_get elements (length bytes) ≡ Some (Some (Poison root))))
      ⊎ (length bytes ≡ length elements)

-- The written bytes are the elements of the output before the first position that isn't there or is poison: each of
-- these positions is there and isn't poison, and the next one isn't there, or is poison, or isn't claimed for writing.
pub record IsWrittenOf (activations : List Activation) (input_len : ℕ) (ends : Ends) : Type 0 where
  pub there : (k : ℕ) → k < length (written ends.output)
      → (is_there activations input_len ends.ends (record { stream = 1; position = k }) ≡ true)
      × (is_poisoned activations ends.ends (record { stream = 1; position = k }) ≡ false)
  pub ends_at_a_gap : (is_there activations input_len ends.ends (record { stream = 1; position = length (written ends.output) }) ≡ false)
      ⊎ (is_poisoned activations ends.ends (record { stream = 1; position = length (written ends.output) }) ≡ true)
      ⊎ (length (written ends.output) ≡ written_count activations 1)

-- The first missing element of an activation is one that it reads and that isn't there, and those before it
-- are there; it has none where all are there.
pub record IsFirstMissing (activations : List Activation) (input_len : ℕ) (ends : List (Option TaskEnd)) (a : ℕ) : Type 0 where
  pub none : missing activations input_len ends a ≡ None → All (λ (place : Place). is_there activations input_len ends place ≡ true)
      (input_places activations a)
  pub first : (m : Missing) → missing activations input_len ends a ≡ Some m
      → (k : ℕ) × (place : Place) × (slice_get (input_places activations a) k ≡ Some place) × (m ≡ missing_at activations place)
      × (is_there activations input_len ends place ≡ false)
      × ((j : ℕ) (other : Place) → j < k → slice_get (input_places activations a) j ≡ Some other
      → is_there activations input_len ends other ≡ true)

-- where the output is that of a state and the status is 0, as many bytes are written as positions of the output are
-- claimed
abbrev pub AllIsWritten : Type 0
AllIsWritten =
    (activations : List Activation) (input_len : ℕ) (ends : Ends) (control : ControlEnd) → AreOfState activations input_len ends
    → status ends.ends control ≡ done_status → length (written ends.output) ≡ written_count activations 1

-- a fact of what the meaning of activations over an input comes to, where those that are Done filled their outputs
abbrev pub OfFilled : (List Activation → ℕ → Ends → Type 0) → Type 0
OfFilled fact = (activations : List Activation) (input : List ℕ) (body : ℕ → List ℤ → Outcome)
    → IsFilled activations (stream_meaning activations input body)
    → fact activations (length input) (meant_ends activations input body)

-- An activation without an end misses an element. So each activation that isn't Done has a line in the report, and no
-- other has one.
pub record HasItsLines (activations : List Activation) (input_len : ℕ) (ends : Ends) : Type 0 where
  pub misses : (a : ℕ) → a < length activations → slice_index_or ends.ends a None ≡ None → IsSome (missing activations input_len ends.ends a)
  pub told : (a : ℕ) → a < length activations → has_done (slice_index_or ends.ends a None) ≡ false
      → activation_line activations input_len ends.ends a ≢ []
  pub untold : (a : ℕ) → has_done (slice_index_or ends.ends a None) ≡ true → activation_line activations input_len ends.ends a ≡ []

-- The producer of a missing element has no end: it is starved too, as the report says. The element isn't one of the
-- input, which no lawful claim writes.
abbrev pub ProducersAreStarved : Type 0
ProducersAreStarved = (activations : List Activation) (input_len : ℕ) (ends : List (Option TaskEnd)) (a : ℕ) (m : Missing) (producer : ℕ)
    → missing activations input_len ends a ≡ Some m → m.stream ≢ 0 → m.producer ≡ Some producer → has_end_at ends producer ≡ false
