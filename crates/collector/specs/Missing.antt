-- What is missing: the first element for which an activation waits, and who should give it.
use Rattle.std.specs.Prelude.{◌≡◌, ℕ, ◌+◌, ◌<◌, ◌≤◌, true, List, Option}
use Rattle.std.specs.Option.{option_map}
use Rattle.flow_core_laws.specs.declared.activation.Activation.{Activation}
use Rattle.flow_core_laws.specs.declared.place.Place.{Place}
use Rattle.flow_core_laws.specs.declared.task_end.TaskEnd.{TaskEnd}
use Rattle.flow_core_laws.specs.There.{missing_place}
use Rattle.collector.specs.declared.missing.Missing.{Missing}
use Rattle.flow_core_laws.specs.Window.{Window, producer}
use Rattle.stream_match_layouts.specs.declared.span.Span.{Span}

-- The activation whose write claim covers a place, or none.
abbrev pub producing : List Activation → Place → Option ℕ
producing activations place = option_map (λ (w : Window). w.activation) (producer activations place.stream place.position)

-- A place with its producing activation.
abbrev pub missing_at : List Activation → Place → Missing
missing_at activations place = record { stream = place.stream; position = place.position; producer = producing activations place }

-- The first missing element of an activation: the first one of its input windows, by clause item and then by
-- position, that isn't there. An element of the input is there below its length, any other where its producer
-- has an end, if only as poison.
abbrev pub missing : List Activation → ℕ → List (Option TaskEnd) → ℕ → Option Missing
missing activations input_len ends a = option_map (missing_at activations) (missing_place activations input_len ends a)

-- A span that writes a stream and covers a position of it.
pub record WritesAt (stream position : ℕ) (span : Span) : Type 0 where
  pub writes : span.write ≡ true
  pub on_stream : span.stream ≡ stream
  pub from : span.first ≤ position
  pub to : position < span.first + span.count
