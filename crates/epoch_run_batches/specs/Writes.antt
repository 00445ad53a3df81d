-- What an activation writes.
use Rattle.std.specs.Prelude.{◌≡◌, ◌≢◌, ℕ, ℤ, ◌+◌, ◌<◌, ◌≤◌, true, None, List, Option, Some, slice_get, map, length}
use Rattle.std.specs.List.{range_with_len}
use Rattle.flow_core_laws.specs.Element.{output_element}
use Rattle.flow_core_laws.specs.declared.elem.Elem.{Elem}
use Rattle.stream_match_layouts.specs.declared.span.Span.{Span}
use Rattle.epoch_run_batches.specs.Meant.{Run, element_meant}

-- what it writes through a span, by the root of its end and by its outputs
abbrev pub written_through : Option ℕ → List ℤ → Span → List (Option Elem)
written_through root outputs span = map (output_element root outputs) (range_with_len span.offset span.count)

-- a stream means what it writes through a span
abbrev pub IsWritten : Run → Option ℕ → List ℤ → Span → Type 0
IsWritten run root outputs span =
    span.write ≡ true → span.stream ≢ 0 → (k : ℕ) → k < span.count
    → element_meant run span.stream (span.first + k) ≡ output_element root outputs (span.offset + k)

-- so of each of its spans
abbrev pub AreWritten : Run → Option ℕ → List ℤ → List Span → Type 0
AreWritten run root outputs spans = (j : ℕ) (s : Span) → slice_get spans j ≡ Some s → IsWritten run root outputs s

-- where nothing is poisoned the outputs have what each of these spans writes
abbrev pub HaveOutputs : Option ℕ → List ℤ → List Span → Type 0
HaveOutputs root outputs spans =
    (j : ℕ) (s : Span) → slice_get spans j ≡ Some s → root ≡ None → s.write ≡ true → s.offset + s.count ≤ length outputs
