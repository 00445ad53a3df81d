-- What an activation writes.
use Rattle.std.specs.Prelude.{◌≡◌, ℕ, ℤ, ◌+◌, ◌≤◌, true, None, All, List, [], ◌∷◌, ◌++◌, Option, length, map, slice_index_or, slice_set, if◌then◌else◌}
use Rattle.std.specs.List.{range_with_len}
use Rattle.flow_core_laws.specs.Element.{output_element}
use Rattle.flow_core_laws.specs.declared.elem.Elem.{Elem}
use Rattle.stream_match_layouts.specs.declared.span.Span.{Span}

-- what it writes through a span, by the root of its end and by its outputs
abbrev pub written_through : Option ℕ → List ℤ → Span → List (Option Elem)
written_through root outputs span = map (output_element root outputs) (range_with_len span.offset span.count)

-- the elements of streams with what it writes through a span
abbrev pub with_span : Option ℕ → List ℤ → List (List (Option Elem)) → Span → List (List (Option Elem))
with_span root outputs elements span =
    if span.write then slice_set elements span.stream (slice_index_or elements span.stream [] ++ written_through root outputs span) else elements

-- the elements of streams with what an activation writes through all its spans
abbrev pub with_spans : Option ℕ → List ℤ → List (List (Option Elem)) → List Span → List (List (Option Elem))
with_spans root outputs elements [] = elements
with_spans root outputs elements (span ∷ spans) = with_spans root outputs (with_span root outputs elements span) spans

-- where nothing is poisoned the outputs have what each of these spans writes
abbrev pub HaveOutputs : Option ℕ → List ℤ → List Span → Type 0
HaveOutputs root outputs spans = root ≡ None → All (λ (s : Span). s.write ≡ true → s.offset + s.count ≤ length outputs) spans
