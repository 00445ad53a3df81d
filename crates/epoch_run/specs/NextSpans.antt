-- The positions of the next activations, worked out apart from the layout that they come behind.
use Rattle.std.specs.Prelude.{ℕ, ◌+◌, ◌^◌, ◌<◌, All, List, [], ◌∷◌, ◌++◌, length, slice_index_or, slice_set, if◌then◌else◌}
use Rattle.flow_core_laws.specs.declared.activation.Activation.{Activation}
use Rattle.flow_core_laws.specs.declared.claim.Claim.{Claim}
use Rattle.stream_match_layouts.specs.Cursors.{moved_by, span_by}
use Rattle.stream_match_layouts.specs.Layout.{IsLayoutOf}
use Rattle.stream_match_layouts.specs.declared.layout.Layout.{Layout}
use Rattle.stream_match_layouts.specs.declared.span.Span.{Span}
use Rattle.epoch_run.specs.declared.next_spans.NextSpans.{NextSpans}

-- the writers of the streams with one more span, which has a number
abbrev pub with_writer : List (List ℕ) → ℕ → Span → List (List ℕ)
with_writer writers number span =
    if span.write then slice_set writers span.stream (slice_index_or writers span.stream [] ++ number ∷ []) else writers

-- the writers of the streams with more spans, which are numbered from `number` on
abbrev pub with_writers : List (List ℕ) → ℕ → List Span → List (List ℕ)
with_writers writers number [] = writers
with_writers writers number (span ∷ spans) = with_writers (with_writer writers number span) (number + 1) spans

-- the layout with the next spans behind its own
abbrev pub joined : Layout → NextSpans → Layout
joined layout next = record {
  spans = layout.spans ++ next.spans;
  starts = layout.starts ++ next.starts;
  writers = with_writers layout.writers (length layout.spans) next.spans;
  cursors = next.cursors;
  input_len = layout.input_len;
}

-- The next spans are those of more activations: behind the layout of those before, they make the layout of all.
pub record ComeBehind (layout : Layout) (more : List Activation) (next : NextSpans) : Type 0 where
  pub laid : (before : List Activation) → IsLayoutOf layout before → IsLayoutOf (joined layout next) (before ++ more)

-- the next spans can be put behind the layout: their numbers fit their type, and each is on one of its streams
pub record FitBehind (layout : Layout) (next : NextSpans) : Type 0 where
  pub few : length layout.spans + length next.spans < 2 ^ 32
  pub exist : All (λ (s : Span). s.stream < length layout.writers) next.spans

-- the spans and cursors with one more claim
abbrev pub with_next : NextSpans → ℕ → Claim → ℕ → NextSpans
with_next next frame claim offset = record {
  spans = next.spans ++ span_by next.cursors frame claim offset ∷ [];
  starts = next.starts;
  cursors = moved_by next.cursors claim;
}
