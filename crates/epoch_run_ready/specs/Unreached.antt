-- Activations of earlier epochs that nothing new can reach, by marks.
use Rattle.std.specs.Prelude.{◌≡◌, ℕ, ◌<◌, ◌≤◌, ◌⊎◌, All, Bool, true, false, List, Some, length, slice_get, slice_index, slice_index_or}
use Rattle.stream_match_layouts.specs.Spans.{frame_count, spans_of}
use Rattle.stream_match_layouts.specs.Writers.{end_of}
use Rattle.stream_match_layouts.specs.declared.layout.Layout.{Layout}
use Rattle.stream_match_layouts.specs.declared.span.Span.{Span}

-- Of some spans those that read end at or before the positions of their streams.
abbrev pub ReadBefore : List ℕ → List Span → Type 0
ReadBefore low spans = All (λ (s : Span). s.write ≡ false → end_of s ≤ slice_index low s.stream) spans

-- Of some spans those that write begin at the positions of their streams or behind them.
abbrev pub WriteBehind : List ℕ → List Span → Type 0
WriteBehind low spans = All (λ (s : Span). s.write ≡ true → slice_index low s.stream ≤ s.first) spans

-- Each activation that has a mark is a reader before a number, and reads nothing behind the positions; of the readers from a place on each
-- other one writes nothing before them.
pub record AreJudged (layout : Layout) (readers : List ℕ) (first : ℕ) (low : List ℕ) (waits : List Bool) (from : ℕ) : Type 0 where
  pub one_each : length waits ≡ frame_count layout
  pub are_before : (a : ℕ) → slice_index_or waits a false ≡ true → a < first
  pub are_readers : (a : ℕ) → slice_index_or waits a false ≡ true → (f : ℕ) × (slice_get readers f ≡ Some a)
  pub read_before : (a : ℕ) → slice_index_or waits a false ≡ true → ReadBefore low (spans_of layout a)
  pub others : (f : ℕ) → from ≤ f → f < length readers
      → (slice_index_or waits (slice_index readers f) false ≡ true) ⊎ WriteBehind low (spans_of layout (slice_index readers f))

-- Marks of readers before a number that nothing reaches: no other reader writes what they read.
pub record AreUnreached (layout : Layout) (readers : List ℕ) (first : ℕ) (waits : List Bool) : Type 0 where
  pub low : List ℕ
  pub are_judged : AreJudged layout readers first low waits 0
