-- Activations that wait for an element that can't come, by marks.
use Rattle.std.specs.Prelude.{◌≡◌, ◌≢◌, ℕ, ◌<◌, ◌≤◌, ◌⊎◌, ◌==◌, if◌then◌else◌, Bool, true, false, List}
use Rattle.std.specs.Prelude.{Some, Contains, filter, length, not, slice_get, slice_index, slice_index_or}
use Rattle.stream_match.specs.EpochCode.{Ascend}
use Rattle.stream_match_layouts.specs.Spans.{frame_count, spans_of}
use Rattle.stream_match_layouts.specs.Writers.{end_of, span_at}
use Rattle.stream_match_layouts.specs.declared.layout.Layout.{Layout}
use Rattle.stream_match_layouts.specs.declared.span.Span.{Span}
use Rattle.epoch_run_ready.specs.Newest.{marked_from}

-- whether an activation is stuck: it has a mark
abbrev pub is_stuck : List Bool → ℕ → Bool
is_stuck waits activation = slice_index_or waits activation false

-- how many positions of a stream are written, or are the input's
abbrev pub written_until : Layout → ℕ → ℕ
written_until layout stream = if stream == 0 then layout.input_len else slice_index layout.cursors.writes stream

-- the element at a position can't come: it lies behind all that is written, or a stuck activation writes it
pub data PositionCannotCome (layout : Layout) (waits : List Bool) (stream position : ℕ) : Type 0 where
  behind : written_until layout stream ≤ position → PositionCannotCome layout waits stream position
  stuck : (number : ℕ) → stream ≢ 0 → number < length layout.spans → (span_at layout number).write ≡ true → (span_at layout number).stream ≡ stream
      → (span_at layout number).first ≤ position → position < end_of (span_at layout number) → is_stuck waits (span_at layout number).frame ≡ true
      → PositionCannotCome layout waits stream position

-- a read span covers a position whose element can't come
pub record SpanWaits (layout : Layout) (waits : List Bool) (span : Span) : Type 0 where
  pub reads : span.write ≡ false
  pub position : ℕ
  pub from : span.first ≤ position
  pub to : position < end_of span
  pub cannot_come : PositionCannotCome layout waits span.stream position

-- one of these spans reads an element that can't come
pub record HasWaitingSpan (layout : Layout) (waits : List Bool) (spans : List Span) : Type 0 where
  pub span : Span
  pub is_one : Contains spans span
  pub waits_for : SpanWaits layout waits span

-- an activation is a reader, and waits
pub record IsWaiting (layout : Layout) (readers : List ℕ) (waits : List Bool) (a : ℕ) : Type 0 where
  pub number : ℕ
  pub is_reader : slice_get readers number ≡ Some a
  pub waits_for : HasWaitingSpan layout waits (spans_of layout a)

-- Marks are added to others: each activation that has one more is a reader, and waits.
pub record AreMarked (layout : Layout) (readers : List ℕ) (before after : List Bool) : Type 0 where
  pub as_many : length after ≡ length before
  pub are_kept : (a : ℕ) → slice_index_or before a false ≡ true → slice_index_or after a false ≡ true
  pub more_wait : (a : ℕ) → slice_index_or after a false ≡ true → (slice_index_or before a false ≡ true) ⊎ IsWaiting layout readers after a

-- The activations from a number on wait, where all from an earlier number on get no end, of which those before are readers: each reads an element
-- that can't come then.
pub record WaitAround (layout : Layout) (readers : List ℕ) (first : ℕ) : Type 0 where
  pub from : ℕ
  pub few : from ≤ first
  pub are_readers : (a : ℕ) → from ≤ a → a < first → (f : ℕ) × (slice_get readers f ≡ Some a)
  pub wait : (a : ℕ) → first ≤ a → a < frame_count layout → HasWaitingSpan layout (marked_from from (frame_count layout)) (spans_of layout a)

-- Of each stream a position is known whose element can't come.
pub record AreMissing (layout : Layout) (waits : List Bool) (missing : List ℕ) : Type 0 where
  pub one_each : length missing ≡ length layout.writers
  pub cannot_come : (stream : ℕ) → stream < length layout.writers → PositionCannotCome layout waits stream (slice_index missing stream)

-- Frames are the readers that have no mark, if the readers ascend; each that has a mark waits, or had one before.
pub record AreUnmarked (layout : Layout) (readers : List ℕ) (before : List Bool) (frames : List ℕ) : Type 0 where
  pub waits : List Bool
  pub are_marked : AreMarked layout readers before waits
  pub others : Ascend readers → frames ≡ filter (λ a. not (slice_index_or waits a false)) readers
