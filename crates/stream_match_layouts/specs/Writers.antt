-- The write spans of a stream, as a layout lists them.
use Rattle.std.specs.Prelude.{◌≡◌, ℕ, ◌+◌, ◌^◌, ◌<◌, ◌≤◌, List, [], true, false, length, slice_index, slice_index_or}
use Rattle.flow_core_laws.specs.Limits.{positions_limit}
use Rattle.stream_match_layouts.specs.declared.span.Span.{Span}
use Rattle.stream_match_layouts.specs.declared.layout.Layout.{Layout}

-- what stands for a span where there is none
abbrev pub no_span : Span
no_span = record { frame = 0; stream = 0; write = false; first = 0; count = 0; offset = 0 }

-- a span by its number
abbrev pub span_at : Layout → ℕ → Span
span_at layout number = slice_index_or layout.spans number no_span

-- the numbers of the write spans of a stream
abbrev pub writers_on : Layout → ℕ → List ℕ
writers_on layout stream = slice_index_or layout.writers stream []

-- the write span at a place among those of a stream
abbrev pub writer_at : Layout → ℕ → ℕ → Span
writer_at layout stream place = span_at layout (slice_index (writers_on layout stream) place)

-- where a span ends: the first position behind it
abbrev pub end_of : Span → ℕ
end_of span = span.first + span.count

-- The write spans of a stream exist, and each begins where the one before it ends, or behind it.
pub record HasWriters (layout : Layout) (stream : ℕ) : Type 0 where
  pub few : length (writers_on layout stream) ≤ positions_limit
  pub exist : (place : ℕ) → place < length (writers_on layout stream) → slice_index (writers_on layout stream) place < length layout.spans
  pub write : (place : ℕ) → place < length (writers_on layout stream) → (writer_at layout stream place).write ≡ true
  pub on_stream : (place : ℕ) → place < length (writers_on layout stream) → (writer_at layout stream place).stream ≡ stream
  pub not_empty : (place : ℕ) → place < length (writers_on layout stream) → 1 ≤ (writer_at layout stream place).count
  pub in_order : (i j : ℕ) → i < j → j < length (writers_on layout stream) → end_of (writer_at layout stream i) ≤ (writer_at layout stream j).first
  pub small : (place : ℕ) → place < length (writers_on layout stream) → end_of (writer_at layout stream place) < 2 ^ 62

-- The place among the write spans of a stream of the first one that reaches past a position.
pub record FirstBehind (layout : Layout) (stream position place : ℕ) : Type 0 where
  pub within : place ≤ length (writers_on layout stream)
  pub before : (i : ℕ) → i < place → end_of (writer_at layout stream i) ≤ position
  pub behind : (i : ℕ) → place ≤ i → i < length (writers_on layout stream) → position < end_of (writer_at layout stream i)
