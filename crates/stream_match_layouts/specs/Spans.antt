-- The spans of each activation, and how much spans read and write.
use Rattle.std.specs.Prelude.{ℕ, ◌+◌, ◌-◌, if◌then◌else◌, List, slice_index, take, drop, length, sum_by}
use Rattle.stream_match_layouts.specs.declared.span.Span.{Span}
use Rattle.stream_match_layouts.specs.declared.layout.Layout.{Layout}

-- how many activations a layout has
abbrev pub frame_count : Layout → ℕ
frame_count layout = length layout.starts - 1

-- how many positions a span reads, and writes
abbrev pub read_count : Span → ℕ
read_count span = if span.write then 0 else span.count

abbrev pub write_count : Span → ℕ
write_count span = if span.write then span.count else 0

-- how many cells the spans before a number have: one for each position that they read
abbrev pub cells_before : Layout → ℕ → ℕ
cells_before layout number = sum_by read_count (take number layout.spans)

-- where the spans of a frame begin
abbrev pub start_of : Layout → ℕ → ℕ
start_of layout frame = slice_index layout.starts frame

-- the spans of a frame
abbrev pub spans_of : Layout → ℕ → List Span
spans_of layout frame = take (start_of layout (frame + 1) - start_of layout frame) (drop (start_of layout frame) layout.spans)
