-- Lines. A line is ended by a line feed.
use Rattle.std.specs.Prelude.{◌≡◌, ℕ, ◌+◌, ◌-◌, ◌<◌, ◌⊎◌, List, length, take, count_by, slice_index}
use Rattle.os_lexer.specs.Bytes.{is_line_feed}

-- the line of a point is 1 plus the number of line feeds before it
abbrev pub line_of : List ℕ → ℕ → ℕ
line_of text point = 1 + count_by is_line_feed (take point text)

-- the line feed at point i has a backslash before it, or a backslash and a carriage return
abbrev pub EndsJoinedLine : List ℕ → ℕ → Type 0
EndsJoinedLine s i = (slice_index s (i - 1) ≡ 92) ⊎ ((slice_index s (i - 1) ≡ 13) × (slice_index s (i - 2) ≡ 92))

-- in a `//` comment and in a `#` line each line feed is that of a joined line
abbrev pub StaysOnLine : List ℕ → Type 0
StaysOnLine s = (i : ℕ) → i < length s → slice_index s i ≡ 10 → EndsJoinedLine s i
