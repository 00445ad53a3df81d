-- Positions of streams that are lowered to where spans begin that write to them.
use Rattle.std.specs.Prelude.{◌≡◌, ℕ, Bool, true, ◌&&◌, ◌==◌, min, if◌then◌else◌, List, Contains}
use Rattle.stream_match_layouts.specs.declared.span.Span.{Span}

-- whether a span writes to a stream
abbrev pub is_written_on : ℕ → Span → Bool
is_written_on stream span = span.write && span.stream == stream

-- the position of a stream after a span
abbrev pub lowered : ℕ → Span → ℕ → ℕ
lowered stream span position = if is_written_on stream span then min position span.first else position

-- A position of a stream after some spans: it is the one before them, or one of them begins there that writes to the stream.
pub data IsLowered (spans : List Span) (stream before after : ℕ) : Type 0 where
  as_before : after ≡ before → IsLowered spans stream before after
  to_write : (span : Span) → Contains spans span → span.write ≡ true → span.stream ≡ stream → after ≡ span.first → IsLowered spans stream before after
