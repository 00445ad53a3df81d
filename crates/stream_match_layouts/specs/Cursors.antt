-- The cursors of streams, those for reading and those for writing, and how a claim moves them.
use Rattle.std.specs.Prelude.{ℕ, ◌+◌, ◌^◌, ◌<◌, length, slice_index, slice_set, if◌then◌else◌}
use Rattle.flow_core_laws.specs.declared.claim.Claim.{Claim}
use Rattle.stream_match_layouts.specs.declared.cursors.Cursors.{Cursors}
use Rattle.stream_match_layouts.specs.declared.span.Span.{Span}

-- the cursors that a claim moves are there, and don't pass the end of their type
pub record HasCursors (cursors : Cursors) (claim : Claim) : Type 0 where
  pub read_cursor_exists : claim.stream < length cursors.reads
  pub write_cursor_exists : claim.stream < length cursors.writes
  pub read_cursor_fits : slice_index cursors.reads claim.stream + (claim.skip + claim.burst) < 2 ^ 62
  pub write_cursor_fits : slice_index cursors.writes claim.stream + claim.horizon < 2 ^ 62

-- where a claim begins by the cursors
abbrev pub first_of : Cursors → Claim → ℕ
first_of cursors claim =
    if claim.write then slice_index cursors.writes claim.stream else slice_index cursors.reads claim.stream + claim.skip

-- the span of a claim of a frame, with `offset` inputs or outputs of the frame before it
abbrev pub span_by : Cursors → (frame : ℕ) → Claim → (offset : ℕ) → Span
span_by cursors frame claim offset = record {
  frame = frame;
  stream = claim.stream;
  write = claim.write;
  first = first_of cursors claim;
  count = claim.horizon;
  offset = offset;
}

-- the cursors behind a claim
abbrev pub moved_by : Cursors → Claim → Cursors
moved_by cursors claim = record {
  reads = if claim.write then cursors.reads else slice_set cursors.reads claim.stream (first_of cursors claim + claim.burst);
  writes = if claim.write then slice_set cursors.writes claim.stream (first_of cursors claim + claim.horizon) else cursors.writes;
}
