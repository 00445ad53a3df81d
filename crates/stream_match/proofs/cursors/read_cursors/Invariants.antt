use Rattle.std.proofs.Common.{◌≡◌, ℕ, min, length, take}
use Rattle.std.specs.Prelude.{fold, slice_index}
use Rattle.stream_match.proofs.Lowering.{frame_firsts}
use Rattle.stream_match.proofs.cursors.read_cursors.Given as goal

abbrev pub invariant-loop-frame : goal.invariant-loop-frame
invariant-loop-frame l = record {
  length : length l.cursors.items ≡ length l.layout.cursors.reads;
  lowered : (stream : ℕ) → slice_index l.cursors.items stream ≡ fold min (slice_index l.layout.cursors.reads stream) (frame_firsts l.layout stream (take l.frame-index l.frames));
}
