use Rattle.std.proofs.Common.{◌≡◌, ◌+◌, length, take}
use Rattle.std.specs.List.{flat_map}
use Rattle.stream_match.specs.Weave.{total}
use Rattle.stream_match.specs.EpochPlan.{leaving_reaches}
use Rattle.stream_match.specs.EpochCode.{pieces_for, stretches_from, with_positions}
use Rattle.stream_match.proofs.reaching.leaving.Given as goal

abbrev pub invariant-loop-number : goal.invariant-loop-number
invariant-loop-number l = record {
  stretches : l.leaving.stretches ≡ with_positions (stretches_from (length l.frames) l.initial.leaving.next (leaving_reaches l.layout (take l.number l.frames) l.cursors));
  pieces : l.leaving.pieces ≡ flat_map (pieces_for l.layout l.frames) l.leaving.stretches;
  next : l.leaving.next ≡ l.initial.leaving.next + total (leaving_reaches l.layout (take l.number l.frames) l.cursors);
}
