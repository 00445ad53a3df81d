use Rattle.std.proofs.Common.{◌≡◌, ◌+◌, ◌++◌, map, take}
use Rattle.stream_match.specs.Weave.{total}
use Rattle.stream_match.specs.EpochPlan.{leaving_reach}
use Rattle.stream_match.specs.EpochCode.{left_pieces, stretches_from, with_positions}
use Rattle.stream_match.proofs.reaching.Left.add_leaving.Given as goal

abbrev pub invariant-loop-span : goal.invariant-loop-span
invariant-loop-span l = record {
  stretches : l.self.stretches ≡ l.initial.self.stretches ++ with_positions (stretches_from l.to l.initial.self.next (map (leaving_reach l.cursors) (take l.span-index l.spans)));
  pieces : l.self.pieces ≡ l.initial.self.pieces ++ left_pieces l.cursors l.from l.to l.initial.self.next (take l.span-index l.spans);
  next : l.self.next ≡ l.initial.self.next + total (map (leaving_reach l.cursors) (take l.span-index l.spans));
}
