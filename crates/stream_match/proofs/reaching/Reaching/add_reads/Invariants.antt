use Rattle.std.proofs.Common.{◌≡◌, ◌+◌, ◌++◌, map, take}
use Rattle.stream_match.specs.Weave.{total}
use Rattle.stream_match.specs.EpochPlan.{read_reach}
use Rattle.stream_match.specs.EpochCode.{stretches_from, with_positions}
use Rattle.stream_match.proofs.reaching.Reaching.add_reads.Given as goal

abbrev pub invariant-loop-span : goal.invariant-loop-span
invariant-loop-span l = record {
  stretches : l.self.stretches ≡ l.initial.self.stretches ++ with_positions (stretches_from l.to l.initial.self.next (map read_reach (take l.span-index l.spans)));
  next : l.self.next ≡ l.initial.self.next + total (map read_reach (take l.span-index l.spans));
}
