use Rattle.std.proofs.Common.{◌≡◌, ◌++◌, map}
use Rattle.std.specs.List.{range_with_len}
use Rattle.stream_match.specs.EpochPlan.{opening_element}
use Rattle.stream_match.proofs.filling.fill_given.Given as goal

abbrev pub invariant-loop-offset : goal.invariant-loop-offset
invariant-loop-offset l = l.cells ≡ l.initial.cells ++ map (opening_element l.input 0) (range_with_len l.first l.offset)
