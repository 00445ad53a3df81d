use Rattle.epoch_run_in_order.proofs.Joined.{AreJoinedUpTo}
use Rattle.epoch_run_in_order.proofs.streams.Streams.join.Given as goal

abbrev pub invariant-loop-stream : goal.invariant-loop-stream
invariant-loop-stream l = AreJoinedUpTo l.stream l.initial.self l.other l.self
