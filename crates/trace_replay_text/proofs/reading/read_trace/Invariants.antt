use Rattle.std.proofs.Common.{◌≡◌, ◌++◌, length}
use Rattle.std.specs.List.{AllByRecursion}
use Rattle.trace_replay_text.specs.Trace.{AreNumbers, trace}
use Rattle.trace_replay_text.proofs.reading.read_trace.Given as goal

-- the lines of the workers so far stand before the rest
abbrev pub invariant-loop-worker : goal.invariant-loop-worker
invariant-loop-worker l = record {
  counted : length l.lists ≡ l.worker;
  numbers : AllByRecursion AreNumbers l.lists;
  spelled : l.text ≡ trace l.lists ++ l.rest;
}
