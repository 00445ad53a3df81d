use Rattle.std.proofs.Common.{◌≤◌, length}
use Rattle.epoch_run_ready.specs.Unreached.{AreJudged}
use Rattle.epoch_run_ready.proofs.unreached.are_judged.Given as goal

abbrev pub invariant-judging : goal.invariant-judging
invariant-judging l = record {
  within : l.left ≤ length l.readers;
  judged : AreJudged l.layout l.readers l.first l.low l.waits l.left;
}

abbrev pub decreases-judging : goal.decreases-judging
decreases-judging l = l.left
