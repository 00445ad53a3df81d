use Rattle.std.proofs.Common.{◌≡◌, false, get_or, take}
use Rattle.std.specs.Prelude.{filter, not}
use Rattle.stream_match.specs.EpochCode.{Ascend}
use Rattle.epoch_run_ready.specs.Waiting.{AreMarked, AreMissing}
use Rattle.epoch_run_ready.proofs.marking.others.Given as goal

abbrev pub invariant-loop-number : goal.invariant-loop-number
invariant-loop-number l = record {
  marked : AreMarked l.layout l.readers l.initial.waits l.waits;
  missing : AreMissing l.layout l.waits l.missing;
  others : Ascend l.readers → l.others ≡ filter (λ a. not (get_or l.waits a false)) (take l.number l.readers);
}
