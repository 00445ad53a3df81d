use Rattle.std.proofs.Common.{◌≡◌, ◌++◌, take}
use Rattle.epoch_run.proofs.Moving.{AreLeft}
use Rattle.epoch_run.proofs.adding.move_all.Given as goal

abbrev pub invariant-loop-number : goal.invariant-loop-number
invariant-loop-number l = record {
  moved : l.activations ≡ l.initial.activations ++ take l.number l.initial.next;
  left : AreLeft l.number l.initial.next l.next;
}
