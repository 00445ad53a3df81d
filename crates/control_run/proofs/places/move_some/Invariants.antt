use Rattle.std.proofs.Common.{◌≡◌, ◌+◌, ◌++◌, drop, take}
use Rattle.control_run.proofs.InPlace.{AreLeft}
use Rattle.control_run.proofs.places.move_some.Given as goal

abbrev pub invariant-loop-moved : goal.invariant-loop-moved
invariant-loop-moved l = record {
  moved : l.into ≡ l.initial.into ++ take l.moved (drop l.first l.initial.activations);
  left : AreLeft (l.first + l.moved) l.initial.activations l.activations;
}
