use Rattle.std.proofs.Common.{◌≡◌, take}
use Rattle.machine_tests.proofs.written.list_of.Given as goal

abbrev pub invariant-loop-item : goal.invariant-loop-item
invariant-loop-item g l = l.list ≡ take l.item-index l.items
