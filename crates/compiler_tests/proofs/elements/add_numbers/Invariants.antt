-- As many elements were added as the counter says.
use Rattle.std.proofs.Common.{◌≡◌, ◌+◌, length}
use Rattle.compiler_tests.proofs.elements.add_numbers.Given as goal

abbrev pub invariant-loop : goal.invariant-loop
invariant-loop g l = length l.elements.items ≡ length l.fn.elements.items + l.counter
