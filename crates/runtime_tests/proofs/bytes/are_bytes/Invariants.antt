use Rattle.std.proofs.Common.{All, take}
use Rattle.collector.specs.Written.{IsByteIfThere}
use Rattle.runtime_tests.proofs.bytes.are_bytes.Given as goal

abbrev pub invariant-loop-element : goal.invariant-loop-element
invariant-loop-element l = All IsByteIfThere (take l.element-index l.elements)
