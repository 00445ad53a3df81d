use Rattle.std.proofs.Common.{◌≡◌, ◌++◌}
use Rattle.std.specs.Prelude.{None, replicate}
use Rattle.stream_match.proofs.filling.fill_empty.Given as goal

abbrev pub invariant-loop : goal.invariant-loop
invariant-loop l = l.cells ≡ l.initial.cells ++ replicate l.counter None
