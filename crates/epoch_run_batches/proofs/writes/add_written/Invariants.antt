use Rattle.std.proofs.Common.{◌≡◌, ◌++◌, map}
use Rattle.std.specs.List.{range_with_len}
use Rattle.flow_core_laws.specs.Element.{output_element}
use Rattle.epoch_run_batches.proofs.writes.add_written.Given as goal

abbrev pub invariant-loop-k : goal.invariant-loop-k
invariant-loop-k l = l.elements ≡ l.initial.elements ++ map (output_element l.root l.outputs) (range_with_len l.span.offset l.k)
