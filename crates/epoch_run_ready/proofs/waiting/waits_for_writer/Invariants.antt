use Rattle.std.proofs.Common.{◌-◌, ◌≤◌, length}
use Rattle.stream_match_layouts.specs.Writers.{writers_on}
use Rattle.epoch_run_ready.proofs.waiting.waits_for_writer.Given as goal

abbrev pub invariant-writers : goal.invariant-writers
invariant-writers l = l.place ≤ length (writers_on l.layout l.span.stream)

abbrev pub decreases-writers : goal.decreases-writers
decreases-writers l = length (writers_on l.layout l.span.stream) - l.place
