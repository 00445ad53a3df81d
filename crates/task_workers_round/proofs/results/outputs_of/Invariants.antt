use Rattle.std.proofs.Common.{◌≡◌, ◌+◌, drop}
use Rattle.task_workers_round.specs.Results.{room_of}
use Rattle.task_workers_round.proofs.results.outputs_of.Given as goal

abbrev pub invariant-loop-frame : goal.invariant-loop-frame
invariant-loop-frame l = l.count + room_of l.plan (drop l.frame-index l.frames) ≡ room_of l.plan l.frames
