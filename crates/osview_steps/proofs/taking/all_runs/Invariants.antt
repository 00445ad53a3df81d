use Rattle.std.proofs.Common.{◌≡◌, length}
use Rattle.os_code.specs.Codes.{parts_of}
use Rattle.osview_steps.specs.Taking.{HaveRun}
use Rattle.task_vm.specs.Space.{IsMadeFor}
use Rattle.osview_steps.proofs.taking.all_runs.Given as goal

-- the activations before this one were run
abbrev pub invariant-loop-place : goal.invariant-loop-place
invariant-loop-place l = record {
  many : length l.runs ≡ l.place;
  exact : HaveRun (parts_of l.code) l.activations l.budget l.outcomes l.runs;
  made : IsMadeFor (parts_of l.code) l.scratch;
}
