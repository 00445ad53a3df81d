use Rattle.std.proofs.Common.{◌≡◌, ◌+◌, ◌≤◌, length, drop, sum_by}
use Rattle.std.specs.List.{filter}
use Rattle.flow_core_laws.specs.declared.claim.Claim.{Claim as TheClaim}
use Rattle.task_vm.specs.Ending.{all_bytes_from}
use Rattle.task_vm.proofs.task.all_bytes.Given as goal

abbrev pub invariant-loop-claim : goal.invariant-loop-claim
invariant-loop-claim l = record {
  rest : all_bytes_from (drop l.claim-index l.claims) (drop l.first l.outputs) ≡ all_bytes_from l.claims l.outputs;
  whole : l.first + sum_by (λ (claim : TheClaim). claim.horizon) (filter (λ (claim : TheClaim). claim.write) (drop l.claim-index l.claims)) ≤ length l.outputs;
}
