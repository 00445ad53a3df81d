use Rattle.std.proofs.Common.{◌≡◌, ◌+◌, ◌++◌, length, take, drop, sum_by}
use Rattle.flow_core_laws.specs.declared.claim.Claim.{Claim as TheClaim}
use Rattle.task_vm.specs.ItemRanges.{ranges_of}
use Rattle.task_vm.proofs.ranges.set_ranges.Given as goal

abbrev pub invariant-loop-item : goal.invariant-loop-item
invariant-loop-item l = record {
  counted : length l.ranges ≡ 8;
  made : take l.item l.ranges ++ ranges_of (drop l.item l.claims) l.inputs l.outputs ≡ ranges_of l.claims 0 0;
  few : l.inputs + l.outputs + sum_by (λ (claim : TheClaim). claim.horizon) (drop l.item l.claims) ≡ sum_by (λ (claim : TheClaim). claim.horizon) l.claims;
}
