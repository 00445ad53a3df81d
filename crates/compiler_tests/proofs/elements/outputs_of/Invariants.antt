-- There are the elements of the write claims so far.
use Rattle.std.proofs.Common.{◌≡◌, length, filter, sum_by, take}
use Rattle.flow_core_laws.specs.declared.claim.Claim.{Claim as TheClaim}
use Rattle.compiler_tests.proofs.elements.outputs_of.Given as goal

abbrev pub invariant-loop-claim : goal.invariant-loop-claim
invariant-loop-claim g l =
    length l.outputs.items ≡ sum_by (λ (claim : TheClaim). claim.horizon) (filter (λ (claim : TheClaim). claim.write) (take l.claim-index l.claims))
