-- There are the elements of the read claims so far.
use Rattle.std.proofs.Common.{◌≡◌, length, not, filter, sum_by, take}
use Rattle.flow_core_laws.specs.declared.claim.Claim.{Claim as TheClaim}
use Rattle.compiler_tests.proofs.elements.inputs_of.Given as goal

abbrev pub invariant-loop-claim : goal.invariant-loop-claim
invariant-loop-claim g l =
    length l.inputs.items ≡ sum_by (λ (claim : TheClaim). claim.horizon) (filter (λ (claim : TheClaim). not claim.write) (take l.claim-index l.claims))
