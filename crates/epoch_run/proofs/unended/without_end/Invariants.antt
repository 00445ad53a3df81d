use Rattle.std.proofs.Common.{◌≡◌, take}
use Rattle.std.specs.Prelude.{filter, is_none}
use Rattle.flow_core_laws.specs.Outcome.{outcome_at}
use Rattle.epoch_run.proofs.unended.without_end.Given as goal

abbrev pub invariant-loop-activation : goal.invariant-loop-activation
invariant-loop-activation l = l.left ≡ filter (λ a. is_none (outcome_at l.ends a)) (take l.activation-index l.activations)
