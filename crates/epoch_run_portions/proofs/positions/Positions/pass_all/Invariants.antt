use Rattle.std.proofs.Common.{ℕ, List, ◌++◌, take}
use Rattle.flow_core_laws.specs.declared.activation.Activation.{Activation}
use Rattle.epoch_run_portions.specs.Positions.{HavePassed}
use Rattle.epoch_run_portions.proofs.positions.Positions.pass_all.Given as goal

-- the activations before that of `activation-index` were passed
abbrev pub invariant-loop-activation : goal.invariant-loop-activation
invariant-loop-activation l = record {
  passed : (streams : ℕ) (passed : List Activation) → HavePassed streams passed l.initial.self → HavePassed streams (passed ++ take l.activation-index l.activations) l.self;
}
