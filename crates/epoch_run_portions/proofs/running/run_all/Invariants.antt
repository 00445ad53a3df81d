use Rattle.std.proofs.Common.{List, ◌++◌, take}
use Rattle.flow_core_laws.specs.declared.activation.Activation.{Activation}
use Rattle.epoch_run_portions.specs.Positions.{HavePassed}
use Rattle.epoch_run_portions.specs.Running.{HaveRun}
use Rattle.epoch_run_portions.proofs.running.run_all.Given as goal

-- the activations before that of `activation-index` have run
abbrev pub invariant-loop-activation : goal.invariant-loop-activation
invariant-loop-activation l = record {
  ran : HaveRun l.code (take l.activation-index l.activations) l.input l.budget l.fn.positions l.fn.apart l.apart;
  passed : (before : List Activation) → HavePassed l.code.streams before l.fn.positions → HavePassed l.code.streams (before ++ take l.activation-index l.activations) l.positions;
}
