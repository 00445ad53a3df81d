use Rattle.std.proofs.Common.{◌++◌, List, take}
use Rattle.flow_core_laws.specs.declared.activation.Activation.{Activation}
use Rattle.stream_match_layouts.specs.Layout.{IsLayoutOf}
use Rattle.epoch_run.specs.NextSpans.{joined}
use Rattle.epoch_run.proofs.next_spans.NextSpans.add_all.Given as goal

-- the activations so far were added
abbrev pub invariant-loop-activation : goal.invariant-loop-activation
invariant-loop-activation l = record {
  added : (before : List Activation) → IsLayoutOf (joined l.layout l.initial.self) before → IsLayoutOf (joined l.layout l.self) (before ++ take l.activation-index l.activations);
}
