use Rattle.std.proofs.Common.{◌≡◌, ◌++◌, List, length, take}
use Rattle.flow_core_laws.specs.declared.activation.Activation.{Activation}
use Rattle.stream_match_layouts.specs.Layout.{IsLayoutOf}
use Rattle.stream_match_layouts.proofs.layout.Layout.add_all.Given as goal

-- the activations so far were added
abbrev pub invariant-loop-activation : goal.invariant-loop-activation
invariant-loop-activation l = record {
  added : (before : List Activation) → IsLayoutOf l.initial.self before → IsLayoutOf l.self (before ++ take l.activation-index l.activations);
  streams : length l.self.writers ≡ length l.initial.self.writers;
  input_len : l.self.input_len ≡ l.initial.self.input_len;
}
