use Rattle.std.proofs.Common.{◌≡◌, ◌≤◌, ◌-◌, List, find}
use Rattle.std.specs.List.{range_with_len}
use Rattle.flow_core_laws.specs.declared.activation.Activation.{Activation}
use Rattle.stream_match_layouts.specs.Layout.{IsLayoutOf}
use Rattle.collector.specs.Walking.{is_gap}
use Rattle.collector.proofs.missing.missing_between.Given as goal

-- no element before the position is missing
abbrev pub invariant-loop-position : goal.invariant-loop-position
invariant-loop-position l = record {
  within : l.position ≤ l.end;
  passed : (activations : List Activation) → IsLayoutOf l.layout activations
      → find (is_gap activations l.layout.input_len l.ends.ends l.stream) (range_with_len l.first (l.end - l.first))
      ≡ find (is_gap activations l.layout.input_len l.ends.ends l.stream) (range_with_len l.position (l.end - l.position));
}

abbrev pub decreases-loop-position : goal.decreases-loop-position
decreases-loop-position l = l.end - l.position
