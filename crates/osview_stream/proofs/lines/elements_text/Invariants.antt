use Rattle.std.proofs.Common.{◌≡◌, ◌-◌, List}
use Rattle.std.specs.List.{flat_map, range_with_len}
use Rattle.flow_core_laws.specs.Outcome.{State}
use Rattle.flow_core_laws.specs.declared.activation.Activation.{Activation}
use Rattle.osview_outcomes.specs.Outcomes.{AreOutcomesOf}
use Rattle.osview_stream.specs.Elements.{element_line}
use Rattle.stream_match_layouts.specs.Layout.{IsLayoutOf}
use Rattle.osview_stream.proofs.lines.elements_text.Given as goal

-- the lines so far were added
abbrev pub invariant-loop-position : goal.invariant-loop-position
invariant-loop-position l = (activations : List Activation) (state : State) → IsLayoutOf l.over.layout.now activations → AreOutcomesOf l.over.outcomes.now state
    → l.told ≡ flat_map (element_line l.over.lines.now activations l.over.input.now state l.stream) (range_with_len l.first (l.position - l.first))
