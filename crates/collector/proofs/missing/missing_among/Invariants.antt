use Rattle.std.proofs.Common.{◌≡◌, List, find, drop}
use Rattle.std.specs.List.{flat_map}
use Rattle.flow_core_laws.specs.declared.activation.Activation.{Activation}
use Rattle.stream_match_layouts.specs.Layout.{IsLayoutOf}
use Rattle.collector.specs.Walking.{is_missing, read_places}
use Rattle.collector.proofs.missing.missing_among.Given as goal

-- no element that the spans so far read is missing
abbrev pub invariant-loop-span : goal.invariant-loop-span
invariant-loop-span l = (activations : List Activation) → IsLayoutOf l.layout activations
    → find (is_missing activations l.layout.input_len l.ends.ends) (flat_map read_places l.spans)
    ≡ find (is_missing activations l.layout.input_len l.ends.ends) (flat_map read_places (drop l.span-index l.spans))
