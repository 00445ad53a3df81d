use Rattle.std.proofs.Common.{◌≡◌, List, drop}
use Rattle.std.specs.List.{flat_map, list_any}
use Rattle.flow_core_laws.specs.declared.activation.Activation.{Activation}
use Rattle.stream_match_layouts.specs.Layout.{IsLayoutOf}
use Rattle.collector.specs.Walking.{read_places}
use Rattle.wait_certs.specs.Searching.{is_produced_by}
use Rattle.wait_certs.proofs.awaiting.any_reads.Given as goal

-- the spans before this one read none
abbrev pub invariant-loop-span : goal.invariant-loop-span
invariant-loop-span l = (activations : List Activation) → IsLayoutOf l.layout activations
    → list_any (is_produced_by activations l.writer) (flat_map read_places l.spans)
    ≡ list_any (is_produced_by activations l.writer) (flat_map read_places (drop l.span-index l.spans))
