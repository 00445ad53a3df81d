use Rattle.std.proofs.Common.{◌≡◌, ◌-◌, List}
use Rattle.std.specs.List.{list_any, range_with_len}
use Rattle.flow_core_laws.specs.declared.activation.Activation.{Activation}
use Rattle.stream_match_layouts.specs.Layout.{IsLayoutOf}
use Rattle.collector.specs.Walking.{read_places}
use Rattle.wait_certs.specs.Searching.{is_produced_by}
use Rattle.wait_certs.proofs.awaiting.reads.Given as goal

-- no element before the position is that activation's to write
abbrev pub invariant-loop-position : goal.invariant-loop-position
invariant-loop-position l = (activations : List Activation) → IsLayoutOf l.layout activations
    → list_any (is_produced_by activations l.writer) (read_places l.span)
    ≡ list_any (λ position. is_produced_by activations l.writer (record { stream = l.span.stream; position = position })) (range_with_len l.position (l.end - l.position))
