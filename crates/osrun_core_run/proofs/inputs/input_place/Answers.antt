use Rattle.std.proofs.Common.{◌+◌, ◌<◌, ◌^◌, ◌∙◌, All, ap, slice_get, subst, sym}
use Rattle.std.specs.List.{flat_map}
use Rattle.std.specs.Prelude.{IsSome}
use Rattle.collector.specs.Walking.{read_places}
use Rattle.osrun_core_run.proofs.InputPlaces.{places_by_spans, spans_fit}
use Rattle.osrun_core_run.proofs.inputs.input_place.Goals as goal
use Rattle.stream_match_layouts.specs.Spans.{read_count}
use Rattle.stream_match_layouts.specs.declared.span.Span.{Span}

pub read_place-requires-clause-fit : goal.read_place-requires-clause-fit
read_place-requires-clause-fit c =
    subst (All (λ (span : Span). span.first + read_count span < 2 ^ 63)) (sym c.spans_of.ensures)
    (spans_fit c.args.layout.now c.requires.layout c.args.activation c.requires.activation)

pub read_place-requires-clause-exists : goal.read_place-requires-clause-exists
read_place-requires-clause-exists c =
    subst (λ spans. IsSome (slice_get (flat_map read_places spans) c.args.number)) (sym c.spans_of.ensures) c.requires.exists

pub returns : goal.returns
returns c activations of =
    ap (λ places. slice_get places c.args.number) (sym (places_by_spans c.args.layout.now activations of c.args.activation c.requires.activation))
    ∙ ap (λ spans. slice_get (flat_map read_places spans) c.args.number) (sym c.spans_of.ensures) ∙ c.read_place.ensures
