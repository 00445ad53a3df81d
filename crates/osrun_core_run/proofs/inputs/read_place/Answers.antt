use Rattle.std.proofs.Common.{◌∙◌, ◌+◌, ◌-◌, arith, sym, ap, drop, slice_get}
use Rattle.std.specs.List.{flat_map}
use Rattle.collector.specs.Walking.{read_places}
use Rattle.osrun_core_run.proofs.InputPlaces.{in_span, past_span}
use Rattle.osrun_core_run.proofs.inputs.read_place.Goals as goal

pub returns-then-left-count : goal.returns-then-left-count
returns-then-left-count c =
    let spans = c.args.spans.now in
    c.loop-span.invariant
    ∙ in_span spans c.loop-span.span-index _ c.loop-span.left _ c.loop-span-test.true (omega (arith, c.read_count-count.ensures, c.if-left-count.true)) c.place_in.ensures

pub loop-span-preserved : goal.loop-span-preserved
loop-span-preserved c =
    let spans = c.args.spans.now in
    let k = c.loop-span.span-index in
    c.loop-span.invariant
    ∙ past_span spans k _ c.loop-span.left c.loop-span-test.true (omega (arith, c.read_count-count.ensures, c.if-left-count.false))
    ∙ ap (λ n. slice_get (flat_map read_places (drop (k + 1) spans)) (c.loop-span.left - n)) (sym c.read_count-count.ensures)
