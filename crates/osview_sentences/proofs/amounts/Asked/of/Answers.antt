use Rattle.std.proofs.Common.{◌<◌, List, get_or, length, subst, sym}
use Rattle.collector.specs.Walking.{IsSpanIn}
use Rattle.collector.proofs.ReadPlaces.{span_in}
use Rattle.stream_match_layouts.specs.declared.span.Span.{Span}
use Rattle.osview_sentences.proofs.amounts.Asked.of.Goals as goal

pub note-requires : goal.note-requires
note-requires c =
    let layout = c.args.layout.now in
    let k = c.loop-span.span-index in
    let spans = c.as_slice-span-items.result.now in
    let same = sym c.as_slice-span-items.ensures in
    let inside : k < length layout.spans = subst (λ (xs : List Span). k < length xs) c.as_slice-span-items.ensures c.loop-span-test.true in
    (layout, subst (λ (xs : List Span). IsSpanIn layout (get_or xs k _)) same (span_in layout c.requires k inside))
