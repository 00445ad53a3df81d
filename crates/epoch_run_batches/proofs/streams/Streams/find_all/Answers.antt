use Rattle.std.proofs.Common.{◌≡◌, ℕ, ◌-◌, ◌<◌, List, [], Option, length, get_or, ap, ◌∙◌, arith}
use Rattle.std.specs.Prelude.{slice_index, slice_index_or}
use Rattle.std.proofs.lemmas.List.{get_or_read}
use Rattle.flow_core_laws.specs.declared.elem.Elem.{Elem}
use Rattle.epoch_run_batches.specs.Found.{AreAt, held_over}
use Rattle.epoch_run_batches.proofs.Finding.{IfSome-weaker}
use Rattle.epoch_run_batches.proofs.Slices.{held_at_places}
use Rattle.epoch_run_batches.proofs.streams.Streams.find_all.Goals as goal

pub returns : goal.returns
returns c =
    let span = c.args.span.now in
    let streams = c.args.self.now in
    let lists = c.as_slice-2.result.now in
    let lt : span.stream < length lists = omega (arith, c.if-stream-len.false, c.len.ensures, ap length c.as_slice-2.ensures) in
    let theirs : c.as_slice-elements.result.now ≡ slice_index_or streams.elements span.stream [] =
    c.as_slice-elements.ensures ∙ get_or_read lists span.stream c.index-as_slice-stream.result lt c.index-as_slice-stream.is [] ∙ ap (λ (xs : List (List (Option Elem))). get_or xs span.stream []) c.as_slice-2.ensures in
    let first : slice_index c.as_slice.result.now span.stream ≡ slice_index streams.firsts span.stream = ap (λ (xs : List ℕ). slice_index xs span.stream) c.as_slice.ensures in
    IfSome-weaker c.elements_at.result (λ are. AreAt c.as_slice-elements.result.now (span.first - slice_index c.as_slice.result.now span.stream) span.count are.now) (λ are. are.now ≡ held_over streams span)
    (λ are at. held_at_places streams span c.as_slice-elements.result.now are.now _ theirs (omega (arith, first, c.if-span-first.false)) (omega (arith, first)) at)
    c.elements_at.ensures
