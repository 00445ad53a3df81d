use Rattle.std.proofs.Common.{◌<◌, ◌≡◌, [], List, Option, get_or, length, sym, ap, subst, ◌∙◌, arith}
use Rattle.std.specs.Prelude.{slice_index, slice_index_or}
use Rattle.std.proofs.lemmas.List.{get_or_read}
use Rattle.flow_core_laws.specs.declared.elem.Elem.{Elem}
use Rattle.epoch_run_batches.specs.Meant.{AreMeant}
use Rattle.epoch_run_stretch.proofs.streams.put_stream.Goals as goal

pub returns-clause-meant : goal.returns-clause-meant
returns-clause-meant c = λ run holds before.
    let wrote = c.args.wrote.now in
    let stream = c.args.stream in
    let lists = c.as_slice-2.result.now in
    let lt : stream < length lists = omega (arith, c.if-stream-len-2.false, c.len-2.ensures, ap length c.as_slice-2.ensures) in
    let held_is : c.as_slice-3.result.now ≡ slice_index_or wrote.elements stream [] =
    c.as_slice-3.ensures ∙ get_or_read lists stream c.index-as_slice-stream.result lt c.index-as_slice-stream.is [] ∙ ap (λ (es : List (List (Option Elem))). get_or es stream []) c.as_slice-2.ensures in
    let meant = subst (λ first. AreMeant run stream first (slice_index_or wrote.elements stream [])) (ap (λ fs. slice_index fs stream) (sym c.as_slice.ensures)) (holds stream) in
    c.put_elements.ensures.meant run stream (subst (AreMeant run stream (slice_index c.as_slice.result.now stream)) (sym held_is) meant) before
