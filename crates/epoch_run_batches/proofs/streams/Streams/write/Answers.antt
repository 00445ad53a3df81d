use Rattle.std.proofs.Common.{◌≡◌, ℕ, ◌<◌, List, [], Option, length, get_or, sym, ap, ◌∙◌, subst, refl, arith}
use Rattle.std.specs.Prelude.{slice_set, slice_index}
use Rattle.std.proofs.lemmas.List.{get_or_read, length-set}
use Rattle.flow_core_laws.specs.declared.elem.Elem.{Elem}
use Rattle.epoch_run_batches.specs.Meant.{AreMeant}
use Rattle.epoch_run_batches.proofs.Written.{lent_is, stream_meant}
use Rattle.epoch_run_batches.proofs.streams.Streams.write.Goals as goal

pub returns-clause-meant : goal.returns-clause-meant
returns-clause-meant c = λ run written holds.
    let was = c.args.self.now in
    let stream = c.args.span.now.stream in
    let lent = c.as_mut_slice.result.now in
    let value : lent ≡ was.elements = c.as_mut_slice.ensures.value in
    let lt : stream < length was.elements = omega (arith, c.if-stream-len.false, c.len.ensures) in
    let more : List (Option Elem) = c.write_on.new.elements in
    let old : c.index-as_mut_slice-stream.result ≡ get_or was.elements stream [] =
    get_or_read lent stream c.index-as_mut_slice-stream.result (omega (arith, lt, ap length value)) c.index-as_mut_slice-stream.is [] ∙ ap (λ (xs : List (List (Option Elem))). get_or xs stream []) value in
    stream_meant run was _ stream more lt refl
    (lent_is was.elements (slice_set lent stream more) (length-set lent stream more ∙ ap length value) ∙ ap (λ (xs : List (List (Option Elem))). slice_set xs stream more) value)
    (λ meant. subst (λ first. AreMeant run stream first more) (ap (λ (xs : List ℕ). slice_index xs stream) c.as_slice.ensures)
    (c.in_ok-write_on.ensures run written
    (subst (λ first. AreMeant run stream first (get_or lent stream c.index-as_mut_slice-stream.result)) (sym (ap (λ (xs : List ℕ). slice_index xs stream) c.as_slice.ensures))
    (subst (AreMeant run stream (slice_index was.firsts stream)) (sym old ∙ c.index-as_mut_slice-stream.is) meant))))
    holds
