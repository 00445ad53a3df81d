use Rattle.std.proofs.Common.{◌≡◌, ℕ, ◌+◌, ◌-◌, ◌<◌, [], List, Option, drop, length, get_or, min, ap, ◌∙◌, arith}
use Rattle.std.specs.Prelude.{slice_index}
use Rattle.std.proofs.lemmas.List.{get_or_default, get_or_read}
use Rattle.flow_core_laws.specs.declared.elem.Elem.{Elem}
use Rattle.epoch_run_in_order.specs.Streams.{elements_of, first_of}
use Rattle.epoch_run_in_order.proofs.Joined.{joined_back}
use Rattle.epoch_run_in_order.proofs.streams.Streams.join_on.Goals as goal

pub returns : goal.returns
returns c =
    let self = c.args.self.now in
    let other = c.args.other.now in
    let stream = c.args.stream in
    let lent = c.as_mut_slice.result.now in
    let held : List (Option Elem) = get_or lent stream c.index-as_mut_slice-stream.result in
    let exists : stream < length lent = omega (arith, ap length c.as_mut_slice.ensures.value, c.requires) in
    let there : stream < length other.elements = omega (arith, c.if-stream-len.false, c.len.ensures) in
    let held_is : held ≡ elements_of self stream =
    get_or_default lent stream c.index-as_mut_slice-stream.result [] exists ∙ ap (λ (es : List (List (Option Elem))). get_or es stream []) c.as_mut_slice.ensures.value in
    let has : stream < length c.as_slice.result.now = omega (arith, ap length c.as_slice.ensures, there) in
    let others_are : c.as_slice-others.result.now ≡ elements_of other stream =
    c.as_slice-others.ensures
    ∙ get_or_read c.as_slice.result.now stream c.index-as_slice-stream.result has c.index-as_slice-stream.is []
    ∙ ap (λ (es : List (List (Option Elem))). get_or es stream []) c.as_slice.ensures in
    let first : slice_index c.as_slice-2.result.now stream ≡ first_of self stream = ap (λ (fs : List ℕ). slice_index fs stream) c.as_slice-2.ensures in
    let other_first : slice_index c.as_slice-3.result.now stream ≡ first_of other stream = ap (λ (fs : List ℕ). slice_index fs stream) c.as_slice-3.ensures in
    let past : c.overlap-past.result ≡ min (first_of self stream + length held - first_of other stream) (length (elements_of other stream)) =
    omega (arith, c.overlap-past.ensures, c.cursor_of.ensures, first, c.len-2.ensures, c.cursor_of-2.ensures, other_first, ap length others_are) in
    joined_back self other stream lent held c.add_from.new.elements (drop c.overlap-past.result c.as_slice-others.result.now) c.overlap-past.result
    there c.as_mut_slice.ensures.value held_is c.in_ok-add_from.ensures (ap (λ (es : List (Option Elem)). drop c.overlap-past.result es) others_are) past
