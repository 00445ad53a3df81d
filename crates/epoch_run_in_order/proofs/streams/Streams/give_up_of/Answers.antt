use Rattle.std.proofs.Common.{◌≡◌, ℕ, ◌<◌, ◌≤◌, List, [], Option, length, get_or, drop, sym, ap, ◌∙◌, arith}
use Rattle.std.specs.Prelude.{slice_index}
use Rattle.std.proofs.lemmas.List.{get_or_read}
use Rattle.flow_core_laws.specs.declared.elem.Elem.{Elem}
use Rattle.flow_core_laws.specs.FirstPosition.{read_cursor}
use Rattle.flow_core_laws.specs.Place.{written_count}
use Rattle.flow_core_laws.specs.Window.{claims_of}
use Rattle.epoch_run_in_order_laws.specs.InOrder.{elements_on}
use Rattle.epoch_run_in_order.proofs.Held.{hold_given_up, hold_written_back, length-elements_on}
use Rattle.epoch_run_in_order.proofs.streams.Streams.give_up_of.Goals as goal

pub returns-clause-held : goal.returns-clause-held
returns-clause-held c = λ activations input state is h.
    let elements = c.args.self.now.elements in
    let firsts = c.args.self.now.firsts in
    let stream = c.args.stream in
    let all = elements_on activations input state stream in
    let many : length all ≡ written_count activations stream = length-elements_on activations input state stream in
    let claimed : slice_index firsts stream ≤ written_count activations stream = h.are_claimed stream c.requires.exists in
    let read : slice_index firsts stream ≤ read_cursor stream (claims_of activations) = h.are_read_no_more stream c.requires.exists in
    let f : slice_index c.as_slice.result.now stream ≡ slice_index firsts stream = ap (λ (xs : List ℕ). slice_index xs stream) c.as_slice.ensures in
    let lent : length c.as_mut_slice.result.now ≡ length elements = ap length c.as_mut_slice.ensures.value in
    let exists : stream < length c.as_mut_slice.result.now = omega (arith, lent, c.requires.exists) in
    let old : c.index-as_mut_slice-stream.result ≡ drop (slice_index c.as_slice.result.now stream) all =
    get_or_read c.as_mut_slice.result.now stream c.index-as_mut_slice-stream.result exists c.index-as_mut_slice-stream.is []
    ∙ ap (λ (xs : List (List (Option Elem))). get_or xs stream []) c.as_mut_slice.ensures.value
    ∙ h.are_theirs stream (omega arith) c.requires.exists
    ∙ ap (λ (n : ℕ). drop n all) (sym f) in
    let up = c.in_ok-first.ensures.elements all (omega (arith, f, many, claimed)) (sym c.index-as_mut_slice-stream.is ∙ old) in
    let few = c.in_ok-first.ensures.few in
    let within : c.in_ok-first.first ≤ written_count activations stream = omega (arith, up.0, many) in
    let behind : c.in_ok-first.first ≤ read_cursor stream (claims_of activations) = omega (arith, few, f, read, is) in
    hold_written_back activations input state elements firsts stream c.give_up_on.new.elements c.in_ok-first.first c.as_mut_slice.result.now c.as_mut_slice-2.result.now c.as_mut_slice.ensures.value c.as_mut_slice-2.ensures.value
    (hold_given_up activations input state elements firsts stream c.give_up_on.new.elements c.in_ok-first.first c.requires.declared c.requires.exists up.1 within behind h)
