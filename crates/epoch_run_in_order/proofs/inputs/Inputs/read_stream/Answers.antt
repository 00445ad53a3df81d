use Rattle.std.proofs.Common.{◌≡◌, ℕ, ◌+◌, ◌-◌, ◌<◌, List, [], ◌++◌, Bool, true, Option, length, get_or, take, drop, ap, ◌∙◌, arith}
use Rattle.std.proofs.lemmas.List.{get_or_read}
use Rattle.std.proofs.lemmas.Result.{IfOk-weaker}
use Rattle.flow_core_laws.specs.declared.elem.Elem.{Elem}
use Rattle.epoch_run_in_order.specs.Reading.{AreRead, covered}
use Rattle.epoch_run_in_order.specs.Streams.{elements_of}
use Rattle.epoch_run_in_order.proofs.Reading.{read_of_stream}
use Rattle.epoch_run_in_order.proofs.inputs.Inputs.read_stream.Goals as goal

pub returns : goal.returns
returns c =
    let span = c.args.span.now in
    let streams = c.args.streams.now in
    let at = c.in-Some.at in
    let lent : length c.as_slice.result.now ≡ length streams.elements = ap length c.as_slice.ensures in
    let exists : span.stream < length c.as_slice.result.now = omega (arith, lent, c.requires.exists) in
    let are : c.as_slice-elements.result.now ≡ elements_of streams span.stream =
    c.as_slice-elements.ensures ∙ get_or_read c.as_slice.result.now span.stream c.index-as_slice-span.result exists c.index-as_slice-span.is [] ∙ ap (λ (xs : List (List (Option Elem))). get_or xs span.stream []) c.as_slice.ensures in
    let n : ℕ = at + span.count - at in
    IfOk-weaker c.add_all.result
    (λ (there : Bool). there ≡ true → (cells : List (Option Elem)) → AreRead cells c.args.self.now → AreRead (cells ++ take n (drop at c.as_slice-elements.result.now)) c.add_all.new.self)
    (λ (there : Bool). there ≡ true → (input : List ℕ) (cells : List (Option Elem)) → AreRead cells c.args.self.now → AreRead (cells ++ covered streams input span) c.add_all.new.self)
    (λ there p is input cells r. read_of_stream streams input span c.add_all.new.self cells at n c.as_slice-elements.result.now c.requires.other c.in-Some.ensures are (omega arith) (p is cells r))
    c.add_all.ensures
