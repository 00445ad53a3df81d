use Rattle.std.proofs.Common.{◌≡◌, ◌+◌, List, [], ◌∷◌, ◌++◌, Option, Some, map, sym, ap, ◌∙◌, append_assoc}
use Rattle.std.specs.List.{range_with_len}
use Rattle.flow_core_laws.specs.declared.elem.Elem.{Elem}
use Rattle.flow_core_laws.specs.Element.{output_element}
use Rattle.flow_core_laws.proofs.Stretches.{map-range-add}
use Rattle.epoch_run_batches.proofs.writes.add_written.Goals as goal

pub loop-k-preserved : goal.loop-k-preserved
loop-k-preserved c =
    let f = output_element c.args.root c.args.outputs.now in
    let offset = c.args.span.now.offset in
    let k = c.loop-k.k in
    let was : List (Option Elem) = c.reserve.new.self in
    let e : Some c.output_element.result ≡ f (offset + k) = sym c.output_element.ensures in
    c.in_ok-push.ensures.ok
    ∙ ap (λ (xs : List (Option Elem)). xs ++ Some c.output_element.result ∷ []) c.loop-k.invariant
    ∙ ap (λ (o : Option Elem). (was ++ map f (range_with_len offset k)) ++ o ∷ []) e
    ∙ append_assoc was (map f (range_with_len offset k)) (f (offset + k) ∷ [])
    ∙ ap (λ ys. was ++ ys) (sym (map-range-add f offset k 1))
