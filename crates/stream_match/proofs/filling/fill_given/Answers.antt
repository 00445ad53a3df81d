use Rattle.std.proofs.Common.{pos, ◌∙◌, ◌+◌, ◌++◌, ◌∷◌, [], Some, get_or, ap, sym, map, refl, arith}
use Rattle.std.specs.Option.{option_map}
use Rattle.std.specs.List.{range_with_len}
use Rattle.std.proofs.lemmas.List.{append_assoc}
use Rattle.std.proofs.lemmas.List.FromFn.{map-range_with_len_more}
use Rattle.std.proofs.lemmas.Option.{slice_get-get_or}
use Rattle.flow_core_laws.specs.declared.elem.Elem.TheVariants.{Value}
use Rattle.stream_match.specs.EpochPlan.{opening_element}
use Rattle.stream_match.proofs.filling.fill_given.Goals as goal

pub loop-offset-preserved : goal.loop-offset-preserved
loop-offset-preserved c =
    let input = c.args.input.now in
    let f = opening_element input 0 in
    let first = c.args.first in
    let k = c.loop-offset.offset in
    let old = c.args.cells.now in
    c.in_ok-push.ensures.ok
    ∙ ap (λ v. c.loop-offset.cells ++ Some v ∷ []) (c.element_of.ensures ∙ ap (λ n. Value (pos (get_or input (first + n) 0))) c.from.ensures)
    ∙ ap (λ v. c.loop-offset.cells ++ v ∷ []) (sym (ap (option_map (λ byte. Value (pos byte))) (slice_get-get_or input (first + k) 0 (omega (arith, c.requires, c.loop-offset-test.true)))))
    ∙ ap (λ xs. xs ++ f (first + k) ∷ []) c.loop-offset.invariant
    ∙ append_assoc old (map f (range_with_len first k)) (f (first + k) ∷ [])
    ∙ ap (λ xs. old ++ xs) (sym (map-range_with_len_more f first k (first + k) refl))
