use Rattle.std.proofs.Common.{◌≡◌, ◌∙◌, ◌+◌, ◌-◌, ◌++◌, ◌≤◌, [], ℕ, ap, append-nil, arith, List, min, sym}
use Rattle.std.specs.List.{flat_map, range_with_len}
use Rattle.flow_core_laws.proofs.Stretches.{flat_map-range-add}
use Rattle.flow_core_laws.specs.declared.activation.Activation.{Activation}
use Rattle.osview_stream.specs.Elements.{element_line, position_count}
use Rattle.stream_match_layouts.specs.Layout.{IsLayoutOf}
use Rattle.osview_stream.proofs.lines.elements_text.Goals as goal

pub loop-position-preserved : goal.loop-position-preserved
loop-position-preserved c = λ activations state of are.
    let f = element_line c.args.over.now.lines.now activations c.args.over.now.input.now state c.args.stream in
    let first = c.args.first in
    let p = c.loop-position.position in
    let low : first ≤ p = c.loop-position.auto.position in
    let more : p + 1 - first ≡ p - first + 1 = omega arith in
    let at : first + (p - first) ≡ p = omega arith in
    c.in_ok-add_line.ensures activations state of are ∙ ap (λ x. x ++ f p) (c.loop-position.invariant activations state of are)
    ∙ ap (λ x. flat_map f (range_with_len first (p - first)) ++ x) (sym (append-nil (f p)) ∙ ap (λ (k : ℕ). f k ++ []) (sym at))
    ∙ sym (flat_map-range-add f first (p - first) 1) ∙ ap (λ (n : ℕ). flat_map f (range_with_len first n)) (sym more)

pub returns : goal.returns
returns c = λ activations state of are.
    let f = element_line c.args.over.now.lines.now activations c.args.over.now.input.now state c.args.stream in
    let first = c.args.first in
    c.loop-position.invariant activations state of are ∙ ap (λ (n : ℕ). flat_map f (range_with_len first n)) (reached activations of)
  where
    reached : (activations : List Activation) → IsLayoutOf c.args.over.now.layout.now activations
        → c.loop-position.position - c.args.first ≡ min c.args.count (position_count activations c.args.over.now.input.now c.args.stream - c.args.first)
    reached activations of =
        let all = c.position_count-all.ensures.count activations of in
        let rest = c.saturating_sub.ensures in
        let least = c.min.ensures in
        let end : c.loop-position.position ≡ c.args.first + c.min.result = omega arith in
        omega (arith, all, rest, least, end)

pub add_line-requires-clause-exists : goal.add_line-requires-clause-exists
add_line-requires-clause-exists c =
    let rest = c.saturating_sub.ensures in
    let least = c.min.ensures in
    let low = c.loop-position.auto.position in
    c.position_count-all.ensures.exists (omega (arith, rest, least, low))
