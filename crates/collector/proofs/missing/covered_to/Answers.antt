use Rattle.std.proofs.Common.{◌∙◌, ◌+◌, Some, arith, ap, sym, subst}
use Rattle.flow_core_laws.specs.Outcome.{has_end_at}
use Rattle.collector.specs.Walking.{Reaches}
use Rattle.collector.proofs.Producers.{producer_small, reaches, gap_by_nobody, gap_by_producer}
use Rattle.collector.proofs.missing.covered_to.Goals as goal

pub overflow_add-result : goal.overflow_add-result
overflow_add-result c =
    let l = c.requires.layout in
    let small = producer_small c.args.layout.now l c.args.stream c.args.position c.in_ok-span.span (c.in_ok-span.ensures.writer l.activations l.is_of) in
    omega (arith, small, c.from-then-has_end.ensures)

pub returns-then-has_end : goal.returns-then-has_end
returns-then-has_end c = λ activations of.
    subst (λ n. Reaches activations c.args.layout.now.input_len c.args.ends.now.ends c.args.stream c.args.position (Some (c.in_ok-span.span.first + n))) (sym c.from-then-has_end.ensures)
    (reaches activations c.args.layout.now.input_len c.args.ends.now.ends c.args.stream c.args.position c.in_ok-span.span c.requires.produced (c.in_ok-span.ensures.writer activations of) (sym (c.has_end.ensures ∙ ap (has_end_at c.args.ends.now.ends) c.from.ensures) ∙ c.if-has_end.true))

pub returns-in_err-span : goal.returns-in_err-span
returns-in_err-span c = λ activations of.
    subst (Reaches activations c.args.layout.now.input_len c.args.ends.now.ends c.args.stream c.args.position) (sym c.from_residual.ensures)
    (gap_by_nobody activations c.args.layout.now.input_len c.args.ends.now.ends c.args.stream c.args.position c.requires.produced (c.in_err-span.ensures.writer activations of))

pub returns-else-has_end : goal.returns-else-has_end
returns-else-has_end c = λ activations of.
    gap_by_producer activations c.args.layout.now.input_len c.args.ends.now.ends c.args.stream c.args.position c.in_ok-span.span c.requires.produced (c.in_ok-span.ensures.writer activations of) (sym (c.has_end.ensures ∙ ap (has_end_at c.args.ends.now.ends) c.from.ensures) ∙ c.if-has_end.false)
