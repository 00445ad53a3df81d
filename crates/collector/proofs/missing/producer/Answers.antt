use Rattle.std.proofs.Common.{◌∙◌, Some, None}
use Rattle.collector.proofs.Producers.{covers_if, span_by_number}
use Rattle.collector.proofs.missing.producer.Goals as goal

pub returns-in_err-number-clause-writer : goal.returns-in_err-number-clause-writer
returns-in_err-number-clause-writer c = λ activations of. c.from_residual.ensures ∙ span_by_number c.args.layout.now activations of c.args.stream c.args.position None (c.in_err-number.ensures activations of)

pub returns-clause-writer : goal.returns-clause-writer
returns-clause-writer c = λ activations of. c.get_span.ensures ∙ span_by_number c.args.layout.now activations of c.args.stream c.args.position (Some c.in_ok-number.number) (c.in_ok-number.ensures activations of)

pub returns-clause-covers : goal.returns-clause-covers
returns-clause-covers c =
    let l = c.requires.layout in
    covers_if l.activations c.args.stream c.args.position c.get_span.result
    (c.get_span.ensures ∙ span_by_number c.args.layout.now l.activations l.is_of c.args.stream c.args.position (Some c.in_ok-number.number) (c.in_ok-number.ensures l.activations l.is_of))
