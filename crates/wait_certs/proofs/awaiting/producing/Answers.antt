use Rattle.std.proofs.Common.{◌∙◌, Some, None, ap}
use Rattle.std.specs.Option.{option_map}
use Rattle.stream_match_layouts.specs.declared.span.Span.{Span}
use Rattle.wait_certs.proofs.Reading.{frame_by_number}
use Rattle.wait_certs.proofs.awaiting.producing.Goals as goal

pub returns-in_err-number : goal.returns-in_err-number
returns-in_err-number c = λ activations of. c.from_residual.ensures ∙ frame_by_number c.args.layout.now activations of c.args.stream c.args.position None (c.in_err-number.ensures activations of)

pub returns-in_err-span : goal.returns-in_err-span
returns-in_err-span c = λ activations of.
    c.from_residual-in_err-span.ensures
    ∙ ap (option_map (λ (s : Span). s.frame)) c.in_err-span.ensures
    ∙ frame_by_number c.args.layout.now activations of c.args.stream c.args.position (Some c.in_ok-number.number) (c.in_ok-number.ensures activations of)

pub returns : goal.returns
returns c = λ activations of.
    ap Some c.from.ensures
    ∙ ap (option_map (λ (s : Span). s.frame)) c.in_ok-span.ensures
    ∙ frame_by_number c.args.layout.now activations of c.args.stream c.args.position (Some c.in_ok-number.number) (c.in_ok-number.ensures activations of)
