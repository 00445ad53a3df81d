use Rattle.std.proofs.Common.{refl}
use Rattle.std.specs.Fmt.{decimal}
use Rattle.collector.proofs.Buffered.{on, out}
use Rattle.collector.proofs.line_buffer.LineBuffer.field.Goals as goal

pub returns-in_err-text : goal.returns-in_err-text
returns-in_err-text g c = out _ (decimal c.args.number) _ _ c.from_residual.ensures.1 (λ y q. q) c.in_err-text.ensures.err refl

pub returns : goal.returns
returns g c = on c.in_ok-text.ensures.ok c.number.ensures refl
