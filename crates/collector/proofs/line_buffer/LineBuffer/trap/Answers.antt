use Rattle.std.proofs.Common.{◌++◌, ◌∷◌, [], refl, codes}
use Rattle.std.specs.Fmt.{decimal}
use Rattle.collector.proofs.Buffered.{four_parts, on, out}
use Rattle.collector.proofs.line_buffer.LineBuffer.trap.Goals as goal

pub returns-in_err-field : goal.returns-in_err-field
returns-in_err-field g c =
    out _ ((codes " line " ++ decimal c.args.line) ++ ((10 ∷ []))) _ _ c.from_residual.ensures.1 (λ y q. q) c.in_err-field.ensures.err (four_parts (codes " code ") (decimal c.args.code) (codes " line ") (decimal c.args.line) (10 ∷ []))

pub returns-in_err-field-2 : goal.returns-in_err-field-2
returns-in_err-field-2 g c =
    on c.in_ok-field.ensures.ok (out _ ((10 ∷ [])) _ _ c.from_residual-in_err-field-2.ensures.1 (λ y q. q) c.in_err-field-2.ensures.err refl) (four_parts (codes " code ") (decimal c.args.code) (codes " line ") (decimal c.args.line) (10 ∷ []))

pub returns : goal.returns
returns g c =
    on c.in_ok-field.ensures.ok (on c.in_ok-field-2.ensures.ok c.text.ensures refl) (four_parts (codes " code ") (decimal c.args.code) (codes " line ") (decimal c.args.line) (10 ∷ []))
