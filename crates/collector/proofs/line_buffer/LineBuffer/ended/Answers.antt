use Rattle.std.proofs.Common.{◌++◌, ap, ◌∙◌, ◌∷◌, [], codes}
use Rattle.std.specs.Fmt.{decimal}
use Rattle.collector.specs.Report.{end_line}
use Rattle.collector.proofs.Buffered.{on, out, six_parts}
use Rattle.collector.proofs.line_buffer.LineBuffer.ended.Goals as goal

pub returns-in_err-field-in-Trapped : goal.returns-in_err-field-in-Trapped
returns-in_err-field-in-Trapped g c = out _ ((codes " code " ++ decimal c.in-Trapped.code ++ codes " line " ++ decimal c.in-Trapped.line) ++ 10 ∷ []) _ _ c.from_residual.ensures.1 (λ y q. q) c.in_err-field-in-Trapped.ensures.err (ap (end_line c.args.frame) c.in-Trapped.is ∙ six_parts (codes "trapped ") (decimal c.args.frame) (codes " code ") (decimal c.in-Trapped.code) (codes " line ") (decimal c.in-Trapped.line) (10 ∷ []))

pub returns-in_err-field-in-OverBudget : goal.returns-in_err-field-in-OverBudget
returns-in_err-field-in-OverBudget g c = out _ (10 ∷ []) _ _ c.from_residual-in_err-field-in-OverBudget.ensures.1 (λ y q. q) c.in_err-field-in-OverBudget.ensures.err (ap (end_line c.args.frame) c.in-OverBudget.is)

pub returns-in_ok-field-in-Trapped : goal.returns-in_ok-field-in-Trapped
returns-in_ok-field-in-Trapped g c = on c.in_ok-field-in-Trapped.ensures.ok c.trap.ensures (ap (end_line c.args.frame) c.in-Trapped.is ∙ six_parts (codes "trapped ") (decimal c.args.frame) (codes " code ") (decimal c.in-Trapped.code) (codes " line ") (decimal c.in-Trapped.line) (10 ∷ []))

pub returns-in_ok-field-in-OverBudget : goal.returns-in_ok-field-in-OverBudget
returns-in_ok-field-in-OverBudget g c = on c.in_ok-field-in-OverBudget.ensures.ok c.text.ensures (ap (end_line c.args.frame) c.in-OverBudget.is)
