use Rattle.std.proofs.Common.{◌++◌, ap, ◌∷◌, [], refl, codes}
use Rattle.std.specs.Fmt.{decimal}
use Rattle.collector.specs.Report.{control_line}
use Rattle.collector.proofs.Buffered.{from, on, out}
use Rattle.collector.proofs.line_buffer.LineBuffer.control.Goals as goal

pub returns-in_err-text-in-Trapped : goal.returns-in_err-text-in-Trapped
returns-in_err-text-in-Trapped g c = out _ ((codes " code " ++ decimal c.in-Trapped.code ++ codes " line " ++ decimal c.in-Trapped.line) ++ 10 ∷ []) _ _ c.from_residual.ensures.1 (λ y q. q) c.in_err-text-in-Trapped.ensures.err (ap control_line c.in-Trapped.is)

pub returns-in_err-field-in-Limit : goal.returns-in_err-field-in-Limit
returns-in_err-field-in-Limit g c = out _ (10 ∷ []) _ _ c.from_residual-in_err-field-in-Limit.ensures.1 (λ y q. q) c.in_err-field-in-Limit.ensures.err (ap control_line c.in-Limit.is)

pub returns-in_ok-text-in-Trapped : goal.returns-in_ok-text-in-Trapped
returns-in_ok-text-in-Trapped g c = on c.in_ok-text-in-Trapped.ensures.ok c.trap.ensures (ap control_line c.in-Trapped.is)

pub returns-in-OverBudget : goal.returns-in-OverBudget
returns-in-OverBudget g c = from refl refl c.text-in-OverBudget.ensures (ap control_line c.in-OverBudget.is)

pub returns-in_ok-field-in-Limit : goal.returns-in_ok-field-in-Limit
returns-in_ok-field-in-Limit g c = on c.in_ok-field-in-Limit.ensures.ok c.text-in-Limit.ensures (ap control_line c.in-Limit.is)
